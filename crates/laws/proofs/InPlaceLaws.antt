-- Words anywhere in a buffer, and bits changed in place.
-- Assumes nothing.
use mathlib.Core.Path.{◌≡◌, refl, sym, ap, ◌∙◌}
use mathlib.Core.Logic.{◌≢◌}
use mathlib.Core.Bool.{Bool, true, false, not, cond, xor}
use mathlib.Core.List.{List}
use Prim.Native.Nat.{ℕ, zero, suc, ◌+◌, ◌*◌, ◌-◌, ◌/◌, ◌%◌, ◌^◌, ◌≤◌, ◌<◌}
use native.Mathlib.Nat.{pow-suc, div-one, suc-mul, mul-le-mul_right, zero-div}
use native.Mathlib.Decide.{dec_lt, ℕ_discrete}
use native.Mathlib.Omega.{arith}
use lib.Dec.{eqb}
use lib.ListN.{length, get_or, set, length-set}
use lib.Pow.{pow-lt}
use lib.Seq.{ext_get_or, set_out, get_or-set_same, get_or-set_other}
use Rattle.algebra.specs.Xor.{◌⊕◌}
use Rattle.algebra.specs.Words.{Word, bit}
use Rattle.algebra.specs.Remainder.{is_odd}
use Rattle.algebra.proofs.Digits.{digit_case}
use Rattle.algebra.proofs.XorLaws.{⊕-zero, ⊕-lt, ⊕-div, ⊕_digit}
use Rattle.algebra.proofs.TableLaws.{tab-length}
use Rattle.rules.specs.Bits.{bit_at}
use Rattle.rules.proofs.Laws.Shape.{bit_tab}
use Rattle.rules.proofs.Laws.BitLaws.{half_digit, byte_digits, bit_at_split}
use Rattle.laws.specs.InPlace.{bits_at, word_at, flip_at, put_bit, put}

-- every entry is a byte
abbrev pub Bytes : List ℕ → Type 0
Bytes s = (p : ℕ) → get_or s p 0 < 256

-- ---- a word

pub word_at-length : (n : ℕ) (s : List ℕ) (start step : ℕ) → length (word_at n s start step) ≡ n
unfolding word_at
word_at-length n s start step = tab-length n (bits_at s start step)

pub word_at-bit : (n : ℕ) (s : List ℕ) (start step j : ℕ) → j < n → bit (word_at n s start step) j ≡ bit_at s (start + j * step)
unfolding word_at bits_at
word_at-bit n s start step j h = bit_tab n (bits_at s start step) j h

-- ---- the digits of a byte with one of them negated

power_digit : (e k : ℕ) → k ≢ e → 2 ^ e / 2 ^ k % 2 ≡ 0
power_digit zero zero h = absurd (h refl)
power_digit zero (suc k) h =
    ap (λ (m : ℕ). m % 2) (half_digit 1 k ∙ zero-div (2 ^ k))
power_digit (suc e) zero h = omega (arith, div-one (2 ^ suc e), pow-suc 2 e)
power_digit (suc e) (suc k) h =
    let p : 2 ^ suc e / 2 ≡ 2 ^ e = omega (arith, pow-suc 2 e) in
    ap (λ (m : ℕ). m % 2) (half_digit (2 ^ suc e) k ∙ ap (λ (m : ℕ). m / 2 ^ k) p)
    ∙ power_digit e k (λ q. h (ap suc q))

power_self : (e : ℕ) → 2 ^ e / 2 ^ e ≡ 1
power_self zero = refl
power_self (suc e) =
    let p : 2 ^ suc e / 2 ≡ 2 ^ e = omega (arith, pow-suc 2 e) in
    half_digit (2 ^ suc e) e ∙ ap (λ (m : ℕ). m / 2 ^ e) p ∙ power_self e

digit_of : (x e k : ℕ) → (x ⊕ 2 ^ e) / 2 ^ k % 2 ≡ x / 2 ^ k % 2 ⊕ 2 ^ e / 2 ^ k % 2
digit_of x e k = ap (λ (m : ℕ). m % 2) (⊕-div k x (2 ^ e)) ∙ ⊕_digit (x / 2 ^ k) (2 ^ e / 2 ^ k)

flipped_other : (x e k : ℕ) → k ≢ e → is_odd ((x ⊕ 2 ^ e) / 2 ^ k) ≡ is_odd (x / 2 ^ k)
flipped_other x e k h =
    ap (λ (m : ℕ). eqb m 1)
    (digit_of x e k ∙ ap (λ (m : ℕ). x / 2 ^ k % 2 ⊕ m) (power_digit e k h) ∙ ⊕-zero (x / 2 ^ k % 2))

flipped_same : (x e : ℕ) → is_odd ((x ⊕ 2 ^ e) / 2 ^ e) ≡ not (is_odd (x / 2 ^ e))
unfolding ◌⊕◌
flipped_same x e =
    ap (λ (m : ℕ). eqb m 1)
    (digit_of x e e ∙ ap (λ (m : ℕ). x / 2 ^ e % 2 ⊕ m) (ap (λ (m : ℕ). m % 2) (power_self e)))
    ∙ digit_case (λ d. eqb (d ⊕ 1) 1 ≡ not (eqb d 1)) refl refl (x / 2 ^ e % 2) (omega arith)

-- ---- one bit flipped

pub flip_at-length : (s : List ℕ) (x : ℕ) → length (flip_at s x) ≡ length s
unfolding flip_at
flip_at-length s x = length-set s (x / 8) (get_or s (x / 8) 0 ⊕ 2 ^ (7 - x % 8))

-- bytes stay bytes where one is set
set_byte : (s : List ℕ) (i v : ℕ) → Bytes s → v < 256 → Bytes (set s i v)
set_byte s i v b small p = go (ℕ_discrete p i) (dec_lt i (length s))
  where
    go : Dec (p ≡ i) → Dec (i < length s) → get_or (set s i v) p 0 < 256
    go (yes e) (yes l) = rw (e, get_or-set_same s i v 0 l) small
    go (yes e) (no l) = rw (set_out s i v (omega (arith, l))) (b p)
    go (no e) l = rw (get_or-set_other s i p v 0 e) (b p)

pub flip_at_byte : (s : List ℕ) (x : ℕ) → Bytes s → Bytes (flip_at s x)
unfolding flip_at
flip_at_byte s x b =
    set_byte s (x / 8) (get_or s (x / 8) 0 ⊕ 2 ^ (7 - x % 8)) b (⊕-lt 8 (b (x / 8)) (pow-lt {j = 8} (omega arith)))

pub flip_at-same : (s : List ℕ) (x : ℕ) → x < length s * 8 → bit_at (flip_at s x) x ≡ not (bit_at s x)
unfolding flip_at bit_at
flip_at-same s x h =
    let l : x / 8 < length s = omega arith in
    ap (λ (v : ℕ). is_odd (v / 2 ^ (7 - x % 8))) (get_or-set_same s (x / 8) (get_or s (x / 8) 0 ⊕ 2 ^ (7 - x % 8)) 0 l)
    ∙ flipped_same (get_or s (x / 8) 0) (7 - x % 8)

pub flip_at-other : (s : List ℕ) (x y : ℕ) → y ≢ x → bit_at (flip_at s x) y ≡ bit_at s y
unfolding flip_at bit_at
flip_at-other s x y h = go (get_or s (x / 8) 0 ⊕ 2 ^ (7 - x % 8)) refl (ℕ_discrete (y / 8) (x / 8)) (dec_lt (x / 8) (length s))
  where
    go :
        (v : ℕ) → v ≡ get_or s (x / 8) 0 ⊕ 2 ^ (7 - x % 8) → Dec (y / 8 ≡ x / 8) → Dec (x / 8 < length s)
        → is_odd (get_or (set s (x / 8) v) (y / 8) 0 / 2 ^ (7 - y % 8)) ≡ is_odd (get_or s (y / 8) 0 / 2 ^ (7 - y % 8))
    go v is (yes e) (yes l) =
        rw (e, get_or-set_same s (x / 8) v 0 l, is)
        (flipped_other (get_or s (x / 8) 0) (7 - x % 8) (7 - y % 8) (λ q. h (omega arith)))
    go v is (yes e) (no l) = rw (set_out s (x / 8) v (omega (arith, l)))
    go v is (no e) l = rw (get_or-set_other s (x / 8) (y / 8) v 0 e)

-- ---- one bit put

pub put_bit-length : (s : List ℕ) (x : ℕ) (b : Bool) → length (put_bit s x b) ≡ length s
unfolding put_bit
put_bit-length s x b = go (xor (bit_at s x) b)
  where
    go : (c : Bool) → length (cond c (flip_at s x) s) ≡ length s
    go true = flip_at-length s x
    go false = refl

pub put_bit_byte : (s : List ℕ) (x : ℕ) (b : Bool) → Bytes s → Bytes (put_bit s x b)
unfolding put_bit
put_bit_byte s x b h = go (xor (bit_at s x) b)
  where
    go : (c : Bool) → Bytes (cond c (flip_at s x) s)
    go true = flip_at_byte s x h
    go false = h

pub put_bit-same : (s : List ℕ) (x : ℕ) (b : Bool) → x < length s * 8 → bit_at (put_bit s x b) x ≡ b
unfolding put_bit xor
put_bit-same s x b h = go (bit_at s x) b refl
  where
    go : (c b : Bool) → bit_at s x ≡ c → bit_at (cond (xor c b) (flip_at s x) s) x ≡ b
    go true true e = e
    go true false e = flip_at-same s x h ∙ ap not e
    go false true e = flip_at-same s x h ∙ ap not e
    go false false e = e

pub put_bit-other : (s : List ℕ) (x : ℕ) (b : Bool) (y : ℕ) → y ≢ x → bit_at (put_bit s x b) y ≡ bit_at s y
unfolding put_bit
put_bit-other s x b y h = go (xor (bit_at s x) b)
  where
    go : (c : Bool) → bit_at (cond c (flip_at s x) s) y ≡ bit_at s y
    go true = flip_at-other s x y h
    go false = refl

-- ---- a word put

pub put-length : (m : ℕ) (s : List ℕ) (start step : ℕ) (u : Word) → length (put m s start step u) ≡ length s
unfolding put
put-length zero s start step u = refl
put-length (suc m) s start step u =
    put_bit-length (put m s start step u) (start + m * step) (bit u m) ∙ put-length m s start step u

pub put_byte : (m : ℕ) (s : List ℕ) (start step : ℕ) (u : Word) → Bytes s → Bytes (put m s start step u)
unfolding put
put_byte zero s start step u b = b
put_byte (suc m) s start step u b =
    put_bit_byte (put m s start step u) (start + m * step) (bit u m) (put_byte m s start step u b)

-- different places of a word lie apart
pub apart : (j m step : ℕ) → 1 ≤ step → j < m → j * step < m * step
apart j m step h l = omega (arith, suc-mul j step, mul-le-mul_right step l)

-- what is put at a place stands there
pub put_in :
    (m : ℕ) (s : List ℕ) (start step : ℕ) (u : Word) (j : ℕ) → 1 ≤ step → j < m → start + j * step < length s * 8
    → bit_at (put m s start step u) (start + j * step) ≡ bit u j
unfolding put
put_in zero s start step u j h l b = absurd (omega arith)
put_in (suc m) s start step u j h l b =
    go (put m s start step u) (put-length m s start step u) (ℕ_discrete j m) (λ k. put_in m s start step u j h k b)
  where
    go :
        (t : List ℕ) → length t ≡ length s → Dec (j ≡ m) → (j < m → bit_at t (start + j * step) ≡ bit u j)
        → bit_at (put_bit t (start + m * step) (bit u m)) (start + j * step) ≡ bit u j
    go t long (yes e) rec =
        rw e (put_bit-same t (start + m * step) (bit u m) (rw long (rw e at b)))
    go t long (no e) rec =
        let k : j < m = omega (arith, e) in
        put_bit-other t (start + m * step) (bit u m) (start + j * step) (λ q. omega (arith, q, apart j m step h k)) ∙ rec k

-- and all else stays
pub put_out :
    (m : ℕ) (s : List ℕ) (start step : ℕ) (u : Word) (x : ℕ) → ((j : ℕ) → j < m → x ≢ start + j * step)
    → bit_at (put m s start step u) x ≡ bit_at s x
unfolding put
put_out zero s start step u x h = refl
put_out (suc m) s start step u x h =
    put_bit-other (put m s start step u) (start + m * step) (bit u m) x (h m (omega arith))
    ∙ put_out m s start step u x (λ j l. h j (omega arith))

-- bytes are known by their bits
pub bits_ext :
    (s t : List ℕ) → length s ≡ length t → Bytes s → Bytes t → ((x : ℕ) → x < length s * 8 → bit_at s x ≡ bit_at t x) → s ≡ t
bits_ext s t e bs bt h =
    ext_get_or 0 s t e
    (λ p hp. byte_digits (get_or s p 0) (get_or t p 0) (bs p) (bt p)
    (λ q hq. sym (bit_at_split s p q hq) ∙ h (p * 8 + q) (omega arith) ∙ bit_at_split t p q hq))
