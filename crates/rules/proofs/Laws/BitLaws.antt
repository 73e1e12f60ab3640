-- A number is its binary digits, and a list of bytes is its bits.
-- Assumes nothing.
use mathlib.Core.Path.{◌≡◌, sym, ap, ◌∙◌}
use mathlib.Core.Bool.{Bool, true, false, ◌&&◌}
use mathlib.Core.List.{List, [], ◌∷◌}
use Prim.Native.Nat.{ℕ, zero, suc, ◌+◌, ◌*◌, ◌-◌, ◌/◌, ◌%◌, ◌^◌, ◌<◌}
use native.Mathlib.Nat.{pow-suc, div-one, mul-zero, mul_assoc, mod-lt, div-add-mod', div-lt_iff_lt-mul}
use native.Mathlib.Omega.{arith}
use lib.Dec.{T, ltb, ltb→lt, lt→ltb}
use lib.ListN.{length, get_or}
use lib.Pow.{shr-shr, are_bytes}
use lib.Seq.{ext_get_or}
use borrow.Author.Tests.{eq-eqb, ne_eqb}
use Rattle.algebra.specs.Tables.{num}
use Rattle.algebra.specs.Words.{Word, bit}
use Rattle.algebra.specs.Remainder.{is_odd}
use Rattle.algebra.proofs.Digits.{num-le, num_odd}
use Rattle.rules.specs.Bits.{bit_at, packed, byte_of}

-- ---- the last digit, and the others

pub odd_last : (x : ℕ) (b : Bool) → is_odd (x * 2 + num b) ≡ b
odd_last x true = eq-eqb ((x * 2 + 1) % 2) 1 (omega arith)
odd_last x false = ne_eqb ((x * 2 + 0) % 2) 1 (λ e. omega arith)

-- digit e + 1 of a number is digit e of its half
pub half_digit : (x e : ℕ) → x / 2 ^ suc e ≡ x / 2 / 2 ^ e
half_digit x e = let p : suc e ≡ 1 + e = omega arith in ap (λ (k : ℕ). x / 2 ^ k) p ∙ sym (shr-shr x 1 e)

-- numbers of m digits, the same ones, are equal
pub same_digits : (m x y : ℕ) → x < 2 ^ m → y < 2 ^ m → ((e : ℕ) → e < m → is_odd (x / 2 ^ e) ≡ is_odd (y / 2 ^ e)) → x ≡ y
same_digits zero x y hx hy h = omega arith
same_digits (suc m) x y hx hy h =
    let up : x / 2 ≡ y / 2 =
    same_digits m (x / 2) (y / 2) (omega (arith, pow-suc 2 m)) (omega (arith, pow-suc 2 m))
    (λ e he. ap is_odd (sym (half_digit x e)) ∙ h (suc e) (omega arith) ∙ ap is_odd (half_digit y e)) in
    let last : x % 2 ≡ y % 2 =
    sym (num_odd x) ∙ ap num (ap is_odd (sym (div-one x)) ∙ h 0 (omega arith) ∙ ap is_odd (div-one y)) ∙ num_odd y in
    omega arith

-- a byte is its eight digits, counted from the top
pub byte_digits : (x y : ℕ) → x < 256 → y < 256 → ((q : ℕ) → q < 8 → is_odd (x / 2 ^ (7 - q)) ≡ is_odd (y / 2 ^ (7 - q))) → x ≡ y
byte_digits x y hx hy h =
    same_digits 8 x y hx hy
    (λ e he. let p : 7 - (7 - e) ≡ e = omega arith in rw p at (h (7 - e) (omega arith)))

-- ---- packed bits

pub packed_lt : (w : Word) (j m : ℕ) → packed w j m < 2 ^ m
unfolding packed
packed_lt w j zero = omega arith
packed_lt w j (suc m) = omega (arith, packed_lt w j m, num-le (bit w (j + m)), pow-suc 2 m)

-- the digit before which e others stand to the right
packed_at : (w : Word) (j m e q : ℕ) → q + suc e ≡ m → is_odd (packed w j m / 2 ^ e) ≡ bit w (j + q)
unfolding packed
packed_at w j zero e q h = absurd (omega arith)
packed_at w j (suc m) zero q h =
    let p : m ≡ q = omega arith in
    ap is_odd (div-one (packed w j m * 2 + num (bit w (j + m))))
    ∙ odd_last (packed w j m) (bit w (j + m))
    ∙ ap (λ (k : ℕ). bit w (j + k)) p
packed_at w j (suc m) (suc e) q h =
    let p : (packed w j m * 2 + num (bit w (j + m))) / 2 ≡ packed w j m = omega (arith, num-le (bit w (j + m))) in
    ap is_odd (half_digit (packed w j m * 2 + num (bit w (j + m))) e ∙ ap (λ (k : ℕ). k / 2 ^ e) p)
    ∙ packed_at w j m e q (omega arith)

pub packed_digit : (w : Word) (j m q : ℕ) → q < m → is_odd (packed w j m / 2 ^ (m - 1 - q)) ≡ bit w (j + q)
packed_digit w j m q h = packed_at w j m (m - 1 - q) q (omega arith)

pub byte_of-lt : (w : Word) (b : ℕ) → byte_of w b < 256
byte_of-lt w b = packed_lt w (b * 8) 8

pub byte_of_digit : (w : Word) (b q : ℕ) → q < 8 → is_odd (byte_of w b / 2 ^ (7 - q)) ≡ bit w (b * 8 + q)
byte_of_digit w b q h = packed_digit w (b * 8) 8 q h

-- ---- bits of a list of bytes

pub bit_at_split : (s : List ℕ) (b q : ℕ) → q < 8 → bit_at s (b * 8 + q) ≡ is_odd (get_or s b 0 / 2 ^ (7 - q))
unfolding bit_at
bit_at_split s b q h =
    let d : (b * 8 + q) / 8 ≡ b = omega arith in
    let m : (b * 8 + q) % 8 ≡ q = omega arith in
    rw (d, m)

positive : (p n r : ℕ) → p < n * r → 0 < r
positive p n zero h = absurd (omega (arith, mul-zero n))
positive p n (suc r) h = omega arith

-- lists of n rows of r bytes with the same bits are equal
pub bytes_ext :
    (n r : ℕ) (s t : List ℕ) → length s ≡ n * r → length t ≡ n * r
    → ((p : ℕ) → get_or s p 0 < 256) → ((p : ℕ) → get_or t p 0 < 256)
    → ((i j : ℕ) → i < n → j < r * 8 → bit_at s (i * (r * 8) + j) ≡ bit_at t (i * (r * 8) + j)) → s ≡ t
bytes_ext n r s t hs ht bs bt h =
    ext_get_or 0 s t (hs ∙ sym ht)
    (λ p hp. byte_digits (get_or s p 0) (get_or t p 0) (bs p) (bt p)
    (λ q hq.
    let hn : p < n * r = omega arith in
    let pos : 0 < r = positive p n r hn in
    let e : p / r * (r * 8) + (p % r * 8 + q) ≡ p * 8 + q = omega (arith, mul_assoc (p / r) r 8, div-add-mod' p r) in
    sym (bit_at_split s p q hq)
    ∙ (rw e at (h (p / r) (p % r * 8 + q) ((div-lt_iff_lt-mul pos).1 hn) (omega (arith, mod-lt p pos))))
    ∙ bit_at_split t p q hq))

-- ---- the test for bytes

and_T : (a b : Bool) → T (a && b) → T a × T b
and_T true b t = (tt, t)
and_T false b t = absurd t

T_and : (a b : Bool) → T a → T b → T (a && b)
T_and true b s t = t
T_and false b s t = absurd s

pub byte_at : (s : List ℕ) → T (are_bytes s) → (p : ℕ) → get_or s p 0 < 256
byte_at [] t p = omega arith
byte_at (x ∷ s) t zero = ltb→lt x 256 (and_T (ltb x 256) (are_bytes s) t).0
byte_at (x ∷ s) t (suc p) = byte_at s (and_T (ltb x 256) (are_bytes s) t).1 p

pub at_byte : (s : List ℕ) → ((p : ℕ) → get_or s p 0 < 256) → T (are_bytes s)
at_byte [] h = tt
at_byte (x ∷ s) h = T_and (ltb x 256) (are_bytes s) (lt→ltb x 256 (h 0)) (at_byte s (λ p. h (suc p)))
