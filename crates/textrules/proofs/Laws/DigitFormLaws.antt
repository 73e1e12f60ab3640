-- A text passes as a decimal, or as hex, exactly if it is written so.
-- Assumes nothing.
use mathlib.Core.Path.{◌≡◌, refl, sym, ap, ap₂, ◌∙◌}
use mathlib.Core.Logic.{◌≢◌}
use mathlib.Core.Bool.{Bool, true, false, not, ◌&&◌, ◌||◌, or-true, true≢false, false≢true}
use mathlib.Core.List.{List, [], ◌∷◌, ◌++◌}
use Prim.Native.Nat.{ℕ, suc, ◌+◌, ◌*◌, ◌-◌, ◌/◌, ◌%◌, ◌^◌, ◌≤◌, ◌<◌}
use native.Mathlib.Decide.{dec_lt, ℕ_discrete}
use native.Mathlib.Omega.{arith}
use lib.Dec.{eqb, leb, ltb, leb→le}
use lib.ListN.{length, get_or}
use borrow.Author.Tests.{eqb-true, eqb-false, eq-eqb, ne_eqb, leb-true, le-leb, ltb-true, not-false, not-true}
use Rattle.algebra.specs.Sums.{AllN}
use Rattle.algebra.specs.Tables.{tab, tab_from, ones}
use Rattle.algebra.proofs.TableLaws.{count-zero, tab-suc, tab_ext}
use Rattle.rules.proofs.Laws.OneOfLaws.{and_both}
use Rattle.textrules.specs.Text.{Text, every, is_digit, is_decimal, decimal_value, value_from, decimal, is_hex_digit, hex_value, is_hex, hex_bytes, hex_digit, hex_text}
use Rattle.textrules.proofs.Laws.TextLaws.{all_so, every_all, all_every, Digit, decimal_small, decimal_digits, decimal_first, decimal-some, decimal_short, decimal_long, value_decimal}

-- ---- decimals

-- nine digits are a number below a thousand million
pub nine_digits : (x : ℕ) → length (decimal x) ≤ 9 → x < 10 ^ 9
nine_digits x h = go (dec_lt x (10 ^ 9))
  where
    go : Dec (x < 10 ^ 9) → x < 10 ^ 9
    go (yes l) = l
    go (no l) = absurd (omega (arith, h, decimal_long 9 x (omega (arith, l))))

-- the test of one digit
digit_test : (c : ℕ) → Digit c → is_digit c ≡ true
digit_test c h = ap₂ ◌&&◌ (le-leb 48 c h.0) (le-leb c 57 h.1)

test_digit : (c : ℕ) → is_digit c ≡ true → Digit c
test_digit c h = let k = and_both (leb 48 c) (leb c 57) h in (leb-true 48 c k.0, leb-true c 57 k.1)

all_first : (P : ℕ → Type 0) (s : Text) → 1 ≤ length s → AllN P s → P (get_or s 0 0)
all_first P [] h k = absurd (omega (arith, h))
all_first P (x ∷ s) h k = k.0

-- a decimal passes
pub decimal_good : (x : ℕ) → x < 10 ^ 9 → is_decimal (decimal x) ≡ true
unfolding is_decimal
decimal_good x h =
    let some = le-leb 1 (length (decimal x)) (decimal-some x) in
    let most = le-leb (length (decimal x)) 9 (decimal_short x 9 h (omega arith)) in
    let all = all_every is_digit (decimal x) (all_so Digit (λ c. is_digit c ≡ true) digit_test (decimal x) (decimal_digits x)) in
    rw (some, most, all) (go (ℕ_discrete x 0))
  where
    first : ℕ
    first = get_or (decimal x) 0 0

    go : Dec (x ≡ 0) → (eqb (length (decimal x)) 1 || not (eqb (first - 48) 0)) ≡ true
    go (yes z) = let one = eq-eqb (length (decimal x)) 1 (ap length (decimal_small x (omega (arith, z)))) in rw one
    go (no z) =
        let digit = all_first Digit (decimal x) (decimal-some x) (decimal_digits x) in
        let other = ne_eqb (first - 48) 0 (λ e. decimal_first x z (omega (arith, e, digit.0))) in
        rw other (or-true (eqb (length (decimal x)) 1))

-- what passes is a decimal
first_digit :
    (c : ℕ) (t : Text) → Digit c → AllN Digit t → (eqb (length (c ∷ t)) 1 || not (eqb (c - 48) 0)) ≡ true
    → c ∷ t ≡ decimal (decimal_value (c ∷ t))
unfolding value_from
first_digit c [] h k e =
    let d : ℕ = 0 * 10 + (c - 48) in
    let same : 48 + d ≡ c = omega (arith, h.0) in
    ap (λ x. x ∷ []) (sym same) ∙ sym (decimal_small d (omega (arith, h.1)))
first_digit c (x ∷ t) h k e =
    let some : c - 48 ≢ 0 =
    other (eqb (suc (suc (length t))) 1) (ne_eqb (suc (suc (length t))) 1 (λ z. omega (arith, z))) e in
    let d : ℕ = 0 * 10 + (c - 48) in
    let same : 48 + d ≡ c = omega (arith, h.0) in
    sym (value_decimal d (x ∷ t) (omega (arith, some)) k
    ∙ ap (λ u. u ++ x ∷ t) (decimal_small d (omega (arith, h.1)) ∙ ap (λ y. y ∷ []) same))
  where
    other : (b : Bool) → b ≡ false → (b || not (eqb (c - 48) 0)) ≡ true → c - 48 ≢ 0
    other true f e = absurd (true≢false f)
    other false f e = eqb-false (c - 48) 0 (not-true (eqb (c - 48) 0) e)

pub good_decimal : (s : Text) → is_decimal s ≡ true → (s ≡ decimal (decimal_value s)) × (decimal_value s < 10 ^ 9)
unfolding is_decimal
good_decimal s h =
    let k = and_both (leb 1 (length s) && leb (length s) 9 && every is_digit s) _ h in
    let l = and_both (leb 1 (length s) && leb (length s) 9) (every is_digit s) k.0 in
    let m = and_both (leb 1 (length s)) (leb (length s) 9) l.0 in
    let d = all_so (λ c. is_digit c ≡ true) Digit test_digit s (every_all is_digit s l.1) in
    let is = go s (leb-true 1 (length s) m.0) d k.1 in
    (is, nine_digits (decimal_value s) (rw (← is) (leb-true (length s) 9 m.1)))
  where
    go :
        (s : Text) → 1 ≤ length s → AllN Digit s → (eqb (length s) 1 || not (eqb (get_or s 0 0 - 48) 0)) ≡ true
        → s ≡ decimal (decimal_value s)
    go [] some d e = absurd (omega (arith, some))
    go (c ∷ t) some d e = first_digit c t d.0 d.1 e

-- nine nines are nine digits
pub nine_nines : length (decimal 999999999) ≡ 9
nine_nines =
    let least = decimal_long 8 999999999 (leb→le (10 ^ 8) 999999999 tt) in
    let most = decimal_short 999999999 9 (leb→le 1000000000 (10 ^ 9) tt) (omega arith) in
    omega (arith, least, most)

-- ---- hex: one byte more

hex_bytes-none : hex_bytes [] ≡ []
unfolding hex_bytes tab tab_from
hex_bytes-none = refl

hex_bytes-two : (a b : ℕ) (s : Text) → hex_bytes (a ∷ b ∷ s) ≡ (hex_value a * 16 + hex_value b) ∷ hex_bytes s
unfolding hex_bytes
hex_bytes-two a b s =
    let two : suc (suc (length s)) / 2 ≡ suc (length s / 2) = omega arith in
    ap (λ m. tab m (λ i. hex_value (get_or (a ∷ b ∷ s) (2 * i) 0) * 16 + hex_value (get_or (a ∷ b ∷ s) (2 * i + 1) 0))) two
    ∙ tab-suc (length s / 2) (λ i. hex_value (get_or (a ∷ b ∷ s) (2 * i) 0) * 16 + hex_value (get_or (a ∷ b ∷ s) (2 * i + 1) 0))
    ∙ ap (λ l. (hex_value a * 16 + hex_value b) ∷ l)
    (tab_ext (length s / 2) (λ i. hex_value (get_or (a ∷ b ∷ s) (2 * suc i) 0) * 16 + hex_value (get_or (a ∷ b ∷ s) (2 * suc i + 1) 0))
    (λ i. hex_value (get_or s (2 * i) 0) * 16 + hex_value (get_or s (2 * i + 1) 0))
    (λ i h.
    let e : 2 * suc i ≡ suc (suc (2 * i)) = omega arith in
    let f : 2 * suc i + 1 ≡ suc (suc (2 * i + 1)) = omega arith in
    ap₂ (λ p q. hex_value (get_or (a ∷ b ∷ s) p 0) * 16 + hex_value (get_or (a ∷ b ∷ s) q 0)) e f))

-- ---- hex: one digit

-- both ways: antt tries all values, and all signs up to `F`
digit_back : (h : ℕ) → h < 16 → (hex_value (hex_digit h) ≡ h) × (is_hex_digit (hex_digit h) ≡ true)
unfolding tab tab_from ones
digit_back h l =
    let k =
    and_both (eqb (hex_value (hex_digit h)) h) (is_hex_digit (hex_digit h))
    (not-false _ (count-zero 16 (λ h. not (eqb (hex_value (hex_digit h)) h && is_hex_digit (hex_digit h))) refl h l)) in
    (eqb-true (hex_value (hex_digit h)) h k.0, k.1)

-- `F` is 70
digit_small : (x : ℕ) → is_hex_digit x ≡ true → x < 71
digit_small x h = go (is_digit x) (leb 65 x) (leb x 70) refl refl h
  where
    go : (a b c : Bool) → is_digit x ≡ a → leb x 70 ≡ c → (a || (b && c)) ≡ true → x < 71
    go true b c d e h = omega (arith, (test_digit x d).1)
    go false true true d e h = omega (arith, leb-true x 70 e)
    go false true false d e h = absurd (false≢true h)
    go false false c d e h = absurd (false≢true h)

digit_only : (x : ℕ) → is_hex_digit x ≡ true → (hex_digit (hex_value x) ≡ x) × (hex_value x < 16)
unfolding tab tab_from ones
digit_only x h =
    let k =
    and_both (eqb (hex_digit (hex_value x)) x) (ltb (hex_value x) 16)
    (go (is_hex_digit x) (eqb (hex_digit (hex_value x)) x && ltb (hex_value x) 16) h
    (count-zero 71 (λ x. is_hex_digit x && not (eqb (hex_digit (hex_value x)) x && ltb (hex_value x) 16)) refl x (digit_small x h))) in
    (eqb-true (hex_digit (hex_value x)) x k.0, ltb-true (hex_value x) 16 k.1)
  where
    go : (a b : Bool) → a ≡ true → (a && not b) ≡ false → b ≡ true
    go true b e h = not-false b h
    go false b e h = absurd (false≢true e)

-- ---- hex: any number of bytes

-- what is written is read back
pub hex_back : (bytes : List ℕ) → AllN (λ x. x < 256) bytes → hex_bytes (hex_text bytes) ≡ bytes
unfolding hex_text
hex_back [] h = hex_bytes-none
hex_back (x ∷ bytes) h =
    let low = (digit_back (x % 16) (omega arith)).0 in
    let high = (digit_back (x / 16) (omega (arith, h.0))).0 in
    let here : hex_value (hex_digit (x / 16)) * 16 + hex_value (hex_digit (x % 16)) ≡ x =
    ap₂ (λ p q. p * 16 + q) high low ∙ omega arith in
    hex_bytes-two (hex_digit (x / 16)) (hex_digit (x % 16)) (hex_text bytes) ∙ ap₂ ◌∷◌ here (hex_back bytes h.1)

-- each character passes, there are two a byte, and so the whole passes
pub hex_all : (bytes : List ℕ) → AllN (λ x. x < 256) bytes → AllN (λ x. is_hex_digit x ≡ true) (hex_text bytes)
unfolding hex_text
hex_all [] h = tt
hex_all (x ∷ bytes) h =
    ((digit_back (x / 16) (omega (arith, h.0))).1, ((digit_back (x % 16) (omega arith)).1, hex_all bytes h.1))

pub hex_length : (bytes : List ℕ) → length (hex_text bytes) ≡ 2 * length bytes
unfolding hex_text
hex_length [] = refl
hex_length (x ∷ bytes) = omega (arith, hex_length bytes)

pub hex_good : (bytes : List ℕ) → AllN (λ x. x < 256) bytes → is_hex (hex_text bytes) ≡ true
unfolding is_hex
hex_good bytes h =
    let even : length (hex_text bytes) % 2 ≡ 0 = omega (arith, hex_length bytes) in
    ap₂ ◌&&◌ (eq-eqb (length (hex_text bytes) % 2) 0 even) (all_every is_hex_digit (hex_text bytes) (hex_all bytes h))

-- what passes is written so
hex_only :
    (s : Text) → length s % 2 ≡ 0 → AllN (λ x. is_hex_digit x ≡ true) s
    → (s ≡ hex_text (hex_bytes s)) × AllN (λ x. x < 256) (hex_bytes s)
unfolding hex_text
hex_only [] e h = (sym (ap hex_text hex_bytes-none), rw hex_bytes-none tt)
hex_only (a ∷ []) e h = absurd (omega (arith, e))
hex_only (a ∷ b ∷ s) e h =
    let ih = hex_only s (omega (arith, e)) h.1.1 in
    let high = digit_only a h.0 in
    let low = digit_only b h.1.0 in
    let x : ℕ = hex_value a * 16 + hex_value b in
    let p : x / 16 ≡ hex_value a = omega (arith, low.1) in
    let q : x % 16 ≡ hex_value b = omega (arith, low.1) in (
      sym (ap hex_text (hex_bytes-two a b s) ∙ ap₂ (λ y z. hex_digit y ∷ hex_digit z ∷ hex_text (hex_bytes s)) p q
          ∙ ap₂ (λ y z. y ∷ z ∷ hex_text (hex_bytes s)) high.0 low.0 ∙ ap (λ t. a ∷ b ∷ t) (sym ih.0)),
      rw (hex_bytes-two a b s) (omega (arith, high.1, low.1), ih.1),
    )

pub good_hex : (s : Text) → is_hex s ≡ true → (s ≡ hex_text (hex_bytes s)) × AllN (λ x. x < 256) (hex_bytes s)
unfolding is_hex
good_hex s h =
    let k = and_both (eqb (length s % 2) 0) (every is_hex_digit s) h in
    hex_only s (eqb-true (length s % 2) 0 k.0) (every_all is_hex_digit s k.1)
