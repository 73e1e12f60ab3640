-- Laws of what is read: digits in decimal and in hex.
-- Assumes nothing.
use mathlib.Core.Path.{◌≡◌, refl, sym, ap, ap₂, ◌∙◌}
use mathlib.Core.Logic.{◌≢◌}
use mathlib.Core.Bool.{Bool, true, false, not, ◌&&◌, ◌||◌, and-false}
use mathlib.Core.List.{List, [], ◌∷◌}
use Prim.Native.Nat.{ℕ, zero, suc, ◌+◌, ◌*◌, ◌-◌, ◌/◌, ◌%◌, ◌^◌, ◌≤◌, ◌<◌}
use native.Mathlib.Nat.{pow-suc}
use native.Mathlib.Numerals.{add-one}
use native.Mathlib.Omega.{arith}
use lib.Dec.{eqb, leb}
use lib.ListN.{length, take, drop, get_or, set, drop_of_length-le}
use lib.Seq.{drop-cons, take_at, length-take-le}
use borrow.Author.Tests.{leb-true, le-leb, lt-leb, eqb-false, eq-eqb, ne_eqb}
use Rattle.std.specs.Prelude.{Option, Some, None}
use Rattle.std.specs.List.{list_all}
use Rattle.std.specs.Simd.{first_chunks}
use Rattle.std.proofs.lemmas.List.Recursion.{and_at}
use Rattle.algebra.proofs.TableLaws.{tab-length, tab_at}
use Rattle.rules.specs.Numbers.{pick}
use Rattle.textrules.specs.Text.{Text, every, is_digit, digit_value, is_decimal, value_from, decimal_value, is_hex_digit, hex_value, is_hex, hex_bytes}
use Rattle.rules.proofs.Laws.OneOfLaws.{and_both}
use Rattle.text.specs.Laid.{laid}
use Rattle.text.specs.Read.{decimal_of, digits_of}
use Rattle.text.proofs.LaidLaws.{laid_step}

-- ---- every entry of a text

every_is : (p : ℕ → Bool) (s : Text) → every p s ≡ list_all p s
unfolding every
every_is p [] = refl
every_is p (x ∷ s) = ap (λ (b : Bool). p x && b) (every_is p s)

pub every_at : (p : ℕ → Bool) (s : Text) (i : ℕ) → every p s ≡ true → i < length s → p (get_or s i 0) ≡ true
unfolding every
every_at p s i e h = and_at (every p) p refl (λ _ _. refl) s i 0 h e

-- ---- one hex digit

pub hex_digit_below : {x : ℕ} → x < 48 → false ≡ is_hex_digit x
hex_digit_below {x} h =
    let a : leb 48 x ≡ false = lt-leb 48 x h in
    let b : leb 65 x ≡ false = lt-leb 65 x (omega arith) in
    sym (ap₂ (λ (u v : Bool). (u && leb x 57) || (v && leb x 70)) a b)

pub hex_digit_figure : {x : ℕ} → 48 ≤ x → x ≤ 57 → true ≡ is_hex_digit x
hex_digit_figure {x} h k =
    let a : leb 48 x ≡ true = le-leb 48 x h in
    let b : leb x 57 ≡ true = le-leb x 57 k in
    sym (ap₂ (λ (u v : Bool). (u && v) || (leb 65 x && leb x 70)) a b)

pub hex_digit_between : {x : ℕ} → 57 < x → x < 65 → false ≡ is_hex_digit x
hex_digit_between {x} h k =
    let a : (leb 48 x && leb x 57) ≡ false = ap (λ (u : Bool). leb 48 x && u) (lt-leb x 57 h) ∙ and-false (leb 48 x) in
    let b : leb 65 x ≡ false = lt-leb 65 x k in
    sym (ap₂ (λ (u v : Bool). u || (v && leb x 70)) a b)

pub hex_digit_letter : {x : ℕ} → 65 ≤ x → leb x 70 ≡ is_hex_digit x
hex_digit_letter {x} h =
    let a : (leb 48 x && leb x 57) ≡ false =
    ap (λ (u : Bool). leb 48 x && u) (lt-leb x 57 (omega arith)) ∙ and-false (leb 48 x) in
    let b : leb 65 x ≡ true = le-leb 65 x h in
    sym (ap₂ (λ (u v : Bool). u || (v && leb x 70)) a b)

-- ---- hex

pub hex_even : (s : Text) {b : Bool} → length s % 2 ≡ 0 → b ≡ list_all is_hex_digit s → b ≡ is_hex s
unfolding is_hex
hex_even s {b} h e = e ∙ sym (ap₂ ◌&&◌ (eq-eqb (length s % 2) 0 h) (every_is is_hex_digit s))

pub hex_odd : (s : Text) → length s % 2 ≢ 0 → eqb (length s % 2) 0 ≡ is_hex s
unfolding is_hex
hex_odd s h = let e = ne_eqb (length s % 2) 0 h in e ∙ sym (ap (λ (b : Bool). b && every is_hex_digit s) e)

pub hex_at : (s : Text) {j : ℕ} → is_hex s ≡ true → j < length s → is_hex_digit (get_or s j 0) ≡ true
unfolding is_hex
hex_at s {j} e h = every_at is_hex_digit s j (and_both (eqb (length s % 2) 0) (every is_hex_digit s) e).1 h

pub hex_bytes_length : (s : Text) → length (hex_bytes s) ≡ length s / 2
unfolding hex_bytes
hex_bytes_length s = tab-length (length s / 2) (λ i. hex_value (get_or s (2 * i) 0) * 16 + hex_value (get_or s (2 * i + 1) 0))

hex_bytes_at :
    (s : Text) (i : ℕ) → i < length s / 2
    → get_or (hex_bytes s) i 0 ≡ hex_value (get_or s (2 * i) 0) * 16 + hex_value (get_or s (2 * i + 1) 0)
unfolding hex_bytes
hex_bytes_at s i h =
    tab_at (length s / 2) (λ i. hex_value (get_or s (2 * i) 0) * 16 + hex_value (get_or s (2 * i + 1) 0)) i 0 h

-- ---- a loop over the digits, two a byte

pair_at :
    (s : Text) (n i : ℕ) → i < n → 2 * n ≤ length s
    → (get_or (get_or (first_chunks 2 n s) i []) 0 0 ≡ get_or s (2 * i) 0) × (get_or (get_or (first_chunks 2 n s) i []) 1 0 ≡ get_or s (2 * i + 1) 0)
pair_at s zero i h l = absurd (omega arith)
pair_at [] (suc n) i h l = absurd (omega arith)
pair_at (x ∷ []) (suc n) i h l = absurd (omega arith)
pair_at (x ∷ y ∷ s) (suc n) zero h l = (refl, refl)
pair_at (x ∷ y ∷ s) (suc n) (suc i) h l =
    let e : 2 * suc i ≡ suc (suc (2 * i)) = omega arith in
    let f : 2 * suc i + 1 ≡ suc (suc (2 * i + 1)) = omega arith in
    let k = pair_at s n i (omega arith) (omega arith) in
    (k.0 ∙ ap (λ (j : ℕ). get_or (x ∷ y ∷ s) j 0) (sym e), k.1 ∙ ap (λ (j : ℕ). get_or (x ∷ y ∷ s) j 0) (sym f))

module _ (d : Text) {pairs : List Text} (is : pairs ≡ first_chunks 2 (length d / 2) d) (many : length pairs ≡ length d / 2) {i : ℕ} (h : i < length pairs) where
  abbrev high : ℕ
  high = get_or (get_or pairs i []) 0 0

  abbrev low : ℕ
  low = get_or (get_or pairs i []) 1 0

  digits_are : (high ≡ get_or d (2 * i) 0) × (low ≡ get_or d (2 * i + 1) 0)
  digits_are =
      let k = pair_at d (length d / 2) i (omega (arith, h, many)) (omega arith) in
      (ap (λ (l : List Text). get_or (get_or l i []) 0 0) is ∙ k.0, ap (λ (l : List Text). get_or (get_or l i []) 1 0) is ∙ k.1)

  pub pair_good : is_hex d ≡ true → (is_hex_digit high ≡ true) × (is_hex_digit low ≡ true)
  pair_good e = (
    ap is_hex_digit digits_are.0 ∙ hex_at d e (omega (arith, h, many)),
    ap is_hex_digit digits_are.1 ∙ hex_at d e (omega (arith, h, many)),
  )

  -- one byte more is laid
  pub pair_laid :
      (s₀ : List ℕ) {s : List ℕ} {a b : ℕ} → length d / 2 ≤ length s₀ → s ≡ laid s₀ 0 (take i (hex_bytes d)) → a ≡ hex_value high → b ≡ hex_value low
      → set s i (a * 16 + b) ≡ laid s₀ 0 (take (i + 1) (hex_bytes d))
  pair_laid s₀ {s} {a} {b} room e p q =
      let x : a * 16 + b ≡ get_or (hex_bytes d) i 0 =
      ap₂ (λ (u v : ℕ). u * 16 + v) (p ∙ ap hex_value digits_are.0) (q ∙ ap hex_value digits_are.1) ∙ sym (hex_bytes_at d i (omega (arith, h, many))) in
      let z : i ≡ 0 + i = omega arith in
      ap₂ (λ (u : List ℕ) (v : ℕ). set u i v) e x
      ∙ ap (λ (k : ℕ). set (laid s₀ 0 (take i (hex_bytes d))) k (get_or (hex_bytes d) i 0)) z
      ∙ laid_step s₀ 0 (hex_bytes d) i (omega (arith, room, hex_bytes_length d)) (omega (arith, h, many, hex_bytes_length d))

-- ---- decimals

digits_picked : (v : ℕ) (s : Text) → digits_of v s ≡ pick (every is_digit s) (Some (value_from v s)) None
unfolding digits_of every value_from
digits_picked v [] = refl
digits_picked v (x ∷ s) = go (is_digit x) (digits_picked (v * 10 + digit_value x) s)
  where
    go :
        (b : Bool) → digits_of (v * 10 + digit_value x) s ≡ pick (every is_digit s) (Some (value_from (v * 10 + digit_value x) s)) None
        → pick b (digits_of (v * 10 + digit_value x) s) None ≡ pick (b && every is_digit s) (Some (value_from (v * 10 + digit_value x) s)) None
    go true ih = ih
    go false ih = refl

-- a loop over at most 9 digits: the value so far, and then the digits from here on
pub record Reading (s : Text) (v i : ℕ) : Type 0 where
  pub small : v < 10 ^ i
  pub rest : digits_of v (drop i s) ≡ digits_of 0 s

-- the answer at x, by whether it is a digit
abbrev digit_then : Bool → ℕ → ℕ → Text → Option ℕ
digit_then b v x s = pick b (digits_of (v * 10 + digit_value x) s) None

digits_one : (v : ℕ) (s : Text) (i : ℕ) → i < length s → digits_of v (drop i s) ≡ digit_then (is_digit (get_or s i 0)) v (get_or s i 0) (drop (i + 1) s)
unfolding digits_of
digits_one v s i h =
    ap (digits_of v) (drop-cons s i 0 h)
    ∙ ap (λ (k : ℕ). digit_then (is_digit (get_or s i 0)) v (get_or s i 0) (drop k s)) (sym (add-one i))

module _ {s : Text} {v i : ℕ} (g : Reading s v i) where
  here : {b : Bool} → i < length s → is_digit (get_or s i 0) ≡ b → digit_then b v (get_or s i 0) (drop (i + 1) s) ≡ digits_of 0 s
  here h e =
      ap (λ (b : Bool). digit_then b v (get_or s i 0) (drop (i + 1) s)) (sym e) ∙ sym (digits_one v s i h) ∙ g.rest

  pub reading_stops : i < length s → is_digit (get_or s i 0) ≡ false → None ≡ digits_of 0 s
  reading_stops h e = here h e

  pub reading_next : i < length s → is_digit (get_or s i 0) ≡ true → Reading s (v * 10 + (get_or s i 0 - 48)) (i + 1)
  reading_next h e =
      let d = and_both (leb 48 (get_or s i 0)) (leb (get_or s i 0) 57) e in
      let l = leb-true (get_or s i 0) 57 d.1 in
      let p : 10 ^ (i + 1) ≡ 10 ^ i * 10 = ap (λ (k : ℕ). 10 ^ k) (add-one i) ∙ pow-suc 10 i in
      record { small = omega (arith, g.small, l, p); rest = here h e }

  pub reading_all : length s ≤ i → Some v ≡ digits_of 0 s
  unfolding digits_of
  reading_all h = ap (digits_of v) (sym (drop_of_length-le s {i = i} h)) ∙ g.rest

module _ (s : Text) where
  -- 1 digit, or the first is not zero
  abbrev no_zero : Bool
  no_zero = eqb (length s) 1 || not (eqb (digit_value (get_or s 0 0)) 0)

  none : is_decimal s ≡ false → None ≡ decimal_of s
  none e = sym (ap (λ (b : Bool). pick b (Some (decimal_value s)) None) e)

  pub number_empty : length s ≡ 0 → None ≡ decimal_of s
  unfolding is_decimal
  number_empty h = none (ap (λ (b : Bool). b && leb (length s) 9 && every is_digit s && no_zero) (lt-leb 1 (length s) (omega arith)))

  pub number_long : 9 < length s → None ≡ decimal_of s
  unfolding is_decimal
  number_long h =
      none
      (ap (λ (b : Bool). leb 1 (length s) && b && every is_digit s && no_zero) (lt-leb (length s) 9 h)
      ∙ ap (λ (b : Bool). b && every is_digit s && no_zero) (and-false (leb 1 (length s))))

  pub number-zero : 1 < length s → get_or s 0 0 ≡ 48 → None ≡ decimal_of s
  unfolding is_decimal
  number-zero h z =
      let d : eqb (length s) 1 ≡ false = ne_eqb (length s) 1 (λ e. omega arith) in
      let e : eqb (digit_value (get_or s 0 0)) 0 ≡ true = eq-eqb (digit_value (get_or s 0 0)) 0 (omega arith) in
      let a : Bool = leb 1 (length s) && leb (length s) 9 && every is_digit s in
      none (ap₂ (λ (d e : Bool). a && (d || not e)) d e ∙ and-false a)

  first_digit : every is_digit s ≡ true → length s ≢ 0 → 48 ≤ get_or s 0 0
  first_digit e some =
      leb-true 48 (get_or s 0 0) (and_both (leb 48 (get_or s 0 0)) (leb (get_or s 0 0) 57) (every_at is_digit s 0 e (omega (arith, some)))).0

  good_start : every is_digit s ≡ true → length s ≢ 0 → (1 < length s → get_or s 0 0 ≢ 48) → no_zero ≡ true
  good_start e some first = go (eqb (length s) 1) refl
    where
      go : (d : Bool) → eqb (length s) 1 ≡ d → (d || not (eqb (digit_value (get_or s 0 0)) 0)) ≡ true
      go true q = refl
      go false q =
          let other : length s ≢ 1 = eqb-false (length s) 1 q in
          let x : 48 ≤ get_or s 0 0 = first_digit e some in
          let more : get_or s 0 0 ≢ 48 = first (omega (arith, some, other)) in
          ap not (ne_eqb (digit_value (get_or s 0 0)) 0 (λ z. more (omega (arith, z, x))))

  pub number_digits : length s ≢ 0 → length s ≤ 9 → (1 < length s → get_or s 0 0 ≢ 48) → digits_of 0 s ≡ decimal_of s
  unfolding is_decimal
  number_digits some short first =
      digits_picked 0 s
      ∙ ap (λ (b : Bool). pick b (Some (decimal_value s)) None)
      (go (every is_digit s) refl
      ∙ ap₂ (λ (a b : Bool). a && b && every is_digit s && no_zero) (sym (le-leb 1 (length s) (omega (arith, some)))) (sym (le-leb (length s) 9 short)))
    where
      go : (c : Bool) → every is_digit s ≡ c → c ≡ (c && no_zero)
      go true e = sym (good_start e some first)
      go false e = refl

pub number_read : (s : Text) (v : ℕ) → decimal_of s ≡ Some v → (is_decimal s ≡ true) × (decimal_value s ≡ v)
number_read s v e = go (is_decimal s) e
  where
    go : (b : Bool) → pick b (Some (decimal_value s)) None ≡ Some v → (b ≡ true) × (decimal_value s ≡ v)
    go true e = (refl, cc)
    go false e = absurd (cc)

pub number_not : (s : Text) → decimal_of s ≡ None → is_decimal s ≡ false
number_not s e = go (is_decimal s) e
  where
    go : (b : Bool) → pick b (Some (decimal_value s)) None ≡ None → b ≡ false
    go true e = absurd (cc)
    go false e = refl

-- the part that was laid, and one as long
pub hex_part :
    (d : Text) (s x : List ℕ) (bytes : ℕ) → bytes ≡ length d / 2 → x ≡ laid s 0 (hex_bytes d) → take (bytes - 0) x ≡ hex_bytes d
unfolding laid
hex_part d s x bytes e h =
    let l : length (hex_bytes d) ≡ bytes - 0 = omega (arith, hex_bytes_length d, e) in
    ap (take (bytes - 0)) h ∙ take_at (hex_bytes d) (drop (0 + length (hex_bytes d)) s) (bytes - 0) l

pub hex_part-length :
    (d : Text) (x : List ℕ) (bytes : ℕ) → bytes ≡ length d / 2 → length d / 2 ≤ length x
    → length (take (bytes - 0) x) ≡ length (hex_bytes d)
hex_part-length d x bytes e h =
    length-take-le (bytes - 0) x (omega (arith, e)) ∙ omega (arith, hex_bytes_length d, e)
