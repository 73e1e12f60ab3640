-- Texts: numbers in decimal, fields.
-- Assumes nothing.
use mathlib.Core.Path.{◌≡◌, refl, sym, ap, ap₂, ◌∙◌}
use mathlib.Core.Logic.{◌≢◌}
use mathlib.Core.Bool.{Bool, true, false, ◌&&◌}
use mathlib.Core.List.{List, [], ◌∷◌, ◌++◌, append_assoc, append-nil, cons-ne-nil, tail-eq_of_cons-eq}
use Prim.Native.Nat.{ℕ, zero, suc, ◌+◌, ◌*◌, ◌-◌, ◌/◌, ◌%◌, ◌^◌, ◌≤◌, ◌<◌}
use native.Mathlib.Nat.{pow-zero, pow-suc}
use native.Mathlib.Decide.{dec_lt}
use native.Mathlib.Omega.{arith}
use lib.Dec.{eqb}
use lib.ListN.{length, get_or, length-append, get_or-append}
use borrow.Author.Tests.{lt-ltb, le-ltb, ne_eqb, eqb-true}
use Rattle.algebra.specs.Sums.{AllN}
use Rattle.textrules.specs.Text.{Text, tabulator, parted, fields, every, digit_value, value_from, decimal_value, digits, decimal}
use Rattle.rules.proofs.Laws.OneOfLaws.{and_both}

-- ---- every entry of a text

pub all_append : (P : ℕ → Type 0) (s t : Text) → AllN P s → AllN P t → AllN P (s ++ t)
all_append P [] t h k = k
all_append P (x ∷ s) t h k = (h.0, all_append P s t h.1 k)

pub all_so : (P Q : ℕ → Type 0) → ((x : ℕ) → P x → Q x) → (s : Text) → AllN P s → AllN Q s
all_so P Q f [] h = tt
all_so P Q f (x ∷ s) h = (f x h.0, all_so P Q f s h.1)

pub every_all : (p : ℕ → Bool) (s : Text) → every p s ≡ true → AllN (λ x. p x ≡ true) s
unfolding every
every_all p [] h = tt
every_all p (x ∷ s) h = let k = and_both (p x) (every p s) h in (k.0, every_all p s k.1)

pub all_every : (p : ℕ → Bool) (s : Text) → AllN (λ x. p x ≡ true) s → every p s ≡ true
unfolding every
all_every p [] h = refl
all_every p (x ∷ s) h = ap₂ ◌&&◌ h.0 (all_every p s h.1)

-- ---- decimals

digit_branch : ℕ → ℕ → Bool → Text
digit_branch most x b = elim b as (λ b. Text) [ true ↦ (48 + x) ∷ [] | false ↦ digits most (x / 10) ++ ((48 + x % 10) ∷ []) ]

digits_last : (f x : ℕ) → x < 10 → digits (suc f) x ≡ (48 + x) ∷ []
unfolding digits digit_branch
digits_last f x h = ap (digit_branch f x) (lt-ltb x 10 h)

digits_more : (f x : ℕ) → 10 ≤ x → digits (suc f) x ≡ digits f (x / 10) ++ ((48 + x % 10) ∷ [])
unfolding digits digit_branch
digits_more f x h = ap (digit_branch f x) (le-ltb x 10 h)

-- two numbers of digits that are both enough give the same
pub digits_same : (f g x : ℕ) → 1 ≤ f → x < 10 ^ f → 1 ≤ g → x < 10 ^ g → digits f x ≡ digits g x
digits_same zero g x a hf b hg = absurd (omega (arith, a))
digits_same (suc f) zero x a hf b hg = absurd (omega (arith, b))
digits_same (suc f) (suc g) x a hf b hg = go (dec_lt x 10) (digits_same f g (x / 10))
  where
    go :
        Dec (x < 10) → (1 ≤ f → x / 10 < 10 ^ f → 1 ≤ g → x / 10 < 10 ^ g → digits f (x / 10) ≡ digits g (x / 10))
        → digits (suc f) x ≡ digits (suc g) x
    go (yes h) ih = digits_last f x h ∙ sym (digits_last g x h)
    go (no h) ih =
        digits_more f x (omega (arith, h))
        ∙ ap (λ s. s ++ ((48 + x % 10) ∷ []))
        (ih (some f (omega (arith, h)) hf) (fewer f hf) (some g (omega (arith, h)) hg) (fewer g hg))
        ∙ sym (digits_more g x (omega (arith, h)))
      where
        some : (k : ℕ) → 10 ≤ x → x < 10 ^ suc k → 1 ≤ k
        some zero h l = absurd (omega (arith, h, l, pow-suc 10 0, pow-zero 10))
        some (suc k) h l = omega arith

        fewer : (k : ℕ) → x < 10 ^ suc k → x / 10 < 10 ^ k
        fewer k l = omega (arith, l, pow-suc 10 k)

pub below_power : (f x : ℕ) → x < f → x < 10 ^ f
below_power zero x h = absurd (omega (arith, h))
below_power (suc zero) x h = omega (arith, h, pow-suc 10 0, pow-zero 10)
below_power (suc (suc f)) zero h = omega (arith, below_power (suc f) 0 (omega arith), pow-suc 10 (suc f))
below_power (suc (suc f)) (suc x) h = omega (arith, below_power (suc f) x (omega (arith, h)), pow-suc 10 (suc f))

pub digits_enough : (f g x : ℕ) → x < f → x < g → digits f x ≡ digits g x
digits_enough f g x hf hg =
    digits_same f g x (omega (arith, hf)) (below_power f x hf) (omega (arith, hg)) (below_power g x hg)

-- k digits are enough below 10 ^ k
pub digits_decimal : (k x : ℕ) → 1 ≤ k → x < 10 ^ k → digits k x ≡ decimal x
digits_decimal k x some h =
    digits_same k (suc x) x some h (omega arith) (below_power (suc x) x (omega arith))

pub decimal_small : (x : ℕ) → x < 10 → decimal x ≡ (48 + x) ∷ []
decimal_small x h = digits_last x x h

pub decimal_more : (x : ℕ) → 10 ≤ x → decimal x ≡ decimal (x / 10) ++ ((48 + x % 10) ∷ [])
decimal_more x h =
    digits_more x x h
    ∙ ap (λ s. s ++ ((48 + x % 10) ∷ [])) (digits_enough x (suc (x / 10)) (x / 10) (omega (arith, h)) (omega arith))

-- a fact of the decimals below 10 that goes over to one digit more is a fact of all
pub decimal_ind :
    (P : ℕ → Type 0) → ((x : ℕ) → x < 10 → P x) → ((x : ℕ) → 10 ≤ x → P (x / 10) → P x) → (x : ℕ) → P x
decimal_ind P small more x = go (suc x) x (omega arith)
  where
    go : (f x : ℕ) → x < f → P x
    go zero x h = absurd (omega (arith, h))
    go (suc f) x h = by (dec_lt x 10) (go f (x / 10))
      where
        by : Dec (x < 10) → (x / 10 < f → P (x / 10)) → P x
        by (yes l) ih = small x l
        by (no l) ih = more x (omega (arith, l)) (ih (omega (arith, l, h)))

digits_most : (k x : ℕ) → length (digits k x) ≤ k
unfolding digits
digits_most zero x = omega arith
digits_most (suc k) x = go (dec_lt x 10) (digits_most k (x / 10))
  where
    go : Dec (x < 10) → length (digits k (x / 10)) ≤ k → length (digits (suc k) x) ≤ suc k
    go (yes h) ih = rw (digits_last k x h) (omega arith)
    go (no h) ih =
        rw (digits_more k x (omega (arith, h))) (omega (arith, ih, length-append (digits k (x / 10)) ((48 + x % 10) ∷ [])))

pub decimal_short : (x k : ℕ) → x < 10 ^ k → 1 ≤ k → length (decimal x) ≤ k
decimal_short x k h some = rw (← digits_decimal k x some h) (digits_most k x)

pub decimal-some : (x : ℕ) → 1 ≤ length (decimal x)
decimal-some =
    decimal_ind (λ x. 1 ≤ length (decimal x)) (λ x h. rw (decimal_small x h) (omega arith))
    (λ x h ih. rw (decimal_more x h) (omega (arith, ih, length-append (decimal (x / 10)) ((48 + x % 10) ∷ []))))

-- ---- what a decimal is

abbrev pub Digit : ℕ → Type 0
Digit c = (48 ≤ c) × (c ≤ 57)

pub decimal_digits : (x : ℕ) → AllN Digit (decimal x)
decimal_digits =
    decimal_ind (λ x. AllN Digit (decimal x)) (λ x h. rw (decimal_small x h) ((omega arith, omega (arith, h)), tt))
    (λ x h ih. rw (decimal_more x h) (all_append Digit (decimal (x / 10)) ((48 + x % 10) ∷ []) ih ((omega arith, omega arith), tt)))

pub decimal_first : (x : ℕ) → x ≢ 0 → get_or (decimal x) 0 0 ≢ 48
decimal_first =
    decimal_ind (λ x. x ≢ 0 → get_or (decimal x) 0 0 ≢ 48)
    (λ x h some e. let k = ap (λ s. get_or s 0 0) (decimal_small x h) in some (omega (arith, k, e)))
    (λ x h ih some e.
    let k = ap (λ s. get_or s 0 0) (decimal_more x h) in
    let m = get_or-append (decimal (x / 10)) ((48 + x % 10) ∷ []) 0 0 (decimal-some (x / 10)) in
    ih (λ z. omega (arith, h, z)) (sym m ∙ sym k ∙ e))

pub decimal_long : (k x : ℕ) → 10 ^ k ≤ x → k < length (decimal x)
decimal_long zero x h = decimal-some x
decimal_long (suc k) x h =
    let big : 10 ^ suc k ≡ 10 ^ k * 10 = pow-suc 10 k in
    let some : 1 ≤ 10 ^ k = below_power k in
    let ten : 10 ≤ x = omega (arith, h, big, some) in
    let l = ap length (decimal_more x ten) ∙ length-append (decimal (x / 10)) ((48 + x % 10) ∷ []) in
    omega (arith, l, decimal_long k (x / 10) (omega (arith, h, big)))
  where
    below_power : (k : ℕ) → 1 ≤ 10 ^ k
    below_power zero = omega (arith, pow-zero 10)
    below_power (suc k) = omega (arith, pow-suc 10 k, below_power k)

value_last : (v : ℕ) (s : Text) (c : ℕ) → value_from v (s ++ (c ∷ [])) ≡ value_from v s * 10 + digit_value c
unfolding value_from
value_last v [] c = refl
value_last v (x ∷ s) c = value_last (v * 10 + digit_value x) s c

pub decimal_value_lem : (x : ℕ) → decimal_value (decimal x) ≡ x
unfolding value_from
decimal_value_lem =
    decimal_ind (λ x. decimal_value (decimal x) ≡ x) (λ x h. ap decimal_value (decimal_small x h) ∙ omega arith)
    (λ x h ih. ap decimal_value (decimal_more x h) ∙ value_last 0 (decimal (x / 10)) (48 + x % 10) ∙ omega (arith, ih))

-- a number, not 0, followed by digits is the decimal of its value
pub value_decimal : (v : ℕ) (s : Text) → 1 ≤ v → AllN Digit s → decimal (value_from v s) ≡ decimal v ++ s
unfolding value_from
value_decimal v [] some h = sym (append-nil (decimal v))
value_decimal v (c ∷ s) some h =
    let x : ℕ = v * 10 + (c - 48) in
    let front : x / 10 ≡ v = omega (arith, h.0.0, h.0.1) in
    let last : 48 + x % 10 ≡ c = omega (arith, h.0.0, h.0.1) in
    value_decimal x s (omega (arith, some)) h.1
    ∙ ap (λ t. t ++ s) (decimal_more x (omega (arith, some)) ∙ ap₂ (λ y d. decimal y ++ (d ∷ [])) front last)
    ∙ append_assoc (decimal v) (c ∷ []) s

-- ---- fields

-- the first field, up to a tab
pub fields_cut : (u t : Text) → AllN (λ x. x ≢ tabulator) u → fields (u ++ tabulator ∷ t) ≡ u ∷ fields t
unfolding fields
fields_cut [] t h = refl
fields_cut (x ∷ u) t h = ap₂ (λ b l. parted b x l) (ne_eqb x tabulator h.0) (fields_cut u t h.1)

pub fields_one : (u : Text) → AllN (λ x. x ≢ tabulator) u → fields u ≡ u ∷ []
unfolding fields
fields_one [] h = refl
fields_one (x ∷ u) h = ap₂ (λ b l. parted b x l) (ne_eqb x tabulator h.0) (fields_one u h.1)

abbrev pub tabbed : List Text → Text
tabbed [] = []
tabbed (f ∷ fs) = tabulator ∷ (f ++ tabbed fs)

-- a text is its fields with tabs between them: with one more tab in front
pub fields_tabbed : (s : Text) → tabbed (fields s) ≡ tabulator ∷ s
unfolding fields
fields_tabbed [] = refl
fields_tabbed (x ∷ s) = go (eqb x tabulator) (fields s) refl (fields_tabbed s)
  where
    go :
        (b : Bool) (parts : List Text) → eqb x tabulator ≡ b → tabbed parts ≡ tabulator ∷ s
        → tabbed (parted b x parts) ≡ tabulator ∷ (x ∷ s)
    go true parts e h = ap (λ t. tabulator ∷ t) h ∙ ap (λ y. tabulator ∷ (y ∷ s)) (sym (eqb-true x tabulator e))
    go false [] e h = absurd (cons-ne-nil tabulator s (sym h))
    go false (p ∷ ps) e h = ap (λ t. tabulator ∷ (x ∷ t)) (tail-eq_of_cons-eq h)
