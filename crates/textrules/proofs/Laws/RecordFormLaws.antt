-- Lines of so many numbers and bytes: each number in decimal with a tab after it, then the bytes in hex.
-- Assumes nothing.
use mathlib.Core.Path.{◌≡◌, refl, sym, ap, ap₂, ◌∙◌}
use mathlib.Core.Logic.{◌≢◌}
use mathlib.Core.Bool.{Bool, true, false, ◌&&◌, false≢true}
use mathlib.Core.List.{List, [], ◌∷◌, ◌++◌, map, append-nil, tail-eq_of_cons-eq}
use Prim.Native.Nat.{ℕ, zero, suc, ◌+◌, ◌*◌, ◌^◌, ◌≤◌, ◌<◌}
use native.Mathlib.Omega.{arith}
use lib.Dec.{eqb, leb}
use lib.ListN.{length, get_or, replicate, length-append, length-map, get_or-append}
use borrow.Author.Tests.{eqb-true, eq-eqb, leb-true, le-leb, lt-leb}
use Rattle.algebra.specs.Sums.{AllN}
use Rattle.algebra.specs.Tables.{tab}
use Rattle.algebra.proofs.TableLaws.{tab-zero, tab-suc, tab_is}
use Rattle.rules.specs.Numbers.{pick}
use Rattle.rules.proofs.Laws.OneOfLaws.{and_both}
use Rattle.textrules.specs.Text.{Text, tabulator, fields, is_decimal, decimal_value, decimal, is_hex_digit, is_hex, hex_bytes, hex_text}
use Rattle.textrules.proofs.Laws.TextLaws.{all_so, Digit, decimal_digits, decimal_short, decimal_value_lem, fields_cut, fields_one, tabbed, fields_tabbed}
use Rattle.textrules.proofs.Laws.DigitFormLaws.{decimal_good, good_decimal, nine_nines, hex_back, hex_all, hex_good, good_hex, hex_length}

-- ---- the writing

abbrev pub spelled : List ℕ → List ℕ → Text
spelled [] bytes = hex_text bytes
spelled (x ∷ xs) bytes = decimal x ++ tabulator ∷ spelled xs bytes

-- numbers of nine digits, and bytes
abbrev pub Spellable : List ℕ → List ℕ → Type 0
Spellable xs bytes = AllN (λ x. x < 10 ^ 9) xs × AllN (λ x. x < 256) bytes

-- no tab stands in a number or in hex, so the fields are these
decimal_no_tab : (x : ℕ) → AllN (λ c. c ≢ tabulator) (decimal x)
decimal_no_tab x = all_so Digit (λ c. c ≢ tabulator) (λ c h e. omega (arith, h.0, e)) (decimal x) (decimal_digits x)

hex_no_tab : (bytes : List ℕ) → AllN (λ x. x < 256) bytes → AllN (λ c. c ≢ tabulator) (hex_text bytes)
hex_no_tab bytes h =
    all_so (λ c. is_hex_digit c ≡ true) (λ c. c ≢ tabulator) (λ c t e. false≢true (sym (ap is_hex_digit e) ∙ t)) (hex_text bytes)
    (hex_all bytes h)

fields_written : (xs bytes : List ℕ) → AllN (λ x. x < 256) bytes → fields (spelled xs bytes) ≡ map decimal xs ++ (hex_text bytes ∷ [])
fields_written [] bytes h = fields_one (hex_text bytes) (hex_no_tab bytes h)
fields_written (x ∷ xs) bytes h =
    fields_cut (decimal x) (spelled xs bytes) (decimal_no_tab x) ∙ ap (λ l. decimal x ∷ l) (fields_written xs bytes h)

-- ---- its length

pub written_most : (xs bytes : List ℕ) → AllN (λ x. x < 10 ^ 9) xs → length (spelled xs bytes) ≤ 10 * length xs + 2 * length bytes
written_most [] bytes h = omega (arith, hex_length bytes)
written_most (x ∷ xs) bytes h =
    let parts = length-append (decimal x) (tabulator ∷ spelled xs bytes) in
    omega (arith, parts, decimal_short x 9 h.0 (omega arith), written_most xs bytes h.1)

pub written_nines : (k : ℕ) (bytes : List ℕ) → length (spelled (replicate k 999999999) bytes) ≡ 10 * k + 2 * length bytes
written_nines zero bytes = omega (arith, hex_length bytes)
written_nines (suc k) bytes =
    let parts = length-append (decimal 999999999) (tabulator ∷ spelled (replicate k 999999999) bytes) in
    omega (arith, parts, nine_nines, written_nines k bytes)

-- ---- the tests, from left to right: those before, each number's, and that of the bytes

unfoldable pub passes : Bool → List Text → Text → Bool
passes b [] t = b && is_hex t
passes b (d ∷ ds) t = passes (b && is_decimal d) ds t

-- what is spelled passes
passes_written :
    (b : Bool) (xs bytes : List ℕ) → b ≡ true → Spellable xs bytes → passes b (map decimal xs) (hex_text bytes) ≡ true
unfolding passes
passes_written b [] bytes e h = ap₂ ◌&&◌ e (hex_good bytes h.1)
passes_written b (x ∷ xs) bytes e h =
    passes_written (b && is_decimal (decimal x)) xs bytes (ap₂ ◌&&◌ e (decimal_good x h.0.0)) (h.0.1, h.1)

-- nothing passes after a test that failed
passes_not : (ds : List Text) (t : Text) → passes false ds t ≡ false
unfolding passes
passes_not [] t = refl
passes_not (d ∷ ds) t = passes_not ds t

-- what passes is spelled so
abbrev Passed : List Text → Text → Type 0
Passed ds t =
    (tabbed (ds ++ (t ∷ [])) ≡ tabulator ∷ spelled (map decimal_value ds) (hex_bytes t)) × Spellable (map decimal_value ds) (hex_bytes t)

passed : (b : Bool) (ds : List Text) (t : Text) → passes b ds t ≡ true → (b ≡ true) × Passed ds t
unfolding passes
passed b [] t h =
    let k = and_both b (is_hex t) h in
    let g = good_hex t k.1 in
    (k.0, (ap (λ u. tabulator ∷ u) (append-nil t ∙ g.0), (tt, g.1)))
passed b (d ∷ ds) t h =
    let k = passed (b && is_decimal d) ds t h in
    let l = and_both b (is_decimal d) k.0 in
    let g = good_decimal d l.1 in
    (l.0, (ap₂ (λ u v. tabulator ∷ (u ++ v)) g.0 k.1.0, ((g.1, k.1.1.0), k.1.1.1)))

-- ---- the reading

-- the first k fields
abbrev pub front : ℕ → List Text → List Text
front k fs = tab k (λ i. get_or fs i [])

-- what is spelled as k numbers and bytes has k + 1 fields: the first k, and the last
front_of : (xs : List ℕ) (t : Text) → front (length xs) (map decimal xs ++ (t ∷ [])) ≡ map decimal xs
front_of xs t =
    let long = length-map xs decimal in
    tab_is (length xs) (λ i. get_or (map decimal xs ++ (t ∷ [])) i []) (map decimal xs) [] long
    (λ i h. get_or-append (map decimal xs) (t ∷ []) [] i (omega (arith, long, h)))

last_of : (xs : List ℕ) (t : Text) → get_or (map decimal xs ++ (t ∷ [])) (length xs) [] ≡ t
last_of [] t = refl
last_of (x ∷ xs) t = last_of xs t

values : (xs : List ℕ) → map decimal_value (map decimal xs) ≡ xs
values [] = refl
values (x ∷ xs) = ap₂ ◌∷◌ (decimal_value_lem x) (values xs)

-- k + 1 fields are the first k and the last
front_last : (k : ℕ) (fs : List Text) → length fs ≡ suc k → fs ≡ front k fs ++ (get_or fs k [] ∷ [])
front_last k [] e = absurd (omega (arith, e))
front_last zero (t ∷ []) e = ap (λ l. l ++ (t ∷ [])) (sym (tab-zero (λ i. get_or (t ∷ []) i [])))
front_last zero (t ∷ d ∷ fs) e = absurd (omega (arith, e))
front_last (suc k) (d ∷ fs) e =
    ap (λ l. d ∷ l) (front_last k fs (omega (arith, e)))
    ∙ ap (λ l. l ++ (get_or fs k [] ∷ [])) (sym (tab-suc k (λ i. get_or (d ∷ fs) i [])))

-- a line of k numbers and bytes, in no more than `most` characters, says them, and any other line says `no`
module _ {A : Type 0} (most : ℕ) (say : List ℕ → List ℕ → A) (no : A) where
  abbrev field_say : List Text → Text → A
  field_say ds t = say (map decimal_value ds) (hex_bytes t)

  abbrev fields_say : ℕ → Bool → List Text → A
  fields_say k b fs =
      pick (passes (b && eqb (length fs) (suc k)) (front k fs) (get_or fs k [])) (field_say (front k fs) (get_or fs k [])) no

  abbrev pub line_read : ℕ → Text → A
  line_read k s = fields_say k (leb (length s) most) (fields s)

  -- what is spelled is read back
  pub says_written :
      (xs bytes : List ℕ) → Spellable xs bytes → length (spelled xs bytes) ≤ most
      → line_read (length xs) (spelled xs bytes) ≡ say xs bytes
  says_written xs bytes h l =
      let ds : List Text = map decimal xs in
      let t : Text = hex_text bytes in
      let a : Bool = leb (length (spelled xs bytes)) most in
      let b : Bool = a && eqb (length (ds ++ (t ∷ []))) (suc (length xs)) in
      let long = length-append ds (t ∷ []) ∙ ap (λ m. m + 1) (length-map xs decimal) in
      let tested : b ≡ true =
      ap₂ ◌&&◌ (le-leb (length (spelled xs bytes)) most l) (eq-eqb (length (ds ++ (t ∷ []))) (suc (length xs)) (omega (arith, long))) in
      ap (fields_say (length xs) a) (fields_written xs bytes h.1)
      ∙ ap₂ (λ us u. pick (passes b us u) (field_say us u) no) (front_of xs t) (last_of xs t)
      ∙ ap (λ c. pick c (field_say ds t) no) (passes_written b xs bytes tested h)
      ∙ ap₂ say (values xs) (hex_back bytes h.1)

  module _ (k : ℕ) (s : Text) where
    abbrev ds : List Text
    ds = front k (fields s)

    abbrev t : Text
    t = get_or (fields s) k []

    -- a line that says something is its writing
    pub says_only :
        (P : A → Type 0) → P no
        → (s ≡ spelled (map decimal_value ds) (hex_bytes t) → Spellable (map decimal_value ds) (hex_bytes t) → length s ≤ most
        → P (field_say ds t))
        → P (line_read k s)
    says_only P none one = go (passes b ds t) refl
      where
        b : Bool
        b = leb (length s) most && eqb (length (fields s)) (suc k)

        go : (c : Bool) → passes b ds t ≡ c → P (pick c (field_say ds t) no)
        go false h = none
        go true h =
            let p = passed b ds t h in
            let q = and_both (leb (length s) most) (eqb (length (fields s)) (suc k)) p.0 in
            let parts = front_last k (fields s) (eqb-true (length (fields s)) (suc k) q.1) in
            one (tail-eq_of_cons-eq (sym (fields_tabbed s) ∙ ap tabbed parts ∙ p.1.0)) p.1.1 (leb-true (length s) most q.0)

    -- a line that is too long says nothing
    pub says_not : most < length s → line_read k s ≡ no
    says_not h =
        ap (λ b. fields_say k b (fields s)) (lt-leb (length s) most h) ∙ ap (λ b. pick b (field_say ds t) no) (passes_not ds t)
