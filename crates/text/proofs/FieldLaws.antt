-- Laws of a line's fields, as the code reads them: the number that a tab closes, the two that open a line, the three that open a record.
-- Assumes nothing.
use mathlib.Core.Path.{◌≡◌, refl, sym, ap, ◌∙◌, subst}
use mathlib.Core.Bool.{Bool, true, false, cond, ◌&&◌}
use mathlib.Core.List.{List, [], ◌∷◌}
use Prim.Native.Nat.{ℕ, ◌+◌, ◌≤◌, ◌<◌}
use native.Mathlib.Omega.{arith}
use lib.Dec.{eqb, ltb}
use lib.ListN.{length, take, drop, get_or, length-drop}
use borrow.Author.Tests.{ltb-true, ltb-false}
use Rattle.std.specs.Prelude.{Some, None}
use Rattle.std.specs.List.{slice_split, onto_first}
use Rattle.std.proofs.lemmas.List.Splits.{slice_split_none, slice_split_first, length-slice_split}
use Rattle.std.proofs.lemmas.List.Sums.{fails_before_first}
use Rattle.rules.specs.Numbers.{pick}
use Rattle.textrules.specs.Text.{Text, tabulator, onto, parted, fields, field_at, is_decimal, decimal_value}
use Rattle.text.specs.Read.{tab_at, field_of}

-- ---- the first field and the others

abbrev is_tab : ℕ → Bool
is_tab x = eqb x tabulator

onto_is : (x : ℕ) (parts : List Text) → onto x parts ≡ onto_first x parts
onto_is x [] = refl
onto_is x (part ∷ parts) = refl

fields_split : (s : Text) → fields s ≡ slice_split is_tab s
unfolding fields
fields_split [] = refl
fields_split (x ∷ s) = go (is_tab x) ∙ ap (λ (l : List Text). cond (is_tab x) ([] ∷ l) (onto_first x l)) (fields_split s)
  where
    go : (b : Bool) → parted b x (fields s) ≡ cond b ([] ∷ fields s) (onto_first x (fields s))
    go true = refl
    go false = onto_is x (fields s)

module _ (s : Text) where
  pub fields_closed : tab_at s < length s → fields s ≡ take (tab_at s) s ∷ fields (drop (tab_at s + 1) s)
  fields_closed h =
      fields_split s
      ∙ slice_split_first is_tab s 0 h
      ∙ ap (λ (l : List Text). take (tab_at s) s ∷ l) (sym (fields_split (drop (tab_at s + 1) s)))

  pub fields_open : length s ≤ tab_at s → fields s ≡ s ∷ []
  fields_open h = fields_split s ∙ slice_split_none is_tab s (λ k d l. fails_before_first is_tab s k d (omega arith))

  fields_some : 1 ≤ length (fields s)
  fields_some = omega (arith, ap length (fields_split s), length-slice_split is_tab s)

module _ (s : Text) where
  -- the only field is the whole text
  pub fields_lone : length (fields s) ≡ 1 → fields s ≡ s ∷ []
  fields_lone one = go (ltb (tab_at s) (length s)) refl
    where
      go : (b : Bool) → ltb (tab_at s) (length s) ≡ b → fields s ≡ s ∷ []
      go true q =
          absurd (omega (arith, one, ap length (fields_closed s (ltb-true (tab_at s) (length s) q)), fields_some (drop (tab_at s + 1) s)))
      go false q = fields_open s (ltb-false (tab_at s) (length s) q)

  -- ---- a number closed by a tab

  abbrev first : Text
  first = take (tab_at s) s

  abbrev found : ℕ × Text
  found = (decimal_value first, drop (tab_at s + 1) s)

  -- the field, and the fields after it
  pub record Closed (a : ℕ × Text) : Type 0 where
    pub cut : fields s ≡ field_at s 0 ∷ fields a.1
    pub number : is_decimal (field_at s 0) ≡ true
    pub says : decimal_value (field_at s 0) ≡ a.0
    pub within : length a.1 ≤ length s

  pub field_some : {a : ℕ × Text} → field_of s ≡ Some a → Closed a
  unfolding field_of
  field_some {a} e = go (ltb (tab_at s) (length s)) (is_decimal first) refl refl e
    where
      go : (b d : Bool) → ltb (tab_at s) (length s) ≡ b → is_decimal first ≡ d → pick (b && d) (Some found) None ≡ Some a → Closed a
      go true true p q e =
          let c = fields_closed s (ltb-true (tab_at s) (length s) p) in
          let f : field_at s 0 ≡ first = ap (λ (l : List Text). get_or l 0 []) c in
          let is : found ≡ a = cc in
          subst Closed is
          record {
            cut = c ∙ ap (λ (l : Text). l ∷ fields (drop (tab_at s + 1) s)) (sym f);
            number = ap is_decimal f ∙ q;
            says = ap decimal_value f;
            within = omega (arith, length-drop (tab_at s + 1) s);
          }
      go true false p q e = absurd (cc)
      go false d p q e = absurd (cc)

  pub field_none : field_of s ≡ None → 2 ≤ length (fields s) → is_decimal (field_at s 0) ≡ true → ⊥
  unfolding field_of
  field_none e many h = go (ltb (tab_at s) (length s)) (is_decimal first) refl refl e
    where
      go : (a b : Bool) → ltb (tab_at s) (length s) ≡ a → is_decimal first ≡ b → pick (a && b) (Some found) None ≡ None → ⊥
      go true true p q e = cc
      go true false p q e =
          let f : field_at s 0 ≡ first = ap (λ (l : List Text). get_or l 0 []) (fields_closed s (ltb-true (tab_at s) (length s) p)) in cc
      go false b p q e = omega (arith, many, ap length (fields_open s (ltb-false (tab_at s) (length s) p)))
