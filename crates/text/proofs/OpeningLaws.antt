-- What every kind of line shares: its fields by the two numbers that open it and by the hex digits that close it.
-- Assumes nothing.
use mathlib.Core.Path.{◌≡◌, refl, sym, ap, ap₂, ◌∙◌, subst}
use mathlib.Core.Logic.{◌≢◌}
use mathlib.Core.Bool.{Bool, true, false, ◌&&◌, false≢true}
use mathlib.Core.List.{List, [], ◌∷◌}
use Prim.Native.Nat.{ℕ, ◌%◌, ◌≤◌}
use native.Mathlib.Omega.{arith}
use lib.Dec.{eqb, leb}
use lib.ListN.{length, get_or}
use borrow.Author.Tests.{le-leb, eqb-true, eq-eqb}
use Rattle.std.specs.Prelude.{Option, Some, None, option_map, option_and_then}
use Rattle.textrules.specs.Text.{Text, tabulator, fields, field_at, every, is_decimal, decimal_value, is_hex_digit, is_hex}
use Rattle.rules.proofs.Laws.OneOfLaws.{and_both}
use Rattle.textrules.proofs.Laws.TextLaws.{all_so, every_all, fields_one}
use Rattle.text.specs.Read.{field_of, opening_of}
use Rattle.text.proofs.FieldLaws.{fields_lone, field_some, field_none}

-- ---- the last field: hex digits, so no tab

pub hex_field : (s : Text) → is_hex s ≡ true → fields s ≡ s ∷ []
unfolding is_hex
hex_field s e =
    fields_one s
    (all_so (λ x. is_hex_digit x ≡ true) (λ x. x ≢ tabulator) (λ x h t. false≢true (ap is_hex_digit (sym t) ∙ h)) s
    (every_all is_hex_digit s (and_both (eqb (length s % 2) 0) (every is_hex_digit s) e).1))

-- what is no hex: there are more fields, or the last is no hex
pub not_hex_field : (s : Text) → is_hex s ≡ false → length (fields s) ≡ 1 → is_hex (field_at s 0) ≡ true → ⊥
not_hex_field s e one h =
    let f : field_at s 0 ≡ s = ap (λ (l : List Text). get_or l 0 []) (fields_lone s one) in cc

-- ---- how the form of every line begins

-- not too long, so many fields, the first two of them numbers
abbrev pub opens : Text → ℕ → ℕ → Bool
opens s most count =
    leb (length s) most && eqb (length (fields s)) count && is_decimal (field_at s 0) && is_decimal (field_at s 1)

pub record Opens (s : Text) (count : ℕ) : Type 0 where
  pub many : length (fields s) ≡ count
  pub number_0 : is_decimal (field_at s 0) ≡ true
  pub number_1 : is_decimal (field_at s 1) ≡ true

pub opens_says : (s : Text) (most count : ℕ) → opens s most count ≡ true → Opens s count
opens_says s most count h =
    let short = leb (length s) most in
    let many = eqb (length (fields s)) count in
    let k = and_both (short && many && is_decimal (field_at s 0)) (is_decimal (field_at s 1)) h in
    let j = and_both (short && many) (is_decimal (field_at s 0)) k.0 in
    record { many = eqb-true (length (fields s)) count (and_both short many j.0).1; number_0 = j.1; number_1 = k.1 }

-- ---- the two numbers that open a line

module _ (s : Text) where
  -- the two numbers, and the fields after them
  pub record Opened (o : ℕ × ℕ × Text) : Type 0 where
    pub cut : fields s ≡ field_at s 0 ∷ (field_at s 1 ∷ fields o.2)
    pub number_0 : is_decimal (field_at s 0) ≡ true
    pub number_1 : is_decimal (field_at s 1) ≡ true
    pub says_0 : decimal_value (field_at s 0) ≡ o.0
    pub says_1 : decimal_value (field_at s 1) ≡ o.1
    pub within : length o.2 ≤ length s

  abbrev then : ℕ × Text → Option (ℕ × Text) → Option (ℕ × ℕ × Text)
  then a y = option_map (λ b. (a.0, b.0, b.1)) y

  abbrev second : ℕ × Text → Option (ℕ × ℕ × Text)
  second a = then a (field_of a.1)

  pub opening_some : {o : ℕ × ℕ × Text} → opening_of s ≡ Some o → Opened o
  unfolding opening_of
  opening_some {o} e = at_1 (field_of s) refl e
    where
      at_1 : (x : Option (ℕ × Text)) → field_of s ≡ x → option_and_then second x ≡ Some o → Opened o
      at_1 None p e = absurd (cc)
      at_1 (Some a) p e = at_2 (field_of a.1) refl e
        where
          at_2 : (y : Option (ℕ × Text)) → field_of a.1 ≡ y → then a y ≡ Some o → Opened o
          at_2 None q e = absurd (cc)
          at_2 (Some b) q e =
              let x = field_some s p in
              let y = field_some a.1 q in
              let f : field_at s 1 ≡ field_at a.1 0 = ap (λ (l : List Text). get_or l 1 []) (x.cut ∙ ap (λ (l : List Text). field_at s 0 ∷ l) y.cut) in
              let is : (a.0, b.0, b.1) ≡ o = cc in
              subst Opened is
              record {
                cut = x.cut ∙ ap (λ (l : List Text). field_at s 0 ∷ l) (y.cut ∙ ap (λ (l : Text). l ∷ fields b.1) (sym f));
                number_0 = x.number;
                number_1 = ap is_decimal f ∙ y.number;
                says_0 = x.says;
                says_1 = ap decimal_value f ∙ y.says;
                within = omega (arith, x.within, y.within);
              }

  pub opened_so : {o : ℕ × ℕ × Text} → Opened o → (most count : ℕ) → length s ≤ most → length (fields s) ≡ count → opens s most count ≡ true
  opened_so o most count short many =
      ap₂ ◌&&◌
      (ap₂ ◌&&◌ (ap₂ ◌&&◌ (le-leb (length s) most short) (eq-eqb (length (fields s)) count many)) o.number_0)
      o.number_1

  -- one of the two is no number that a tab closes
  pub opening_none : opening_of s ≡ None → (count : ℕ) → 3 ≤ count → Opens s count → ⊥
  unfolding opening_of
  opening_none e count h g = at_1 (field_of s) refl e
    where
      at_1 : (x : Option (ℕ × Text)) → field_of s ≡ x → option_and_then second x ≡ None → ⊥
      at_1 None p e = field_none s p (omega (arith, h, g.many)) g.number_0
      at_1 (Some a) p e = at_2 (field_of a.1) refl e
        where
          at_2 : (y : Option (ℕ × Text)) → field_of a.1 ≡ y → then a y ≡ None → ⊥
          at_2 None q e =
              let c = (field_some s p).cut in
              field_none a.1 q (omega (arith, ap length c, g.many, h)) (ap (λ (l : List Text). is_decimal (get_or l 1 [])) (sym c) ∙ g.number_1)
          at_2 (Some b) q e = cc
