-- A line of the factory's data by its opening: the rules' `data_of` from what the code finds in the line.
-- Assumes nothing.
use mathlib.Core.Path.{◌≡◌, refl, sym, ap, ap₂, ◌∙◌}
use mathlib.Core.Bool.{Bool, true, false, ◌&&◌}
use mathlib.Core.List.{List, []}
use Prim.Native.Nat.{ℕ, ◌≤◌}
use native.Mathlib.Omega.{arith}
use lib.ListN.{length, get_or}
use Rattle.std.specs.Prelude.{Some, None}
use Rattle.rules.specs.Numbers.{pick}
use Rattle.textrules.specs.Text.{Text, fields, field_at, decimal_value, is_hex, hex_bytes}
use Rattle.textrules.specs.Factory.{longest_data, DataLine, bad_data, some_data, data_of}
use Rattle.rules.proofs.Laws.OneOfLaws.{and_both}
use Rattle.text.specs.Read.{opening_of}
use Rattle.text.proofs.OpeningLaws.{hex_field, not_hex_field, opens, Opens, opens_says, Opened, opening_some, opened_so, opening_none}

module _ (s : Text) where
  abbrev form : Bool
  form = opens s longest_data 3 && is_hex (field_at s 2)

  abbrev said : DataLine
  said = some_data (decimal_value (field_at s 0)) (decimal_value (field_at s 1)) (hex_bytes (field_at s 2))

  data_form : data_of s ≡ pick form said bad_data
  unfolding data_of
  data_form = refl

  data_bad : (Opens s 3 → is_hex (field_at s 2) ≡ true → ⊥) → data_of s ≡ bad_data
  data_bad not = go form refl
    where
      go : (b : Bool) → form ≡ b → data_of s ≡ bad_data
      go true q =
          let k = and_both (opens s longest_data 3) (is_hex (field_at s 2)) q in absurd (not (opens_says s longest_data 3 k.0) k.1)
      go false q = data_form ∙ ap (λ (b : Bool). pick b said bad_data) q

  pub data_unopened : opening_of s ≡ None → data_of s ≡ bad_data
  data_unopened e = data_bad (λ g hex. opening_none s e 3 (omega arith) g)

  module _ {o : ℕ × ℕ × Text} (e : opening_of s ≡ Some o) where
    starts : Opened s o
    starts = opening_some s e

    third_is : field_at s 2 ≡ field_at o.2 0
    third_is = ap (λ (l : List Text). get_or l 2 []) starts.cut

    pub data_within : length o.2 ≤ length s
    data_within = starts.within

    pub data_not_hex : is_hex o.2 ≡ false → data_of s ≡ bad_data
    data_not_hex h =
        data_bad (λ g hex. not_hex_field o.2 h (omega (arith, ap length starts.cut, g.many)) (ap is_hex (sym third_is) ∙ hex))

    pub data_record : length s ≤ longest_data → is_hex o.2 ≡ true → data_of s ≡ some_data o.0 o.1 (hex_bytes o.2)
    data_record short h =
        let last = hex_field o.2 h in
        let digits : field_at s 2 ≡ o.2 = third_is ∙ ap (λ (l : List Text). get_or l 0 []) last in
        let three : length (fields s) ≡ 3 = omega (arith, ap length starts.cut, ap length last) in
        let f : form ≡ true = ap₂ ◌&&◌ (opened_so s starts longest_data 3 short three) (ap is_hex digits ∙ h) in
        data_form
        ∙ ap (λ (b : Bool). pick b said bad_data) f
        ∙ ap₂ (λ (i j : ℕ). some_data i j (hex_bytes (field_at s 2))) starts.says_0 starts.says_1
        ∙ ap (λ (t : Text). some_data o.0 o.1 (hex_bytes t)) digits
