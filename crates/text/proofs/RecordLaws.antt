-- A line of the dump by its head: the rules' `line_of` from what the code finds in the line.
-- Assumes nothing.
use mathlib.Core.Path.{◌≡◌, refl, sym, ap, ap₂, ◌∙◌, subst}
use mathlib.Core.Bool.{Bool, true, false, ◌&&◌}
use mathlib.Core.List.{List, [], ◌∷◌}
use Prim.Native.Nat.{ℕ, ◌≤◌}
use native.Mathlib.Omega.{arith}
use lib.ListN.{length, get_or}
use Rattle.std.specs.Prelude.{Option, Some, None, option_map, option_and_then}
use Rattle.rules.specs.Numbers.{pick}
use Rattle.textrules.specs.Text.{Text, fields, field_at, is_decimal, decimal_value, is_hex, hex_bytes}
use Rattle.textrules.specs.Dump.{longest_line, Line, bad_line, a_record, line_of}
use Rattle.rules.proofs.Laws.OneOfLaws.{and_both}
use Rattle.text.specs.Read.{field_of, opening_of, head_of}
use Rattle.text.proofs.FieldLaws.{Closed, field_some, field_none}
use Rattle.text.proofs.OpeningLaws.{hex_field, not_hex_field, opens, Opens, opens_says, Opened, opening_some, opened_so, opening_none}

module _ (s : Text) where
  -- ---- the form of a record

  abbrev form : Bool
  form = opens s longest_line 4 && is_decimal (field_at s 2) && is_hex (field_at s 3)

  abbrev said : Line
  said = a_record (decimal_value (field_at s 0)) (decimal_value (field_at s 1)) (decimal_value (field_at s 2)) (hex_bytes (field_at s 3))

  line_form : line_of s ≡ pick form said bad_line
  unfolding line_of
  line_form = refl

  record Formed : Type 0 where
    opening : Opens s 4
    number_2 : is_decimal (field_at s 2) ≡ true
    hex : is_hex (field_at s 3) ≡ true

  line_bad : (Formed → ⊥) → line_of s ≡ bad_line
  line_bad not = go form refl
    where
      go : (b : Bool) → form ≡ b → line_of s ≡ bad_line
      go true q =
          let k = and_both (opens s longest_line 4 && is_decimal (field_at s 2)) (is_hex (field_at s 3)) q in
          let j = and_both (opens s longest_line 4) (is_decimal (field_at s 2)) k.0 in
          absurd (not record { opening = opens_says s longest_line 4 j.0; number_2 = j.1; hex = k.1 })
      go false q = line_form ∙ ap (λ (b : Bool). pick b said bad_line) q

  -- ---- a line's three numbers

  abbrev then : ℕ × ℕ × Text → Option (ℕ × Text) → Option (ℕ × ℕ × ℕ × Text)
  then o y = option_map (λ c. (o.0, o.1, c.0, c.1)) y

  abbrev third : ℕ × ℕ × Text → Option (ℕ × ℕ × ℕ × Text)
  third o = then o (field_of o.2)

  pub line_unread : head_of s ≡ None → line_of s ≡ bad_line
  unfolding head_of
  line_unread e = at_2 (opening_of s) refl e
    where
      at_2 : (x : Option (ℕ × ℕ × Text)) → opening_of s ≡ x → option_and_then third x ≡ None → line_of s ≡ bad_line
      at_2 None p e = line_bad (λ g. opening_none s p 4 (omega arith) g.opening)
      at_2 (Some o) p e = at_3 (field_of o.2) refl e
        where
          at_3 : (y : Option (ℕ × Text)) → field_of o.2 ≡ y → then o y ≡ None → line_of s ≡ bad_line
          at_3 None q e =
              let cut = (opening_some s p).cut in
              line_bad
              (λ g.
              field_none o.2 q (omega (arith, ap length cut, g.opening.many)) (ap (λ (l : List Text). is_decimal (get_or l 2 [])) (sym cut) ∙ g.number_2))
          at_3 (Some c) q e = absurd (cc)

  -- the opening, what follows it, and there the allowance
  record Headed (h : ℕ × ℕ × ℕ × Text) : Type 0 where
    rest : Text
    opening : Opened s (h.0, h.1, rest)
    allowance : Closed rest (h.2, h.3)

  head_some : {h : ℕ × ℕ × ℕ × Text} → head_of s ≡ Some h → Headed h
  unfolding head_of
  head_some {h} e = at_2 (opening_of s) refl e
    where
      at_2 : (x : Option (ℕ × ℕ × Text)) → opening_of s ≡ x → option_and_then third x ≡ Some h → Headed h
      at_2 None p e = absurd (cc)
      at_2 (Some o) p e = at_3 (field_of o.2) refl e
        where
          at_3 : (y : Option (ℕ × Text)) → field_of o.2 ≡ y → then o y ≡ Some h → Headed h
          at_3 None q e = absurd (cc)
          at_3 (Some c) q e =
              let is : (o.0, o.1, c.0, c.1) ≡ h = cc in
              subst Headed is record { rest = o.2; opening = opening_some s p; allowance = field_some o.2 q }

  module _ {h : ℕ × ℕ × ℕ × Text} (e : head_of s ≡ Some h) where
    headed : Headed h
    headed = head_some e

    cut_3 : fields s ≡ field_at s 0 ∷ (field_at s 1 ∷ (field_at headed.rest 0 ∷ fields h.3))
    cut_3 = headed.opening.cut ∙ ap (λ (l : List Text). field_at s 0 ∷ (field_at s 1 ∷ l)) headed.allowance.cut

    third_is : field_at s 2 ≡ field_at headed.rest 0
    third_is = ap (λ (l : List Text). get_or l 2 []) cut_3

    fourth_is : field_at s 3 ≡ field_at h.3 0
    fourth_is = ap (λ (l : List Text). get_or l 3 []) cut_3

    pub line_within : length h.3 ≤ length s
    line_within = omega (arith, headed.opening.within, headed.allowance.within)

    pub line_not_hex : is_hex h.3 ≡ false → line_of s ≡ bad_line
    line_not_hex n =
        line_bad (λ g. not_hex_field h.3 n (omega (arith, ap length cut_3, g.opening.many)) (ap is_hex (sym fourth_is) ∙ g.hex))

    pub line_record : length s ≤ longest_line → is_hex h.3 ≡ true → line_of s ≡ a_record h.0 h.1 h.2 (hex_bytes h.3)
    line_record short y =
        let o = headed.opening in
        let z = headed.allowance in
        let last = hex_field h.3 y in
        let digits : field_at s 3 ≡ h.3 = fourth_is ∙ ap (λ (l : List Text). get_or l 0 []) last in
        let four : length (fields s) ≡ 4 = omega (arith, ap length cut_3, ap length last) in
        let f : form ≡ true =
        ap₂ ◌&&◌ (ap₂ ◌&&◌ (opened_so s o longest_line 4 short four) (ap is_decimal third_is ∙ z.number)) (ap is_hex digits ∙ y) in
        line_form
        ∙ ap (λ (b : Bool). pick b said bad_line) f
        ∙ ap₂ (λ (i j : ℕ). a_record i j (decimal_value (field_at s 2)) (hex_bytes (field_at s 3))) o.says_0 o.says_1
        ∙ ap₂ (λ (k : ℕ) (t : Text). a_record h.0 h.1 k (hex_bytes t)) (ap decimal_value third_is ∙ z.says) digits
