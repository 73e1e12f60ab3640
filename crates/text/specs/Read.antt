-- RULES 8: what the functions that read a line answer.
use Rattle.std.specs.Prelude.{Option, Some, None, option_map, option_and_then, ◌&&◌, [], ◌∷◌, ℕ, ◌+◌, ◌*◌, eqb, ltb, length, take, drop}
use Rattle.std.specs.List.{position_or_len}
use Rattle.rules.specs.Numbers.{pick}
use Rattle.textrules.specs.Text.{Text, tabulator, is_digit, digit_value, is_decimal, decimal_value}

-- a field as a number, or none
abbrev pub decimal_of : Text → Option ℕ
decimal_of s = pick (is_decimal s) (Some (decimal_value s)) None

-- v and then the digits of s
unfoldable pub digits_of : ℕ → Text → Option ℕ
digits_of v [] = Some v
digits_of v (x ∷ s) = pick (is_digit x) (digits_of (v * 10 + digit_value x) s) None

-- where the first tab stands, or the text's length where there is none
abbrev pub tab_at : Text → ℕ
tab_at s = position_or_len (λ x. eqb x tabulator) s

-- the number before the first tab, and the text after that tab
unfoldable pub field_of : Text → Option (ℕ × Text)
field_of s =
    let i : ℕ = tab_at s in
    pick (ltb i (length s) && is_decimal (take i s)) (Some (decimal_value (take i s), drop (i + 1) s)) None

-- two such numbers, and the text after the second one's tab
unfoldable pub opening_of : Text → Option (ℕ × ℕ × Text)
opening_of s = option_and_then (λ a. option_map (λ b. (a.0, b.0, b.1)) (field_of a.1)) (field_of s)

-- two such numbers and one more
unfoldable pub head_of : Text → Option (ℕ × ℕ × ℕ × Text)
head_of s = option_and_then (λ o. option_map (λ c. (o.0, o.1, c.0, c.1)) (field_of o.2)) (opening_of s)
