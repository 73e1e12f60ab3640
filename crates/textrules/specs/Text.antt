-- RULES 8: lines, fields, digits. A text is the list of its bytes.
use Rattle.std.specs.Prelude.{Bool, true, false, not, ◌&&◌, ◌||◌, List, [], ◌∷◌, ◌++◌, ℕ, zero, suc, ◌+◌, ◌*◌, ◌-◌, ◌/◌, ◌%◌, eqb, leb, ltb, length, get_or}
use Prim.Native.Char.{code}
use Prim.Native.String.{String, [] as none, ◌∷◌ as ◌then◌}
use Rattle.algebra.specs.Tables.{tab}

-- the characters of a text, each a byte
abbrev pub Text : Type 0
Text = List ℕ

-- a quoted text
abbrev pub ascii : String → Text
ascii none = []
ascii (c then s) = code c ∷ ascii s

-- a quoted character
abbrev pub sign : String → ℕ
sign none = 0
sign (c then s) = code c

-- what ends a line
abbrev pub lf : ℕ
lf = sign "\n"

-- what stands between two fields
abbrev pub tabulator : ℕ
tabulator = sign "\t"

-- the same characters, and as many
unfoldable pub same : Text → Text → Bool
same [] [] = true
same [] (y ∷ t) = false
same (x ∷ s) [] = false
same (x ∷ s) (y ∷ t) = eqb x y && same s t

-- ---- Lines and fields

-- x put before the first part
abbrev pub onto : ℕ → List Text → List Text
onto x [] = (x ∷ []) ∷ []
onto x (part ∷ parts) = (x ∷ part) ∷ parts

-- the parts after x, and before them x: it closes a part, or stands in the first
abbrev pub parted : Bool → ℕ → List Text → List Text
parted true x parts = [] ∷ parts
parted false x parts = onto x parts

-- an LF closes a line; what follows the last LF is one more, if it is anything
unfoldable pub lines : Text → List Text
lines [] = []
lines (x ∷ s) = parted (eqb x lf) x (lines s)

-- x before the whole lines that follow it; where none does, x is left out unless it closes a line
abbrev pub onto_whole : Bool → ℕ → Text → Text
onto_whole true x s = x ∷ s
onto_whole false x [] = []
onto_whole false x (y ∷ s) = x ∷ y ∷ s

-- a text up to its last LF, that one included
unfoldable pub whole_lines : Text → Text
whole_lines [] = []
whole_lines (x ∷ s) = onto_whole (eqb x lf) x (whole_lines s)

-- a tab stands between two fields, so there is always one field more than tabs
unfoldable pub fields : Text → List Text
fields [] = [] ∷ []
fields (x ∷ s) = parted (eqb x tabulator) x (fields s)

-- field i, counted from 0
abbrev pub field_at : Text → ℕ → Text
field_at s i = get_or (fields s) i []

-- ---- Digits

-- p holds of each character
unfoldable pub every : (ℕ → Bool) → Text → Bool
every p [] = true
every p (x ∷ s) = p x && every p s

-- `0` to `9`
abbrev pub is_digit : ℕ → Bool
is_digit x = leb (sign "0") x && leb x (sign "9")

-- 0 for `0`, 9 for `9`
abbrev pub digit_value : ℕ → ℕ
digit_value x = x - sign "0"

-- the digits that a number has room for
abbrev pub most_digits : ℕ
most_digits = 9

-- one digit or more, no more than there is room for; a first digit 0 is the only one
unfoldable pub is_decimal : Text → Bool
is_decimal s =
    leb 1 (length s) && leb (length s) most_digits && every is_digit s && (eqb (length s) 1 || not (eqb (digit_value (get_or s 0 0)) 0))

-- the value of v followed by the digits of s
unfoldable pub value_from : ℕ → Text → ℕ
value_from v [] = v
value_from v (x ∷ s) = value_from (v * 10 + digit_value x) s

-- the value of a decimal number
abbrev pub decimal_value : Text → ℕ
decimal_value s = value_from 0 s

-- the digits of x, given that it has at most as many as the first argument says
unfoldable pub digits : ℕ → ℕ → Text
digits zero x = []
digits (suc most) x =
    elim (ltb x 10) [ true ↦ (sign "0" + x) ∷ [] | false ↦ digits most (x / 10) ++ ((sign "0" + x % 10) ∷ []) ]

-- x in decimal: x + 1 digits are always enough
abbrev pub decimal : ℕ → Text
decimal x = digits (suc x) x

-- ---- Hex

-- `0` to `9` and `A` to `F`
abbrev pub is_hex_digit : ℕ → Bool
is_hex_digit x = is_digit x || (leb (sign "A") x && leb x (sign "F"))

-- the value of a letter, 10 for `A`, or of a figure
abbrev pub letter_or : Bool → ℕ → ℕ
letter_or true x = x - sign "A" + 10
letter_or false x = digit_value x

-- 0 for `0`, 15 for `F`
abbrev pub hex_value : ℕ → ℕ
hex_value x = letter_or (leb (sign "A") x) x

-- digits in upper case, two for each byte: none at all will do
unfoldable pub is_hex : Text → Bool
is_hex s = eqb (length s % 2) 0 && every is_hex_digit s

-- two digits a byte, the higher first
unfoldable pub hex_bytes : Text → List ℕ
hex_bytes s = tab (length s / 2) (λ i. hex_value (get_or s (2 * i) 0) * 16 + hex_value (get_or s (2 * i + 1) 0))

-- the digit of a number below 16
abbrev pub hex_digit : ℕ → ℕ
hex_digit h = get_or (ascii "0123456789ABCDEF") h 0

-- bytes in hex, as they are written: two digits a byte, the higher first
unfoldable pub hex_text : List ℕ → Text
hex_text [] = []
hex_text (x ∷ bytes) = hex_digit (x / 16) ∷ hex_digit (x % 16) ∷ hex_text bytes
