-- RULES 10: from the factory's data to a dump.
use Rattle.std.specs.Prelude.{Bool, ◌&&◌, List, [], ◌∷◌, ℕ, ◌+◌, ◌*◌, eqb, leb, length, replicate}
use Rattle.rules.specs.Codes.{small_code}
use Rattle.rules.specs.Numbers.{pick, frame_bytes, data_bytes, encode_number, encode_output}
use Rattle.textrules.specs.Text.{Text, ascii, fields, field_at, most_digits, is_decimal, decimal_value, decimal, is_hex, hex_bytes, hex_text}
use Rattle.textrules.specs.Programs.{out_line, questioned, Program}
use Rattle.textrules.specs.Dump.{header}

-- ---- The factory's data

-- the first line of the factory's data
abbrev pub data_header : Text
data_header = ascii "data\t1"

-- the bytes of the greatest data
abbrev pub greatest_data : ℕ
greatest_data = data_bytes small_code small_code.longest

-- the characters of the longest line, without its LF: two numbers, each with a tab after it, and the greatest data in hex
abbrev pub longest_data : ℕ
longest_data = 2 * (most_digits + 1) + 2 * greatest_data

-- what a line can say
pub data DataLine : Type 0 where
  bad_data : DataLine
  -- number, n and data
  some_data : ℕ → ℕ → List ℕ → DataLine

-- the form of a record: two numbers and data, in a line that is not too long
abbrev pub is_data : Text → Bool
is_data s =
    leb (length s) longest_data
    && eqb (length (fields s)) 3
    && is_decimal (field_at s 0)
    && is_decimal (field_at s 1)
    && is_hex (field_at s 2)

-- what a line says; of any other form, it is bad
unfoldable pub data_of : Text → DataLine
data_of s = pick (is_data s) (some_data (decimal_value (field_at s 0)) (decimal_value (field_at s 1)) (hex_bytes (field_at s 2))) bad_data

-- ---- The dump that is written

-- the allowance on every line
abbrev pub given_allowance : ℕ
given_allowance = 8

-- a frame's line
abbrev pub frame_line : ℕ → ℕ → List ℕ → Text
frame_line number n frame = out_line (decimal number) (decimal n ∷ decimal given_allowance ∷ hex_text frame ∷ [])

-- a refusal's line: the record's number, and that of the refusal
abbrev pub refused_line : ℕ → ℕ → Text
refused_line number r = out_line (ascii "!") (decimal number ∷ decimal r ∷ [])

-- a buffer of the frame's length: what such a one holds makes no difference
abbrev pub blank_frame : ℕ → List ℕ
blank_frame n = replicate (frame_bytes n) 0

-- what a record gives, from the number of its encoding and the frame
abbrev pub encoded_text : ℕ → ℕ → ℕ → List ℕ → Text
encoded_text number n r frame = pick (eqb r 0) (frame_line number n frame) (refused_line number r)

-- what a record gives
abbrev pub given_text : ℕ → ℕ → List ℕ → Text
given_text number n message =
    encoded_text number n (encode_number small_code n message (blank_frame n)) (encode_output small_code n message (blank_frame n))

-- what line k gives
abbrev pub data_text : ℕ → DataLine → Text
data_text k bad_data = questioned k
data_text k (some_data number n message) = given_text number n message

-- the program that writes a dump
abbrev pub writer : Program
writer = record { header = data_header; longest = longest_data; opening = out_line header []; line_text = λ k s. data_text k (data_of s) }
