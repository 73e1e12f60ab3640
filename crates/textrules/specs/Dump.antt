-- RULES 8 and 9: from the whole dump to the whole report.
use Rattle.std.specs.Prelude.{Bool, ◌&&◌, List, [], ◌∷◌, map, ℕ, ◌+◌, ◌*◌, eqb, leb, length}
use Rattle.rules.specs.Codes.{small_code}
use Rattle.rules.specs.Passes.{clean, repaired, stuck, spent}
use Rattle.rules.specs.Numbers.{pick, frame_bytes, Decoded, refused, erased, ended, Figures, figures_of, decode_said}
use Rattle.textrules.specs.Text.{Text, ascii, fields, field_at, most_digits, is_decimal, decimal_value, decimal, is_hex, hex_bytes}
use Rattle.textrules.specs.Programs.{out_line, questioned, Program, output, output_cut}

-- ---- The dump

-- the first line of every dump
abbrev pub header : Text
header = ascii "frames\t1"

-- the bytes of the greatest frame
abbrev pub greatest_frame : ℕ
greatest_frame = frame_bytes small_code.longest

-- the characters of the longest line, without its LF: three numbers, each with a tab after it, and the greatest frame in hex
abbrev pub longest_line : ℕ
longest_line = 3 * (most_digits + 1) + 2 * greatest_frame

-- what a line can say
pub data Line : Type 0 where
  bad_line : Line
  -- number, n, allowance and frame
  a_record : ℕ → ℕ → ℕ → List ℕ → Line

-- the form of a record: three numbers and a frame, in a line that is not too long
abbrev pub is_record : Text → Bool
is_record s =
    leb (length s) longest_line
    && eqb (length (fields s)) 4
    && is_decimal (field_at s 0)
    && is_decimal (field_at s 1)
    && is_decimal (field_at s 2)
    && is_hex (field_at s 3)

-- what a line says; of any other form, it is bad
unfoldable pub line_of : Text → Line
line_of s =
    pick (is_record s) (a_record (decimal_value (field_at s 0)) (decimal_value (field_at s 1)) (decimal_value (field_at s 2)) (hex_bytes (field_at s 3))) bad_line

-- ---- The report

-- the report's first line
abbrev pub good_header : Text
good_header = out_line (ascii "repair") (ascii "1" ∷ [])

-- a record's second field: how its decoding ended, or that the frame was refused or is erased
abbrev pub ending_text : Decoded → Text
ending_text (refused r) = ascii "refused"
ending_text erased = ascii "erased"
ending_text (ended clean p b r c) = ascii "clean"
ending_text (ended repaired p b r c) = ascii "repaired"
ending_text (ended stuck p b r c) = ascii "stuck"
ending_text (ended spent p b r c) = ascii "spent"

-- passes, bits, rows, columns
abbrev pub counts : Figures → List ℕ
counts v = v.passes ∷ v.bits ∷ v.rows ∷ v.columns ∷ []

-- a record's last four fields; a refusal has its number in the place of the passes
abbrev pub reported_counts : Decoded → List ℕ
reported_counts (refused r) = r ∷ 0 ∷ 0 ∷ 0 ∷ []
reported_counts erased = counts (figures_of erased)
reported_counts (ended e p b r c) = counts (figures_of (ended e p b r c))

-- what a record gives, from what decoding said
abbrev pub record_text : ℕ → Decoded → Text
record_text number d = out_line (decimal number) (ending_text d ∷ map decimal (reported_counts d))

-- what line k gives; the mended frame is handed to nobody, and its buffer is as long as the frame
abbrev pub line_text : ℕ → Line → Text
line_text k bad_line = questioned k
line_text k (a_record number n allowance frame) = record_text number (decode_said small_code n allowance frame frame)

-- the program that reports on a dump
abbrev pub repair : Program
repair = record { header = header; longest = longest_line; opening = good_header; line_text = λ k s. line_text k (line_of s) }

-- the whole report
abbrev pub report : Text → Text
report input = output repair input

-- the report of an input that broke off
abbrev pub report_cut : Text → Text
report_cut input = output_cut repair input
