-- RULES 9: a record's line of the report, as the code writes it.
use Rattle.std.specs.Prelude.{◌∷◌, [], ℕ, ◌+◌, ◌*◌}
use Rattle.textrules.specs.Text.{Text, decimal}
use Rattle.textrules.specs.Programs.{out_line}
use Rattle.lines.specs.Say.{word_digits}
use Rattle.dump.specs.declared.report.Counts.{Counts}

-- the letters of `repaired`, the longest word
abbrev pub most_letters : ℕ
most_letters = 8

-- the room for four numbers, each with a tab or an LF after it
abbrev pub counts_room : ℕ
counts_room = 4 * (word_digits + 1)

-- the room that is kept for a line of the report; a number, a word and four numbers take 114
abbrev pub line_room : ℕ
line_room = 128

-- the numbers that close a record's line
abbrev pub counts_text : Counts → Text
counts_text c = out_line (decimal c.passes) (decimal c.bits ∷ decimal c.rows ∷ decimal c.columns ∷ [])

-- a record's line, from its word and its counts
abbrev pub word_and_counts : ℕ → Text → Counts → Text
word_and_counts number word c =
    out_line (decimal number) (word ∷ decimal c.passes ∷ decimal c.bits ∷ decimal c.rows ∷ decimal c.columns ∷ [])
