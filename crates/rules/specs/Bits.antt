-- RULES 4: the bytes.
use Rattle.std.specs.Prelude.{Bool, List, ℕ, zero, suc, ◌+◌, ◌*◌, ◌-◌, ◌/◌, ◌%◌, ◌^◌, get_or}
use Rattle.algebra.specs.Tables.{tab, num, count, total}
use Rattle.algebra.specs.Words.{Word, bit}
use Rattle.algebra.specs.Remainder.{is_odd}
use Rattle.rules.specs.Frames.{Frame, row}

-- the bytes of a row: as few as n bits can have
abbrev pub row_bytes : ℕ → ℕ
row_bytes n = (n + 7) / 8

-- the bits that a row takes, spare ones too
abbrev pub stride : ℕ → ℕ
stride n = row_bytes n * 8

-- the bytes of n rows of n bits
abbrev pub square_bytes : ℕ → ℕ
square_bytes n = n * row_bytes n

-- bit j of a buffer: each byte from its top bit down
unfoldable pub bit_at : List ℕ → ℕ → Bool
bit_at s j = is_odd (get_or s (j / 8) 0 / 2 ^ (7 - j % 8))

-- the word that starts at bit `start`
unfoldable pub word_of : ℕ → List ℕ → ℕ → Word
word_of n s start = tab n (λ j. bit_at s (start + j))

-- the code bits of n rows in a buffer; row i begins at bit i × stride, and its spare bits are left out
unfoldable pub frame_of : ℕ → List ℕ → Frame
frame_of n s = tab n (λ i. word_of n s (i * stride n))

-- the number with the digits j, j + 1, .. of w, m of them, the highest first
unfoldable pub packed : Word → ℕ → ℕ → ℕ
packed w j zero = 0
packed w j (suc m) = packed w j m * 2 + num (bit w (j + m))

-- byte b of a word; past the word's end bits are false, so spare bits are written as zero
abbrev pub byte_of : Word → ℕ → ℕ
byte_of w b = packed w (b * 8) 8

-- a word, and n rows, in bytes
unfoldable pub word_bytes : ℕ → Word → List ℕ
word_bytes n w = tab (row_bytes n) (λ b. byte_of w b)

unfoldable pub bytes_of : ℕ → Frame → List ℕ
bytes_of n f = tab (square_bytes n) (λ b. byte_of (row f (b / row_bytes n)) (b % row_bytes n))

-- how many spare bits, those behind each row's n bits, are set in n rows
unfoldable pub spare_ones : ℕ → List ℕ → ℕ
spare_ones n s = total n (λ i. count (stride n - n) (λ j. bit_at s (i * stride n + n + j)))
