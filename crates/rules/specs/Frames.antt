-- RULES 3: the frame.
use Rattle.std.specs.Prelude.{◌≡◌, Bool, not, List, [], ℕ, ◌+◌, ◌<◌, eqb, length, get_or}
use Rattle.algebra.specs.Tables.{tab, count, all_below}
use Rattle.algebra.specs.Words.{Word, bit}
use Rattle.rules.specs.Codes.{Code, data_bits}
use Rattle.rules.specs.Words.{is_codeword, encode_word}

-- a square of bits, row by row
abbrev pub Frame : Type 0
Frame = List Word

-- row i; past the last it is empty
unfoldable pub row : Frame → ℕ → Word
row f i = get_or f i []

-- it has n rows, and each has n bits
abbrev pub Square : ℕ → Frame → Type 0
Square n f = (length f ≡ n) × ((i : ℕ) → i < n → length (row f i) ≡ n)

-- bit j of row i
abbrev pub cell : Frame → ℕ → ℕ → Bool
cell f i j = bit (row f i) j

-- columns made rows
unfoldable pub transposed : ℕ → Frame → Frame
transposed n f = tab n (λ j. tab n (λ i. cell f i j))

-- how many rows, and how many columns, are no codewords
unfoldable pub bad_rows : Code → ℕ → Frame → ℕ
bad_rows code n f = count n (λ i. not (is_codeword code n (row f i)))

unfoldable pub bad_columns : Code → ℕ → Frame → ℕ
bad_columns code n f = bad_rows code n (transposed n f)

-- every row is a codeword, and so is every column
unfoldable pub is_frame : Code → ℕ → Frame → Bool
is_frame code n f = eqb (bad_rows code n f + bad_columns code n f) 0

-- RULES 6: every bit is one, as flash reads after it was wiped
unfoldable pub is_erased : ℕ → Frame → Bool
is_erased n f = all_below n (λ i. all_below n (λ j. cell f i j))

-- the upper left k × k bits; those of a frame are its data
unfoldable pub corner : ℕ → Frame → Frame
corner k f = tab k (λ i. tab k (λ j. cell f i j))

-- the frame of the data d: its k rows encoded, then each of the n columns that they make
unfoldable pub rows_first : Code → ℕ → Frame → Frame
rows_first code n d = transposed n (tab n (λ j. encode_word code (tab (data_bits code n) (λ i. bit (encode_word code (row d i)) j))))

-- the same with rows and columns exchanged: columns encoded, then rows
unfoldable pub columns_first : Code → ℕ → Frame → Frame
columns_first code n d = transposed n (rows_first code n (transposed (data_bits code n) d))
