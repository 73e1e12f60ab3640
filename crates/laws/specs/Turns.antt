-- A frame's words in one of two directions: its rows, or its columns.
use Rattle.std.specs.Prelude.{Bool, cond, ◌&&◌, ◌≡◌, List, ℕ, ◌*◌, ◌≤◌, ltb, length, take}
use Rattle.algebra.specs.Tables.{tab}
use Rattle.algebra.specs.Words.{Word}
use Rattle.rules.specs.Codes.{Code, data_bits}
use Rattle.rules.specs.Words.{encode_word}
use Rattle.rules.specs.Frames.{Frame, row, cell, transposed}
use Rattle.rules.specs.Bits.{stride, square_bytes, frame_of, bytes_of}

-- the frame whose rows are the words in the direction: f itself, or its columns made rows
unfoldable pub turned : ℕ → Bool → Frame → Frame
turned n columns f = cond columns (transposed n f) f

-- word k in the direction, in a frame's bytes
abbrev pub word_in : ℕ → Bool → List ℕ → ℕ → Word
word_in n columns s k = row (turned n columns (frame_of n s)) k

-- where word k in the direction starts, and the step from bit to bit
unfoldable pub start_of : ℕ → Bool → ℕ → ℕ
start_of n columns k = cond columns k (k * stride n)

unfoldable pub step_of : ℕ → Bool → ℕ
step_of n columns = cond columns (stride n) 1

-- the first k rows changed by the rule
unfoldable pub partly : ℕ → (Word → Word) → ℕ → Frame → Frame
partly n rule k f = tab n (λ i. cond (ltb i k) (rule (row f i)) (row f i))

-- the first k words in the direction changed by the rule
abbrev pub worked : ℕ → Bool → (Word → Word) → ℕ → Frame → Frame
worked n columns rule k f = turned n columns (partly n rule k (turned n columns f))

-- the word's data encoded anew
abbrev pub completed : Code → ℕ → Word → Word
completed code n w = encode_word code (take (data_bits code n) w)

-- a square of n rows, in which all but the upper left corner of m rows and m columns of f is zero
unfoldable pub cornered : ℕ → ℕ → Frame → Frame
cornered m n f = tab n (λ i. tab n (λ j. ltb i m && (ltb j m && cell f i j)))

-- a buffer of a frame's size, for a permitted n
abbrev pub Whole : Code → ℕ → List ℕ → Type 0
Whole code n s = (code.shortest ≤ n) × (n ≤ code.longest) × (length s ≡ square_bytes n)

-- and its spare bits are zero
abbrev pub Ready : Code → ℕ → List ℕ → Type 0
Ready code n s = Whole code n s × (s ≡ bytes_of n (frame_of n s))

-- one that is ready, with the code bits of a received one of that size
abbrev pub Copied : Code → ℕ → List ℕ → List ℕ → Type 0
Copied code n received s = Ready code n s × (length received ≡ square_bytes n) × (frame_of n s ≡ frame_of n received)
