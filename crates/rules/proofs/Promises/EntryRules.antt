-- RULES 6, without a definition of an entry point: what each returns, and what the lent output has at exit.
-- Assumes nothing.
use mathlib.Core.Path.{◌≡◌}
use mathlib.Core.Logic.{◌≢◌, ◌⊎◌}
use mathlib.Core.Bool.{true}
use mathlib.Core.List.{List, [], ◌∷◌}
use mathlib.Core.Option.{Option, some, none}
use Prim.Native.Nat.{ℕ, ◌+◌, ◌*◌, ◌≤◌, ◌<◌}
use lib.ListN.{length}
use Rattle.rules.specs.Codes.{Code, data_bits}
use Rattle.rules.specs.Words.{Codeword, changed}
use Rattle.rules.specs.Frames.{Frame, row, Square, transposed, corner}
use Rattle.rules.specs.Bits.{row_bytes, stride, bit_at, word_of, frame_of, word_bytes, bytes_of}
use Rattle.rules.specs.Passes.{Ending, clean, repaired, stuck, spent, Outcome}
use Rattle.rules.specs.Numbers.{most_allowed, frame_bytes, data_bytes, Decoded, refused, erased, ended, WordSaid, word_refused, answered}
use Rattle.rules.proofs.Laws.ErasedLaws.{AllOnes}
use Rattle.rules.proofs.Promises.Answers.{Fits}
use Rattle.rules.proofs.Promises.Passes.{PassRule}
use Rattle.rules.proofs.Promises.Refusals.{GoodRow, row_of_bytes}

-- why something is refused, and the number
abbrev pub Reasons : Type 1
Reasons = List (Type 0 × ℕ)

-- the number of the first reason that is there; 0 where none is
abbrev pub Given : Reasons → ℕ → Type 0
Given [] r = r ≡ 0
Given (reason ∷ later) r = (reason.0 × (r ≡ reason.1)) ⊎ ((¬ reason.0) × Given later r)

-- reasons 1, 2 and 3: the range of n, the length of the input, that of the output
abbrev pub sizes : Code → ℕ → List ℕ → ℕ → List ℕ → ℕ → Reasons → Reasons
sizes code n input takes output gives later =
    (¬ ((code.shortest ≤ n) × (n ≤ code.longest)), 1) ∷ (length input ≢ takes, 2) ∷ (length output ≢ gives, 3) ∷ later

-- some spare bit of k rows of k bits is set
abbrev pub SpareSet : ℕ → List ℕ → Type 0
SpareSet k s = (i : ℕ) × (j : ℕ) × (i < k) × (k ≤ j) × (j < stride k) × (bit_at s (i * stride k + j) ≡ true)

-- all rows and all columns are codewords
abbrev pub AllCodewords : Code → ℕ → Frame → Type 0
AllCodewords code n f = ((i : ℕ) → i < n → Codeword code n (row f i)) × ((j : ℕ) → j < n → Codeword code n (row (transposed n f) j))

-- the data's frame: all its rows and columns are codewords, and the data stand in its corner
abbrev pub FrameOfData : Code → ℕ → List ℕ → Frame → Type 0
FrameOfData code n input f = Square n f × AllCodewords code n f × (corner (data_bits code n) f ≡ frame_of (data_bits code n) input)

-- reason 5: a spare bit. Reason 10: the data's frame has a one in every place
abbrev pub encode_reasons : Code → ℕ → List ℕ → List ℕ → Reasons
encode_reasons code n input output =
    sizes code n input (data_bytes code n) output (frame_bytes n)
    ((SpareSet (data_bits code n) input, 5) ∷ ((f : Frame) × FrameOfData code n input f × AllOnes n f, 10) ∷ [])

pub record EncodeRule (code : Code) (n : ℕ) (input output : List ℕ) (r : ℕ) (exit : List ℕ) : Type 0 where
  pub number : Given (encode_reasons code n input output) r
  -- refused: the output is as it was
  pub untouched : r ≢ 0 → exit ≡ output
  -- the output is the data's frame, spare bits zero
  pub done : r ≡ 0 → (f : Frame) × FrameOfData code n input f × (exit ≡ bytes_of n f)

-- reason 10: the code bits are all ones. Reason 6: they are no frame
abbrev pub read_reasons : Code → ℕ → List ℕ → List ℕ → Reasons
read_reasons code n input output =
    sizes code n input (frame_bytes n) output (data_bytes code n)
    ((AllOnes n (frame_of n input), 10) ∷ (¬ AllCodewords code n (frame_of n input), 6) ∷ [])

pub record ReadRule (code : Code) (n : ℕ) (input output : List ℕ) (r : ℕ) (exit : List ℕ) : Type 0 where
  pub number : Given (read_reasons code n input output) r
  pub untouched : r ≢ 0 → exit ≡ output
  -- the output is the frame's corner, spare bits zero; those of the frame do not matter
  pub done : r ≡ 0 → exit ≡ bytes_of (data_bits code n) (corner (data_bits code n) (frame_of n input))

-- reason 4: the range of the allowance. Reason 10: the code bits are all ones
abbrev pub decode_reasons : Code → ℕ → ℕ → List ℕ → List ℕ → Reasons
decode_reasons code n allowance input output =
    sizes code n input (frame_bytes n) output (frame_bytes n) ((¬ ((1 ≤ allowance) × (allowance ≤ most_allowed)), 4) ∷ (AllOnes n (frame_of n input), 10) ∷ [])

-- the frame of a success; else what was received
abbrev pub written : ℕ → List ℕ → Ending → Frame → List ℕ
written n input clean f = bytes_of n f
written n input repaired f = bytes_of n f
written n input stuck f = input
written n input spent f = input

pub record DecodeRule (code : Code) (n allowance : ℕ) (input output : List ℕ) (said : Decoded) (exit : List ℕ) : Type 0 where
  pub refusal : ℕ
  pub number : Given (decode_reasons code n allowance input output) refusal
  pub refuses : refusal ≢ 0 → refusal ≢ 10 → said ≡ refused refusal
  pub erases : refusal ≡ 10 → said ≡ erased
  pub untouched : refusal ≢ 0 → exit ≡ output
  -- an outcome that keeps the pass rule, and what is said of it
  pub ends :
      refusal ≡ 0
      → (o : Outcome) × PassRule code n allowance (frame_of n input) o
      × (said ≡ ended o.ending o.passes o.bits o.rows o.columns) × (exit ≡ written n input o.ending o.last)

-- a single word is refused for its sizes alone
abbrev pub word_reasons : Code → ℕ → List ℕ → List ℕ → Reasons
word_reasons code n input output = sizes code n input (row_bytes n) output (row_bytes n) []

-- the codeword, spare bits zero; where there is none, what was received
abbrev pub written_word : ℕ → List ℕ → Option (List ℕ) → List ℕ
written_word n input (some ps) = word_bytes n (changed ps (word_of n input 0))
written_word n input none = input

pub record WordRule (code : Code) (n : ℕ) (input output : List ℕ) (said : WordSaid) (exit : List ℕ) : Type 0 where
  pub refusal : ℕ
  pub number : Given (word_reasons code n input output) refusal
  pub refuses : refusal ≢ 0 → (said ≡ word_refused refusal) × (exit ≡ output)
  -- an answer that fits the word
  pub answers :
      refusal ≡ 0 → (a : Option (List ℕ)) × Fits code n (word_of n input 0) a × (said ≡ answered a) × (exit ≡ written_word n input a)

-- the bytes of a row that is there; else none
pub record RowRule (code : Code) (n : ℕ) (input : List ℕ) (i : ℕ) (r : List ℕ) : Type 0 where
  pub part : GoodRow code n input i → r ≡ row_of_bytes n input i
  pub empty : ¬ GoodRow code n input i → r ≡ []
