-- RULES 6: numbers and outputs. Each entry point from its arguments, among them what the lent output has before the call, to what
-- is said and what the output has after it.
use Rattle.std.specs.Prelude.{Bool, true, false, not, ◌&&◌, ◌||◌, List, [], ◌∷◌, ℕ, ◌*◌, eqb, leb, ltb, length, take, drop}
use Rattle.std.proofs.Math.Option.{Option, some, none}
use Rattle.rules.specs.Codes.{Code, data_bits}
use Rattle.rules.specs.Words.{answer, mend}
use Rattle.rules.specs.Frames.{Frame, corner, is_frame, is_erased, rows_first}
use Rattle.rules.specs.Bits.{row_bytes, square_bytes, word_of, frame_of, word_bytes, bytes_of, spare_ones}
use Rattle.rules.specs.Passes.{Ending, clean, repaired, stuck, spent, Outcome, decoded}

-- one of two
abbrev pub pick {ℓ} : {A : Type ℓ} → Bool → A → A → A
pick true x y = x
pick false x y = y

-- number 1: n is out of range
abbrev pub outside : Code → ℕ → Bool
outside code n = not (leb code.shortest n && leb n code.longest)

-- the greatest allowance
abbrev pub most_allowed : ℕ
most_allowed = 200

-- number 4: the allowance is out of range
abbrev pub not_allowed : ℕ → Bool
not_allowed a = not (leb 1 a && leb a most_allowed)

-- the length is not exactly l
abbrev pub not_long : List ℕ → ℕ → Bool
not_long s l = not (eqb (length s) l)

-- the lengths of a frame and of its data, in bytes
abbrev pub frame_bytes : ℕ → ℕ
frame_bytes n = square_bytes n

abbrev pub data_bytes : Code → ℕ → ℕ
data_bytes code n = square_bytes (data_bits code n)

-- what a check tests, and the number that it gives
abbrev pub RefusalList : Type 0
RefusalList = List (Bool × ℕ)

-- the first check that is met gives its number; where none is, the number is 0
abbrev pub first : RefusalList → ℕ
first [] = 0
first (check ∷ later) = pick check.0 check.1 (first later)

-- numbers 1, 2 and 3: n, the length of the input, that of the output
abbrev pub size_refusals : Code → ℕ → List ℕ → ℕ → List ℕ → ℕ → RefusalList → RefusalList
size_refusals code n input takes output gives later = (outside code n, 1) ∷ (not_long input takes, 2) ∷ (not_long output gives, 3) ∷ later

-- ---- Encoding: the number, and the output

-- the frame of the data in a buffer
abbrev pub frame_for : Code → ℕ → List ℕ → Frame
frame_for code n input = rows_first code n (frame_of (data_bits code n) input)

-- number 5: a spare bit of the data is set. Number 10: their frame would read as erased
abbrev pub encode_refusals : Code → ℕ → List ℕ → List ℕ → RefusalList
encode_refusals code n input output =
    size_refusals code n input (data_bytes code n) output (frame_bytes n)
    ((not (eqb (spare_ones (data_bits code n) input) 0), 5) ∷ (is_erased n (frame_for code n input), 10) ∷ [])

-- the number that encoding gives
unfoldable pub encode_number : Code → ℕ → List ℕ → List ℕ → ℕ
encode_number code n input output = first (encode_refusals code n input output)

-- the frame, spare bits zero; unchanged where it is refused
unfoldable pub encode_output : Code → ℕ → List ℕ → List ℕ → List ℕ
encode_output code n input output =
    pick (eqb (encode_number code n input output) 0) (bytes_of n (frame_for code n input)) output

-- ---- Reading data: the number, and the output

-- number 10: the code bits are all ones. Number 6: they are no frame
abbrev pub read_refusals : Code → ℕ → List ℕ → List ℕ → RefusalList
read_refusals code n input output =
    size_refusals code n input (frame_bytes n) output (data_bytes code n)
    ((is_erased n (frame_of n input), 10) ∷ (not (is_frame code n (frame_of n input)), 6) ∷ [])

-- the number that reading gives
unfoldable pub read_number : Code → ℕ → List ℕ → List ℕ → ℕ
read_number code n input output = first (read_refusals code n input output)

-- the data, spare bits zero, whatever the frame's are; unchanged where it is refused
unfoldable pub read_output : Code → ℕ → List ℕ → List ℕ → List ℕ
read_output code n input output =
    pick (eqb (read_number code n input output) 0) (bytes_of (data_bits code n) (corner (data_bits code n) (frame_of n input))) output

-- ---- Decoding

-- what decoding says
pub data Decoded : Type 0 where
  refused : ℕ → Decoded
  erased : Decoded
  -- passes, bits, rows, columns
  ended : Ending → ℕ → ℕ → ℕ → ℕ → Decoded

-- numbers 1 to 4, and 10: the code bits are all ones
abbrev pub decode_refusals : Code → ℕ → ℕ → List ℕ → List ℕ → RefusalList
decode_refusals code n allowance input output =
    size_refusals code n input (frame_bytes n) output (frame_bytes n) ((not_allowed allowance, 4) ∷ (is_erased n (frame_of n input), 10) ∷ [])

-- the number of the refusal, or of erased; 0 where the received bits are decoded
unfoldable pub decode_refusal : Code → ℕ → ℕ → List ℕ → List ℕ → ℕ
decode_refusal code n allowance input output = first (decode_refusals code n allowance input output)

-- what is said of an outcome: all but its frame
abbrev pub told : Outcome → Decoded
told o = ended o.ending o.passes o.bits o.rows o.columns

-- what is said with such a number
abbrev pub undecoded : ℕ → Decoded
undecoded r = pick (eqb r 10) erased (refused r)

-- that, or what is said of the outcome
unfoldable pub decode_said : Code → ℕ → ℕ → List ℕ → List ℕ → Decoded
decode_said code n allowance input output =
    let r : ℕ = decode_refusal code n allowance input output in
    pick (eqb r 0) (told (decoded code n allowance (frame_of n input))) (undecoded r)

-- the frame where that came out, spare bits zero; else the bytes that were received
abbrev pub handed_out : ℕ → List ℕ → Outcome → List ℕ
handed_out n input o =
    elim o.ending [ clean ↦ bytes_of n o.last | repaired ↦ bytes_of n o.last | stuck ↦ input | spent ↦ input ]

-- what is handed out; unchanged where the bits are not decoded
unfoldable pub decode_output : Code → ℕ → ℕ → List ℕ → List ℕ → List ℕ
decode_output code n allowance input output =
    pick (eqb (decode_refusal code n allowance input output) 0) (handed_out n input (decoded code n allowance (frame_of n input))) output

-- the number of RULES 6, and the values that go with it
pub record Figures : Type 0 where
  pub number : ℕ
  pub passes : ℕ
  pub bits : ℕ
  pub rows : ℕ
  pub columns : ℕ

-- a refusal has no values, nor has erased, and a success no rows and columns
abbrev pub figures_of : Decoded → Figures
figures_of (refused r) = record { number = r; passes = 0; bits = 0; rows = 0; columns = 0 }
figures_of erased = record { number = 10; passes = 0; bits = 0; rows = 0; columns = 0 }
figures_of (ended clean p b r c) = record { number = 0; passes = p; bits = b; rows = 0; columns = 0 }
figures_of (ended repaired p b r c) = record { number = 0; passes = p; bits = b; rows = 0; columns = 0 }
figures_of (ended stuck p b r c) = record { number = 7; passes = p; bits = b; rows = r; columns = c }
figures_of (ended spent p b r c) = record { number = 8; passes = p; bits = b; rows = r; columns = c }

-- figures by their order in the report
abbrev pub figures_with : ℕ → ℕ → ℕ → ℕ → ℕ → Figures
figures_with k p b r c = record { number = k; passes = p; bits = b; rows = r; columns = c }

-- the number alone
abbrev pub number : Decoded → ℕ
number d = (figures_of d).number

-- ---- A single word

-- what decoding a single word says
pub data WordSaid : Type 0 where
  word_refused : ℕ → WordSaid
  -- the places that are changed, or none where no codeword is near enough
  answered : Option (List ℕ) → WordSaid

-- numbers 1 to 3
abbrev pub word_refusals : Code → ℕ → List ℕ → List ℕ → RefusalList
word_refusals code n input output = size_refusals code n input (row_bytes n) output (row_bytes n) []

-- the number of the refusal; 0 where the word is answered
unfoldable pub word_refusal : Code → ℕ → List ℕ → List ℕ → ℕ
word_refusal code n input output = first (word_refusals code n input output)

-- the refusal, or the answer
unfoldable pub word_said : Code → ℕ → List ℕ → List ℕ → WordSaid
word_said code n input output =
    let r : ℕ = word_refusal code n input output in pick (eqb r 0) (answered (answer code n (word_of n input 0))) (word_refused r)

-- number 9: no codeword is near enough
abbrev pub word_number : WordSaid → ℕ
word_number (word_refused r) = r
word_number (answered (some ps)) = 0
word_number (answered none) = 9

-- the codeword, spare bits zero; for number 9 the bytes that were received; unchanged where it is refused
unfoldable pub word_output : Code → ℕ → List ℕ → List ℕ → List ℕ
word_output code n input output =
    pick (eqb (word_refusal code n input output) 0)
    (pick (eqb (word_number (word_said code n input output)) 0) (word_bytes n (mend code n (word_of n input 0))) input)
    output

-- ---- Row i: a part of the caller's own bytes

-- n is out of range, the length is not that of n, or there is no row i
abbrev pub row_refused : Code → ℕ → List ℕ → ℕ → Bool
row_refused code n input i = outside code n || not_long input (frame_bytes n) || not (ltb i n)

-- the bytes of the row; none where it is refused
unfoldable pub row_part : Code → ℕ → List ℕ → ℕ → List ℕ
row_part code n input i = pick (row_refused code n input i) [] (take (row_bytes n) (drop (i * row_bytes n) input))

-- ---- The entry points, each as one

-- what is said, and what the output has at exit
pub record Exit (A : Type 0) : Type 0 where
  pub said : A
  pub output : List ℕ

abbrev pub encode : Code → ℕ → List ℕ → List ℕ → Exit ℕ
encode code n input output = record { said = encode_number code n input output; output = encode_output code n input output }

abbrev pub read : Code → ℕ → List ℕ → List ℕ → Exit ℕ
read code n input output = record { said = read_number code n input output; output = read_output code n input output }

abbrev pub decode : Code → ℕ → ℕ → List ℕ → List ℕ → Exit Decoded
decode code n allowance input output =
    record { said = decode_said code n allowance input output; output = decode_output code n allowance input output }

abbrev pub decode_word : Code → ℕ → List ℕ → List ℕ → Exit WordSaid
decode_word code n input output = record { said = word_said code n input output; output = word_output code n input output }
