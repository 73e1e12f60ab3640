-- The contracts of the entry points, each as one statement about a call: its arguments, what was in the lent output, what is
-- returned, and what is in it then.
use Rattle.std.specs.Prelude.{Bool, ◌≡◌, List, ℕ, ◌≤◌, Result}
use Rattle.algebra.specs.Words.{Word, differ}
use Rattle.rules.specs.Codes.{radius_limit, small_code}
use Rattle.rules.specs.Words.{mend}
use Rattle.rules.specs.Bits.{frame_of, bytes_of}
use Rattle.rules.specs.Passes.{decoded}
use Rattle.rules.specs.Numbers.{encode_number, encode_output, read_number, read_output, decode_said, decode_output, told, row_part}
use Rattle.laws.specs.InPlace.{put}
use Rattle.laws.specs.Turns.{word_in, start_of, step_of}
use Rattle.word.specs.declared.refusal.Refusal.{Refusal}
use Rattle.frame.specs.declared.decode.Report.{Report}
use Rattle.frame.specs.Said.{told_in, said}

abbrev pub Encodes : ℕ → List ℕ → List ℕ → ℕ → List ℕ → Type 0
Encodes n message output r exit = (r ≡ encode_number small_code n message output) × (exit ≡ encode_output small_code n message output)

abbrev pub Reads : ℕ → List ℕ → List ℕ → ℕ → List ℕ → Type 0
Reads n frame output r exit = (r ≡ read_number small_code n frame output) × (exit ≡ read_output small_code n frame output)

abbrev pub Decodes : ℕ → ℕ → List ℕ → List ℕ → Result Report Refusal → List ℕ → Type 0
Decodes n allowance received output r exit =
    (said r ≡ decode_said small_code n allowance received output) × (exit ≡ decode_output small_code n allowance received output)

-- word k in a direction mended in place: r of its bits are changed
abbrev pub MendsWord : ℕ → Bool → ℕ → List ℕ → ℕ → List ℕ → Type 0
MendsWord n columns k s r exit =
    let w : Word = word_in n columns s k in
    ((r ≡ differ w (mend small_code n w)) × (r ≤ radius_limit)) × (exit ≡ put n s (start_of n columns k) (step_of n columns) (mend small_code n w))

-- the passes alone, in a copy of the received frame: they leave the last frame there
abbrev pub Repairs : ℕ → ℕ → List ℕ → Report → List ℕ → Type 0
Repairs n allowance received r exit =
    (told_in r ≡ told (decoded small_code n allowance (frame_of n received)))
    × (exit ≡ bytes_of n (decoded small_code n allowance (frame_of n received)).last)

-- a row has no lent output: what is returned is a part of the frame
abbrev pub TakesRow : ℕ → List ℕ → ℕ → List ℕ → Type 0
TakesRow n frame i r = r ≡ row_part small_code n frame i
