-- RULES 14: a frame that arrives in pieces. What a call makes of a state, a piece and a lent buffer.
use Rattle.std.specs.Prelude.{Bool, false, not, List, [], ◌∷◌, ℕ, ◌+◌, eqb, ltb, length}
use Rattle.rules.specs.Codes.{Code}
use Rattle.rules.specs.Numbers.{pick, outside, frame_bytes, first, Exit}
use Rattle.text.specs.Laid.{laid}
use Rattle.receiver.specs.declared.state.State.{State}

-- what a call says: the next state, the number, and whether more is wanted
pub record Told : Type 0 where
  pub state : State
  pub number : ℕ
  pub more : Bool

-- a frame of n rows of which nothing has come
abbrev pub fresh_of : ℕ → State
fresh_of n = record { n = n; bytes = 0 }

-- the first of numbers 1, 2 and 14 that applies, from the lengths of the piece and of the lent buffer: n is out of range; the buffer has
-- another length than the frame; the piece ends past the frame, as every piece does where the bytes so far do
unfoldable pub refusal : Code → State → ℕ → ℕ → ℕ
refusal code s piece lent =
    first
    ((outside code s.n, 1) ∷ (not (eqb lent (frame_bytes s.n)), 2) ∷ (ltb (frame_bytes s.n) (s.bytes + piece), 14) ∷ [])

-- a piece that is taken lies behind the bytes so far; more is wanted while there are fewer than the frame has
abbrev pub taken : State → List ℕ → List ℕ → Exit Told
taken s piece frame =
    let bytes : ℕ = s.bytes + length piece in
    record {
      said = record { state = record { n = s.n; bytes = bytes }; number = 0; more = ltb bytes (frame_bytes s.n) };
      output = laid frame s.bytes piece;
    }

-- one that is refused leaves all as it was, and no more is wanted
abbrev pub turned_away : ℕ → State → List ℕ → Exit Told
turned_away number s frame = record { said = record { state = s; number = number; more = false }; output = frame }

-- what is said, and what the lent buffer has then
unfoldable pub receive : Code → State → List ℕ → List ℕ → Exit Told
receive code s piece frame =
    let number : ℕ = refusal code s (length piece) (length frame) in
    pick (eqb number 0) (taken s piece frame) (turned_away number s frame)
