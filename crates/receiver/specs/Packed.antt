-- RULES 14: state and answer as one number of 64 bits, for C.
use Rattle.std.specs.Prelude.{Bool, true, false, List, ℕ, ◌+◌, ◌*◌, ◌/◌, ◌%◌, ◌^◌, ◌<◌, eqb}
use Rattle.rules.specs.Codes.{Code}
use Rattle.rules.specs.Numbers.{Exit}
use Rattle.receiver.specs.declared.state.State.{State}
use Rattle.receiver.specs.Pieces.{Told, receive}

-- the state in such a number: n in bits 16 to 31, the bytes so far from bit 32 on
abbrev pub state_in : ℕ → State
state_in x = record { n = x / 2 ^ 16 % 2 ^ 16; bytes = x / 2 ^ 32 }

-- all that such a number says: besides, in the lowest eight bits the number of the call, and in bit 8 whether more is wanted
abbrev pub said_in : ℕ → Told
said_in x = record { state = state_in x; number = x % 2 ^ 8; more = eqb (x / 2 ^ 8 % 2) 1 }

-- bit 8: whether more is wanted
abbrev pub wanted_bit : Bool → ℕ
wanted_bit true = 2 ^ 8
wanted_bit false = 0

-- an answer as such a number: below the state what the call said, its number lowest
abbrev pub packed : Told → ℕ
packed r = r.number + wanted_bit r.more + r.state.n * 2 ^ 16 + r.state.bytes * 2 ^ 32

-- each part has room
abbrev pub Fits : Told → Type 0
Fits r = (r.number < 2 ^ 8) × (r.state.n < 2 ^ 16) × (r.state.bytes < 2 ^ 32)

-- what C gets, and what the lent buffer has then
unfoldable pub host_receive : Code → ℕ → List ℕ → List ℕ → Exit ℕ
host_receive code x piece frame =
    let e : Exit Told = receive code (state_in x) piece frame in record { said = packed e.said; output = e.output }
