-- The contract of `receive`, as one equation about a call: its arguments, what was in the lent buffer, what is said, and what is in
-- the buffer then.
use Rattle.std.specs.Prelude.{◌≡◌, false, List, ℕ, Result, Ok, Err}
use Rattle.rules.specs.Codes.{small_code}
use Rattle.rules.specs.Numbers.{Exit}
use Rattle.word.specs.declared.refusal.Refusal.{Refusal}
use Rattle.word.specs.Refused.{number}
use Rattle.receiver.specs.declared.state.State.{State}
use Rattle.receiver.specs.declared.state.Received.{Received}
use Rattle.receiver.specs.Pieces.{Told, receive}

-- what the code's answer to a call with the state s says: one that is refused leaves s, and no more is wanted; one that is taken has number 0
abbrev pub told : State → Result Received Refusal → Told
told s (Err e) = record { state = s; number = number e; more = false }
told s (Ok r) = record { state = r.state; number = 0; more = r.more }

abbrev pub Receives : State → List ℕ → List ℕ → Told → List ℕ → Type 0
Receives s piece frame r exit = ◌≡◌ {A = Exit Told} (record { said = r; output = exit }) (receive small_code s piece frame)
