-- Standard input, step by step. A read says nothing of the bytes that it gives; the piece has them then.
use Rattle.std.specs.Prelude.{◌≡◌, ◌⊎◌, Bool, true, false, ◌&&◌, List, ℕ, zero, suc, ◌+◌, ◌-◌, ◌≤◌, ◌<◌, Option, Some, None, leb, ltb, take, drop}
use Rattle.textrules.specs.Text.{Text}
use Rattle.lines.specs.declared.state.State.{State}
use Rattle.lines.specs.Stream.{at_start, event_at_end, keeping, Stop, stopped}
use Rattle.input.specs.declared.reading.Input.{Input}
use Rattle.input.specs.declared.reading.Step.{Step}
use Rattle.input.specs.declared.reading.Step.TheVariants.{More, Ended, Failed}

-- the bytes of a read
abbrev pub piece_bytes : ℕ
piece_bytes = 8192

-- nothing read, or all that was read taken
abbrev pub all_taken : State → Input
all_taken s = record { state = s; from = 0; to = 0 }

-- nothing read
abbrev pub at_begin : Input
at_begin = all_taken at_start

-- something is left of the piece that was read last
abbrev pub has_more : Input → Bool
has_more i = ltb i.from i.to && leb i.to piece_bytes

-- a line is taken of what is left, or all of it where that has no LF
abbrev pub TakesLine : Text → Input → List ℕ → List ℕ → Step → List ℕ → Type 0
TakesLine header i piece line r line-exit =
    let e : Stop = stopped header (keeping i.state line) (take (i.to - i.from) (drop i.from piece)) in
    (r ≡ More (record { state = e.kept.state; from = i.from + e.taken; to = i.to }) e.event) × (line-exit ≡ e.kept.line)

-- nothing more has come, at the end of the input or since a read failed
abbrev pub Stops : Text → State → List ℕ → Step → List ℕ → Type 0
Stops header s line r line-exit = ((r ≡ Ended (event_at_end header s line)) ⊎ (r ≡ Failed)) × (line-exit ≡ line)

-- what a read comes to: it failed, or gave no byte and so the input has ended, or gave the first bytes of the piece
abbrev pub AfterRead : Option ℕ → Text → State → List ℕ → List ℕ → Step → List ℕ → Type 0
AfterRead None header s piece line r line-exit = (r ≡ Failed) × (line-exit ≡ line)
AfterRead (Some zero) header s piece line r line-exit = (r ≡ Ended (event_at_end header s line)) × (line-exit ≡ line)
AfterRead (Some (suc to)) header s piece line r line-exit =
    TakesLine header (record { state = s; from = 0; to = suc to }) piece line r line-exit

-- all that was read is taken: a read gives the first bytes of the piece, or none
abbrev pub StepsAfterRead : Text → State → List ℕ → Step → List ℕ → List ℕ → Type 0
StepsAfterRead header s line r piece-exit line-exit =
    ((to : ℕ) × (0 < to) × (to ≤ piece_bytes) × TakesLine header (record { state = s; from = 0; to = to }) piece-exit line r line-exit)
    ⊎ Stops header s line r line-exit

-- a step, where something is left and where not
abbrev pub StepsIf : Bool → Text → Input → List ℕ → List ℕ → Step → List ℕ → List ℕ → Type 0
StepsIf true header i piece line r piece-exit line-exit = (piece-exit ≡ piece) × TakesLine header i piece line r line-exit
StepsIf false header i piece line r piece-exit line-exit = StepsAfterRead header i.state line r piece-exit line-exit

-- a step
abbrev pub Steps : Text → Input → List ℕ → List ℕ → Step → List ℕ → List ℕ → Type 0
Steps header i = StepsIf (has_more i) header i
