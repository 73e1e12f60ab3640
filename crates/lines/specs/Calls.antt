-- RULES 8: the contracts of the calls that take a text, each as one statement: the arguments, what was in the lent buffer, what is
-- returned, and what is in it then.
use Rattle.std.specs.Prelude.{◌≡◌, List, ℕ, length}
use Rattle.textrules.specs.Text.{Text}
use Rattle.textrules.specs.Programs.{Program}
use Rattle.lines.specs.declared.state.State.{State}
use Rattle.lines.specs.declared.state.Event.{Event}
use Rattle.lines.specs.declared.state.Taken.{Taken}
use Rattle.lines.specs.Stream.{Stop, keeping, stopped, after_all}
use Rattle.lines.specs.Say.{event_text}

-- a piece: the state, what has happened, how many of its bytes were taken, and the line buffer
abbrev pub Takes : Text → State → Text → List ℕ → Taken → List ℕ → Type 0
Takes header s piece line r line-exit =
    let e : Stop = stopped header (keeping s line) piece in
    (keeping r.state line-exit ≡ e.kept) × (r.event ≡ e.event) × (r.taken ≡ e.taken)

-- what a program says of it; its line buffer has room for its longest line, and no more
abbrev pub Says : Program → Event → List ℕ → Text → Type 0
Says p event line text = (length line ≡ p.longest) × (text ≡ event_text p event line)

-- the bytes of m, from a state and a line buffer, leave these
abbrev pub Leaves : Text → State → List ℕ → Text → State → List ℕ → Type 0
Leaves header s line m s₁ line₁ = keeping s₁ line₁ ≡ after_all header (keeping s line) m

-- some bytes do: a read says nothing of those that it gives
abbrev pub LeavesSome : Text → State → List ℕ → State → List ℕ → Type 0
LeavesSome header s line s₁ line₁ = (m : Text) × Leaves header s line m s₁ line₁
