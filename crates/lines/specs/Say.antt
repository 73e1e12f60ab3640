-- RULES 8: what a program says of what has happened.
use Rattle.std.specs.Prelude.{◌≡◌, ◌≢◌, List, [], ℕ, ◌+◌, ◌≤◌, ◌<◌, length, take}
use Rattle.rules.specs.Numbers.{pick}
use Rattle.textrules.specs.Text.{Text}
use Rattle.textrules.specs.Programs.{bad_header, questioned, Program}
use Rattle.lines.specs.declared.state.Event.{Event}
use Rattle.lines.specs.declared.state.Event.TheVariants.{Nothing, Header, Line, Long}

-- the digits of the greatest number of a machine word
abbrev pub word_digits : ℕ
word_digits = 20

-- the room for the line of a bad line: `?`, a tab, a number and an LF; `bad header` is shorter
abbrev pub question_room : ℕ
question_room = word_digits + 3

-- from what has happened, and the line buffer
abbrev pub event_text : Program → Event → List ℕ → Text
event_text p Nothing line = []
event_text p (Header good) line = pick good p.opening bad_header
event_text p (Line k long) line = p.line_text k (take long line)
event_text p (Long k) line = questioned k

-- what is asked of a program, for the theorem 'whatever the pieces'
pub record Regular (p : Program) : Type 0 where
  pub header_some : p.header ≢ []
  pub header_short : length p.header ≤ p.longest
  -- a line that is too long is bad
  pub too_long : (k : ℕ) (t : Text) → p.longest < length t → p.line_text k t ≡ questioned k
