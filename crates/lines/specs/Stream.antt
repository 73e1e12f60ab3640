-- RULES 8: a text taken byte by byte, what is kept of it and what happens.
use Rattle.std.specs.Prelude.{Bool, false, not, ◌&&◌, List, [], ◌∷◌, ℕ, suc, eqb, leb, ltb, length, take, set}
use Rattle.rules.specs.Numbers.{pick}
use Rattle.textrules.specs.Text.{Text, lf, same}
use Rattle.lines.specs.declared.state.State.{State}
use Rattle.lines.specs.declared.state.Event.{Event}
use Rattle.lines.specs.declared.state.Event.TheVariants.{Nothing, Header, Line, Long}

-- line 1, with nothing read of it
abbrev pub at_start : State
at_start = record { number = 1; length = 0; rejected = false }

-- the line in the buffer is the header, and is not too long
abbrev pub is_header : Text → ℕ → List ℕ → Bool
is_header header long line = leb long (length line) && same (take long line) header

-- what has happened once the line is whole
unfoldable pub closed : Text → State → List ℕ → Event
closed header s line =
    pick (eqb s.number 1) (Header (is_header header s.length line))
    (pick (leb s.length (length line)) (Line s.number s.length) (Long s.number))

-- the greatest number of a machine word
abbrev pub most_lines : ℕ
most_lines = 18446744073709551615

-- the next line's number; the greatest stays
abbrev pub following : ℕ → ℕ
following k = pick (ltb k most_lines) (suc k) k

-- after an LF: the next line, with nothing read of it; rejected if that was the first line, and no header
unfoldable pub next_line : Text → State → List ℕ → State
next_line header s line = record {
  number = following s.number;
  length = 0;
  rejected = eqb s.number 1 && not (is_header header s.length line);
}

-- one more character; a length past the longest line says that it is too long, and stays
abbrev pub longer : ℕ → State → State
longer most s = record { number = s.number; length = pick (leb s.length most) (suc s.length) s.length; rejected = false }

-- ---- After the byte x

-- the state; after a bad header it stays
unfoldable pub state_after : Text → State → List ℕ → ℕ → State
state_after header s line x = pick s.rejected s (pick (eqb x lf) (next_line header s line) (longer (length line) s))

-- the lent line buffer
unfoldable pub line_after : State → List ℕ → ℕ → List ℕ
line_after s line x = pick s.rejected line (pick (eqb x lf) line (set line s.length x))

-- what has happened: an LF makes a line whole
unfoldable pub event_after : Text → State → List ℕ → ℕ → Event
event_after header s line x = pick s.rejected Nothing (pick (eqb x lf) (closed header s line) Nothing)

-- ---- At the end of the input

-- nothing after the last LF; where the first line is missing, that is the line that ends
abbrev pub is_between : State → Bool
is_between s = eqb s.length 0 && not (eqb s.number 1)

-- a line that lacks its LF is whole, or the missing first one
unfoldable pub event_at_end : Text → State → List ℕ → Event
event_at_end header s line = pick s.rejected Nothing (pick (is_between s) Nothing (closed header s line))

-- ---- After several bytes

-- what a caller keeps between two calls
pub record Kept : Type 0 where
  pub state : State
  pub line : List ℕ

-- a state and a line buffer kept
abbrev pub keeping : State → List ℕ → Kept
keeping s line = record { state = s; line = line }

-- after one byte more
abbrev pub kept_after : Text → Kept → ℕ → Kept
kept_after header k x = record { state = state_after header k.state k.line x; line = line_after k.state k.line x }

-- after all bytes of a text
unfoldable pub after_all : Text → Kept → Text → Kept
after_all header k [] = k
after_all header k (x ∷ m) = after_all header (kept_after header k x) m

-- ---- A piece

-- what is kept, what has happened, and the bytes taken
pub record Stop : Type 0 where
  pub kept : Kept
  pub event : Event
  pub taken : ℕ

-- bytes are taken up to the first LF, and that one; i are taken already
unfoldable pub up_to_lf : Text → Kept → ℕ → Text → Stop
up_to_lf header k i [] = record { kept = k; event = Nothing; taken = i }
up_to_lf header k i (x ∷ piece) =
    pick (eqb x lf) (record { kept = kept_after header k x; event = event_after header k.state k.line x; taken = suc i })
    (up_to_lf header (kept_after header k x) (suc i) piece)

-- after a bad header all are taken, and nothing happens
unfoldable pub stopped : Text → Kept → Text → Stop
stopped header k piece =
    pick k.state.rejected (record { kept = k; event = Nothing; taken = length piece }) (up_to_lf header k 0 piece)
