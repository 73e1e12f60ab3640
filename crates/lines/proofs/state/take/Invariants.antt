-- `lines::state::take` meets its contract.
use mathlib.Core.Path.{◌≡◌}
use mathlib.Core.Bool.{false}
use lib.ListN.{drop}
use Rattle.lines.specs.Stream.{keeping, up_to_lf, stopped}
use Rattle.lines.proofs.state.take.Given as goal

-- what is left to take from here is the whole answer
abbrev pub invariant-loop-i : goal.invariant-loop-i
invariant-loop-i l = record {
  going : l.current.rejected ≡ false;
  rest : up_to_lf l.header (keeping l.current l.line) l.i (drop l.i l.piece) ≡ stopped l.header (keeping l.fn.state l.initial.line) l.piece;
}
