-- `input::program::run` meets its contract.
use mathlib.Core.Path.{◌≡◌}
use Rattle.lines.specs.Calls.{LeavesSome}
use Rattle.input.proofs.program.run.Given as goal

abbrev pub invariant-loop : goal.invariant-loop
invariant-loop g l = record {
  same : l.state ≡ l.input.state;
  left : LeavesSome g.P.Program.program.header l.initial.state l.initial.line l.input.state l.line;
}
