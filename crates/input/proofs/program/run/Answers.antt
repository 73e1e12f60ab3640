-- `input::program::run` meets its contract.
use mathlib.Core.Path.{refl, sym, ap}
use native.Mathlib.Omega.{arith}
use Rattle.lines.proofs.HandedLaws.{some-none}
use Rattle.lines.specs.Stream.{keeping}
use Rattle.input.specs.declared.reading.Input.{Input}
use Rattle.input.proofs.Streams.{goes_on}
use Rattle.input.proofs.program.run.Goals as goal

pub loop-init : goal.loop-init
loop-init g c = record {
  same = ap (λ (i : Input). i.state) (sym c.resume-input.ensures);
  left = some-none _ _ _ (keeping c.resume-input.result.state c.args.line.now) (ap (λ (i : Input). keeping i.state c.args.line.now) c.resume-input.ensures);
}

pub tell-requires : goal.tell-requires
tell-requires g c = (omega arith, omega (arith, g.met.P.Program.room.2))

pub returns-in_err-tell-in-More : goal.returns-in_err-tell-in-More
returns-in_err-tell-in-More g c = goes_on g.P.Program.program _ _ c.loop.input c.loop.piece c.loop.line c.in-More.next c.in-More.event _ _ _ c.loop.invariant.left c.header.ensures c.in-More.ensures

pub tell-requires-in-Ended : goal.tell-requires-in-Ended
tell-requires-in-Ended g c = (omega arith, omega (arith, g.met.P.Program.room.2))

pub loop-preserved : goal.loop-preserved
loop-preserved g c = record {
  same = refl;
  left = goes_on g.P.Program.program _ _ c.loop.input c.loop.piece c.loop.line c.in-More.next c.in-More.event _ _ _ c.loop.invariant.left c.header.ensures c.in-More.ensures;
}
