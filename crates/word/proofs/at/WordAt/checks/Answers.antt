-- `WordAt::checks`: the loop keeps the remainder and the ones of the bits that it has passed, and where the next bit stands.
use native.Mathlib.Nat.{suc-mul, zero-mul}
use native.Mathlib.Omega.{arith}
use Rattle.rules.specs.Codes.{small_code}
use Rattle.rules.proofs.Laws.SmallCode.{sound_small}
use Rattle.laws.proofs.CheckLoopLaws.{passed_none, passed_more, passed_all}
use Rattle.word.proofs.at.WordAt.checks.Goals as goal

pub loop-init : goal.loop-init
loop-init c = (passed_none small_code, omega (arith, zero-mul c.args.self.step))

pub loop-preserved : goal.loop-preserved
loop-preserved c =
    let here = rw c.loop.invariant.1 at c.bit-b.ensures in (
      passed_more small_code sound_small c.loop.invariant.0 here c.shifted-remainder.ensures.0,
      omega (arith, suc-mul c.loop.counter c.args.self.step),
    )

pub returns : goal.returns
returns c =
    let last = rw c.loop.invariant.1 at c.bit.ensures in
    (passed_all (omega arith) (omega arith) c.loop.invariant.0 last, omega arith)
