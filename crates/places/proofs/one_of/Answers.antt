-- `places::one_of`: the half at the slot, moved by the logarithm of the power.
use mathlib.Core.Path.{sym, ◌∙◌}
use Rattle.algebra.specs.Field256.{small_marking}
use Rattle.algebra.proofs.Field256Laws.{fit256}
use Rattle.laws.proofs.LocateSteps.{no_power, half_one}
use Rattle.places.proofs.one_of.Goals as goal

pub returns-then-power-eq0 : goal.returns-then-power-eq0
returns-then-power-eq0 c = no_power small_marking fit256 c.args.mark (sym c.power_part-power.ensures ∙ c.if-power-eq0.true)

pub returns : goal.returns
returns c =
    half_one small_marking fit256 c.args.mark _ _ _ _ _ c.power_part-power.ensures c.if-power-eq0.false
    c.exponent-log.ensures.0 c.cube_part.ensures c.slot.ensures.1 c.reduced.ensures.0
    (rw c.half.ensures.0 at c.reduced.ensures.1)
