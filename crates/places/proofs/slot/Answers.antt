-- `places::slot`: behind all others for 0, else at the difference of the logarithms.
use Rattle.algebra.specs.Field256.{small_marking}
use Rattle.algebra.proofs.PairLaws.{slot-zero, slot-some}
use Rattle.algebra.proofs.Field256Laws.{fit256}
use borrow.Author.Rules.{rules}
use Rattle.places.proofs.slot.Goals as goal

pub returns-then-cubes-eq0 : goal.returns-then-cubes-eq0
returns-then-cubes-eq0 c = (search rules, rw c.if-cubes-eq0.true (slot-zero small_marking fit256 c.args.log))

pub returns : goal.returns
returns c = (
  search rules,
  slot-some small_marking fit256 c.args.log c.args.cubes c.exponent-cube_log.result _ c.requires c.if-cubes-eq0.false (search rules) (cc)
      c.reduced.ensures.0 (rw c.exponent.ensures.0 at c.reduced.ensures.1),
)
