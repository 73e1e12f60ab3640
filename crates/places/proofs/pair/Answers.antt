-- `places::pair`: one of two places, and the other by what is left of the mark.
use native.Mathlib.Omega.{arith}
use Rattle.algebra.specs.Xor.{◌⊕◌}
use Rattle.algebra.specs.Field256.{small_marking}
use Rattle.algebra.proofs.Field256Laws.{fit256}
use Rattle.laws.proofs.LocateSteps.{pair_found, pair_alone}
use Rattle.places.proofs.pair.Goals as goal

pub returns : goal.returns
unfolding ◌⊕◌
returns c =
    pair_found small_marking fit256 c.args.bound c.args.mark _ c.requires c.in_ok-one.ensures _ c.mark_at.ensures _
    c.in_ok-other.ensures _ _ (omega (arith, c.if-bound-one.false)) c.max.ensures c.min.ensures

pub returns-in_err-other : goal.returns-in_err-other
unfolding ◌⊕◌
returns-in_err-other c =
    rw c.from_residual-in_err-other.ensures
    (pair_alone small_marking fit256 c.args.bound c.args.mark _ c.requires c.in_ok-one.ensures _ c.mark_at.ensures
    c.in_err-other.ensures)
