-- `WordAt::encode`: the places passed are the codeword's, and what is left is what the other places owe.
use mathlib.Core.Path.{◌∙◌}
use Rattle.algebra.specs.Xor.{◌⊕◌}
use Rattle.laws.proofs.SettleLaws.{settle_start, settle_digit, settle_flip, settle_keep, settle_end_flip, settle_end_keep}
use Rattle.rules.specs.Codes.{small_code}
use Rattle.rules.proofs.Laws.SmallCode.{sound_small}
use Rattle.word.proofs.at.WordAt.encode.Goals as goal
use Rattle.word.proofs.at.WordAt.encode.Goals.{then-v-left, else-v-left}

pub loop-i-init : goal.loop-i-init
loop-i-init c = settle_start small_code sound_small c.requires c.checks-left.ensures.0

pub loop-i-preserved : goal.loop-i-preserved
unfolding ◌⊕◌
loop-i-preserved c =
    let s = c.loop-i.invariant in
    let v = settle_digit small_code sound_small s in
    let turn = c.loop-i-test.true in
    elim c.if-v-left.branch [
      | then-v-left w ↦
          settle_flip small_code sound_small s turn (rw v at w.if-v-left.true)
          (w.bytes-is ∙ rw w.place.ensures at w.flip.ensures) (rw v at w.left-is)
      | else-v-left w ↦ settle_keep small_code sound_small s turn (rw v at w.if-v-left.false) w.bytes-is w.left-is
    ]

pub returns-then-left-eq1 : goal.returns-then-left-eq1
returns-then-left-eq1 c =
    rw c.place-then-left-eq1.ensures at c.flip-then-left-eq1.ensures
    ∙ settle_end_flip small_code sound_small c.loop-i.invariant c.loop-i-test.false c.if-left-eq1.true

pub returns-else-left-eq1 : goal.returns-else-left-eq1
returns-else-left-eq1 c = settle_end_keep small_code sound_small c.loop-i.invariant c.loop-i-test.false c.if-left-eq1.false
