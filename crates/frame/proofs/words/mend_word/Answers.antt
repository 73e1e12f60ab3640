-- `words::mend_word`: the answer names the bits that are changed.
use mathlib.Core.Path.{◌∙◌}
use Rattle.rules.specs.Codes.{small_code}
use Rattle.rules.proofs.Laws.SmallCode.{sound_small}
use Rattle.laws.proofs.InPlaceLaws.{word_at-length}
use Rattle.laws.proofs.PassStepLaws.{put_there, flips_there}
use Rattle.laws.proofs.TurnLaws.{word_inside}
use Rattle.word.proofs.SaidLaws.{changes_answer}
use Rattle.frame.proofs.words.mend_word.Goals as goal

pub mend-requires : goal.mend-requires
mend-requires c =
    let a = c.args in
    rw c.word.ensures (word_inside small_code sound_small a.n a.s.now a.columns a.k c.requires.0 c.requires.1)

pub returns : goal.returns
returns c =
    let a = c.args in
    let pre = c.requires in
    let said = rw c.word.ensures at c.mend.ensures.value in (
      flips_there small_code a.n a.s.now a.columns a.k pre.1 sound_small _ pre.0
          (changes_answer _ _ _ _ pre.0.0 (word_at-length _ _ _ _) c.changes.ensures said),
      rw c.word.ensures at c.mend.ensures.bytes_after ∙ put_there small_code a.n a.s.now a.columns a.k pre.1,
    )
