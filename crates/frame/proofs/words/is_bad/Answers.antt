-- `words::is_bad`: the checks of no codeword alone are not zero.
use mathlib.Core.Path.{◌∙◌, ap}
use mathlib.Core.Bool.{not}
use Rattle.std.proofs.Common.{eqb}
use Rattle.rules.specs.Codes.{small_code}
use Rattle.rules.proofs.Laws.SmallCode.{sound_small}
use Rattle.laws.proofs.PassStepLaws.{codeword_there}
use Rattle.laws.proofs.TurnLaws.{word_inside}
use Rattle.frame.proofs.words.is_bad.Goals as goal

pub checks-requires : goal.checks-requires
checks-requires c =
    let a = c.args in
    rw c.word.ensures (word_inside small_code sound_small a.n a.s.now a.columns a.k c.requires.0 c.requires.1)

pub returns : goal.returns
returns c =
    let a = c.args in
    ap (λ x. not (eqb x 0)) (rw c.word.ensures at c.checks.ensures.0) ∙ ap not (codeword_there small_code a.n a.s.now a.columns a.k c.requires.1)
