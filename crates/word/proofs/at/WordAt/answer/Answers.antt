-- `WordAt::answer`: the checks alone give the answer.
use mathlib.Core.Path.{ap, ◌∙◌}
use Rattle.rules.specs.Codes.{small_code}
use Rattle.laws.specs.InPlace.{word_at}
use Rattle.laws.proofs.MendLaws.{located_answer}
use Rattle.word.specs.Said.{answer_of}
use Rattle.word.proofs.at.WordAt.answer.Goals as goal

pub returns : goal.returns
returns c =
    let w = c.args.self in
    c.locate.ensures
    ∙ ap answer_of (located_answer small_code w.n (word_at w.n c.args.bytes.now w.start w.step) c.checks.result c.checks.ensures.0)
