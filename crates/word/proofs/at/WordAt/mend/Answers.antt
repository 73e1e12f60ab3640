-- `WordAt::mend`: the places that the answer names are flipped, one after another.
use mathlib.Core.Path.{sym, ap, ◌∙◌}
use Prim.Native.Nat.{◌+◌, ◌*◌}
use borrow.Author.Rules.{rules}
use Rattle.laws.specs.InPlace.{flip_at}
use Rattle.laws.proofs.MendLaws.{flips}
use Rattle.word.specs.declared.locate.Answer.TheVariants.{OnePlace, TwoPlaces}
use Rattle.word.proofs.AnswerLaws.{names_none, mended}
use Rattle.word.proofs.at.WordAt.mend.Goals as goal

pub returns-in-OnePlace-clause-bytes_after : goal.returns-in-OnePlace-clause-bytes_after
returns-in-OnePlace-clause-bytes_after c =
    let w = c.args.self in
    mended w.n _ w.start w.step (OnePlace c.in-OnePlace.p) c.requires (sym c.in-OnePlace.is ∙ c.answer-answer.ensures) (λ p. search rules)
    (rw c.place.ensures at c.flip.ensures)

pub returns-in-TwoPlaces-clause-bytes_after : goal.returns-in-TwoPlaces-clause-bytes_after
returns-in-TwoPlaces-clause-bytes_after c =
    let w = c.args.self in
    let t = c.in-TwoPlaces in
    mended w.n _ w.start w.step (TwoPlaces t.p t.q) c.requires (sym t.is ∙ c.answer-answer.ensures) (λ p. search rules)
    (rw c.place-in-TwoPlaces-2.ensures at c.flip-in-TwoPlaces-2.ensures
    ∙ ap (λ u. flip_at u (w.start + t.q * w.step)) (rw c.place-in-TwoPlaces.ensures at c.flip-in-TwoPlaces.ensures))

pub returns-in-Codeword-clause-bytes_after : goal.returns-in-Codeword-clause-bytes_after
returns-in-Codeword-clause-bytes_after c =
    let w = c.args.self in
    mended w.n _ w.start w.step c.answer-answer.result c.requires c.answer-answer.ensures (λ p. search rules)
    (ap (flips c.args.bytes.now w.start w.step) (names_none c.in-Codeword.is))
