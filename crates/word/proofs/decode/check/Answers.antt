-- `decode::check` gives the number of the first check that is met.
use Rattle.std.proofs.Common.{rules}
use Rattle.std.proofs.lemmas.Result.{err_from_is_err_and}
use mathlib.Core.Path.{◌∙◌}
use Rattle.rules.specs.Codes.{small_code}
use Rattle.rules.specs.Numbers.{word_refusal, word_refusals}
use Rattle.laws.proofs.RefusalLaws.{first_met, first_passed}
use Rattle.word.proofs.RefusedLaws.{number_some}
use Rattle.word.proofs.decode.check.Goals as goal

pub returns-in_err-check_n : goal.returns-in_err-check_n
unfolding word_refusal
returns-in_err-check_n c =
    let a = c.args in
    let p = err_from_is_err_and c.from_residual.result c.from_residual.ensures.1 in
    rw (p.1, p.2) (first_met (word_refusals small_code a.n a.received.now a.word.now) 1 _ (number_some _) c.in_err-check_n.ensures)

pub returns : goal.returns
unfolding word_refusal
returns c =
    let a = c.args in
    rw c.row_bytes-bytes.ensures at c.check_lengths.ensures
    ∙ first_passed (word_refusals small_code a.n a.received.now a.word.now) 1 (search rules) c.in_ok-check_n.ensures
