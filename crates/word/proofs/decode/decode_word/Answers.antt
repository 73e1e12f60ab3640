-- `word::decode::decode_word` meets its contract: a refusal is that of the checks, and an answer that of the word.
use mathlib.Core.Path.{sym, ap, ◌∙◌}
use lib.ListN.{length}
use native.Mathlib.Omega.{arith}
use Rattle.std.proofs.lemmas.Result.{err_from_is_err_and}
use Rattle.rules.specs.Codes.{small_code}
use Rattle.rules.proofs.Laws.NumberLaws.{word_accepts}
use Rattle.rules.proofs.Laws.SmallCode.{sound_small}
use Rattle.rules.proofs.Laws.PackLaws.{word_bytes-length}
use Rattle.laws.proofs.InPlaceLaws.{put-length}
use Rattle.laws.proofs.WordBytesLaws.{word_fits}
use Rattle.word.proofs.SaidLaws.{refused, accepted, kept}
use Rattle.word.proofs.decode.decode_word.Goals as goal

pub returns-in_err-check : goal.returns-in_err-check
returns-in_err-check c =
    let a = c.args in
    let p = err_from_is_err_and c.from_residual.result c.from_residual.ensures.1 in
    rw (p.1, p.2) (refused a.n a.received.now a.word.now _ c.in_err-check.ensures)

pub copy_word-requires : goal.copy_word-requires
copy_word-requires c =
    let a = c.args in
    let f = (word_accepts small_code a.n a.received.now a.word.now).0 (sym c.in_ok-check.ensures) in
    (omega (arith, f.up_to), f.taken, f.lent)

pub mend-answer-requires : goal.mend-answer-requires
mend-answer-requires c =
    let a = c.args in
    let f = (word_accepts small_code a.n a.received.now a.word.now).0 (sym c.in_ok-check.ensures) in
    word_fits small_code sound_small a.n _ _ f.from f.up_to c.copy_word.ensures

pub copy_from_slice-requires : goal.copy_from_slice-requires
copy_from_slice-requires c =
    let a = c.args in
    let f = (word_accepts small_code a.n a.received.now a.word.now).0 (sym c.in_ok-check.ensures) in
    ap length c.mend-answer.ensures.bytes_after ∙ put-length _ _ _ _ _ ∙ ap length c.copy_word.ensures ∙ word_bytes-length _ _ ∙ sym f.taken

-- no codeword within two: the received bytes are copied over the word
pub returns-in-Beyond : goal.returns-in-Beyond
returns-in-Beyond c =
    let a = c.args in
    let f = (word_accepts small_code a.n a.received.now a.word.now).0 (sym c.in_ok-check.ensures) in
    kept a.n a.received.now a.word.now f _ _ _ c.copy_word.ensures
    c.mend-answer.ensures.value c.mend-answer.ensures.bytes_after c.in-Beyond.is _ c.copy_from_slice.ensures.after

-- any other answer
pub returns-in_default : goal.returns-in_default
returns-in_default c =
    let a = c.args in
    let f = (word_accepts small_code a.n a.received.now a.word.now).0 (sym c.in_ok-check.ensures) in
    accepted a.n a.received.now a.word.now f _ _ _ c.copy_word.ensures
    c.mend-answer.ensures.value c.mend-answer.ensures.bytes_after
    c.in_default.not-Beyond
