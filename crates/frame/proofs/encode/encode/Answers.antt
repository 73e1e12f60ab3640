-- `frame::encode::encode` meets its contract: the frame by way of the corner, the rows and the columns.
use mathlib.Core.Path.{sym}
use native.Mathlib.Omega.{arith}
use Rattle.std.proofs.lemmas.Result.{err_from_is_err_and}
use Rattle.rules.specs.Codes.{small_code}
use Rattle.rules.proofs.Laws.SmallCode.{sound_small}
use Rattle.rules.proofs.Laws.NumberLaws.{encode_accepts}
use Rattle.rules.proofs.Laws.Shape.{frame_of-square}
use Rattle.laws.proofs.EncodeLaws.{corner_ready, rows_ready, encoded, encode_refuses, encode_takes}
use Rattle.word.proofs.RefusedLaws.{number_some}
use Rattle.frame.proofs.encode.encode.Goals as goal

pub returns-in_err-check : goal.returns-in_err-check
returns-in_err-check c =
    let p = err_from_is_err_and c.from_residual.result c.from_residual.ensures.1 in
    rw (p.1, p.2) (encode_refuses small_code _ _ _ _ (number_some _) c.in_err-check.ensures)

pub overflow_sub-k : goal.overflow_sub-k
overflow_sub-k c = let f = (encode_accepts small_code _ _ _).0 (sym c.in_ok-check.ensures) in omega (arith, f.0.from)

pub copy_corner-requires : goal.copy_corner-requires
copy_corner-requires c =
    let f = ((encode_accepts small_code _ _ _).0 (sym c.in_ok-check.ensures)).0 in
    record { le_m = omega (arith, f.from, f.up_to); from_len = (f.taken, f.lent) }

pub encode_words-requires : goal.encode_words-requires
encode_words-requires c =
    let f = ((encode_accepts small_code _ _ _).0 (sym c.in_ok-check.ensures)).0 in
    (corner_ready small_code sound_small _ _ _ f.from f.up_to (frame_of-square _ _) c.copy_corner.ensures, omega (arith, f.from))

pub encode_words-requires-2 : goal.encode_words-requires-2
encode_words-requires-2 c =
    let f = ((encode_accepts small_code _ _ _).0 (sym c.in_ok-check.ensures)).0 in
    (rows_ready small_code sound_small _ _ _ f.from f.up_to (frame_of-square _ _) c.copy_corner.ensures _ c.encode_words.ensures, omega (arith, f.from))

pub returns : goal.returns
returns c =
    let f = ((encode_accepts small_code _ _ _).0 (sym c.in_ok-check.ensures)).0 in
    encode_takes small_code _ _ _ c.in_ok-check.ensures
    (encoded small_code sound_small _ _ _ f.from f.up_to (frame_of-square _ _) c.copy_corner.ensures _ c.encode_words.ensures _
    c.encode_words-2.ensures)
