-- `frame::read::read` meets its contract: the corner of a frame that is taken.
use mathlib.Core.Path.{sym}
use native.Mathlib.Omega.{arith}
use Rattle.std.proofs.lemmas.Result.{err_from_is_err_and}
use Rattle.rules.specs.Codes.{small_code}
use Rattle.rules.proofs.Laws.NumberLaws.{read_accepts}
use Rattle.laws.proofs.ReadLaws.{read_refuses, read_takes}
use Rattle.word.proofs.RefusedLaws.{number_some}
use Rattle.frame.proofs.read.read.Goals as goal

pub returns-in_err-check : goal.returns-in_err-check
returns-in_err-check c =
    let p = err_from_is_err_and c.from_residual.result c.from_residual.ensures.1 in
    rw (p.1, p.2) (read_refuses small_code _ _ _ _ (number_some _) c.in_err-check.ensures)

pub overflow_sub-k : goal.overflow_sub-k
overflow_sub-k c = let f = (read_accepts small_code _ _ _).0 (sym c.in_ok-check.ensures) in omega (arith, f.0.from)

pub copy_corner-requires : goal.copy_corner-requires
copy_corner-requires c =
    let f = ((read_accepts small_code _ _ _).0 (sym c.in_ok-check.ensures)).0 in
    record { le_m = omega (arith, f.from, f.up_to); from_len = (f.taken, f.lent) }

pub returns : goal.returns
returns c = read_takes small_code _ _ _ _ c.in_ok-check.ensures c.copy_corner.ensures
