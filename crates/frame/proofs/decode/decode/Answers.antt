-- `decode::decode` meets its contract: where all checks are passed the frame is copied and repaired, and put back as it was received
-- where that failed.
use native.Mathlib.Omega.{arith}
use Rattle.std.proofs.lemmas.Result.{err_from_is_err_and}
use Rattle.rules.specs.Codes.{small_code}
use Rattle.laws.proofs.CornerLaws.{cornered_square, ready}
use Rattle.laws.proofs.DecodeLaws.{refused, accept, copied_frame, as_long}
use Rattle.word.proofs.RefusedLaws.{number_some}
use Rattle.frame.proofs.ReportLaws.{failed, succeeded}
use Rattle.frame.proofs.decode.decode.Goals as goal

pub returns-in_err-check : goal.returns-in_err-check
returns-in_err-check c =
    let p = err_from_is_err_and c.from_residual.result c.from_residual.ensures.1 in
    rw (p.1, p.2) (refused small_code _ _ _ _ _ (number_some _) c.in_err-check.ensures)

pub copy_corner-requires : goal.copy_corner-requires
copy_corner-requires c =
    let f = (accept small_code _ _ _ _ c.in_ok-check.ensures).sized in
    record { le_m = omega (arith, f.from, f.up_to); from_len = (f.taken, f.lent) }

pub repair-report-requires : goal.repair-report-requires
repair-report-requires c =
    let ok = accept small_code _ _ _ _ c.in_ok-check.ensures in
    let e = c.copy_corner.ensures in
    ((ready small_code _ _ _ ok.sized.from ok.sized.up_to (cornered_square _ _ _) e, ok.sized.taken, copied_frame _ _ _ e), ok.some, ok.most)

pub copy_from_slice-requires : goal.copy_from_slice-requires
copy_from_slice-requires c =
    let ok = accept small_code _ _ _ _ c.in_ok-check.ensures in
    omega (arith, as_long c.args.n c.args.received.now _ _ ok.sized.taken c.repair-report.ensures.1)

pub returns-then-is_failure : goal.returns-then-is_failure
returns-then-is_failure c =
    let ok = accept small_code _ _ _ _ c.in_ok-check.ensures in
    failed _ _ _ _ ok _ c.repair-report.ensures.0 _ c.is_failure.ensures _ c.if-is_failure.true c.copy_from_slice.ensures.after

pub returns-else-is_failure : goal.returns-else-is_failure
returns-else-is_failure c =
    let ok = accept small_code _ _ _ _ c.in_ok-check.ensures in
    let r = c.repair-report.ensures in
    succeeded _ _ _ _ ok _ r.0 _ c.is_failure.ensures _ c.if-is_failure.false r.1
