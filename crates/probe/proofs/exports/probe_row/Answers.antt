-- `exports::probe_row` meets its contract: the part is copied where the lent one is as long.
use Rattle.probe.proofs.ProbeLaws.{row_copied, row_left}
use Rattle.probe.proofs.exports.probe_row.Goals as goal

pub returns-then-bytes-part : goal.returns-then-bytes-part
returns-then-bytes-part c = row_copied _ _ _ _ c.row-bytes.ensures c.if-bytes-part.true c.copy_from_slice.ensures.after

pub returns-else-bytes-part : goal.returns-else-bytes-part
returns-else-bytes-part c = row_left _ _ _ c.row-bytes.ensures c.if-bytes-part.false
