-- `put::put_numbers`: the first i numbers are put.
use native.Mathlib.Omega.{arith}
use Rattle.block.proofs.PutLaws.{in_bytes_none, put_more, put_all}
use Rattle.block.proofs.put.put_numbers.Goals as goal

pub loop-i-init : goal.loop-i-init
loop-i-init c = in_bytes_none

pub loop-i-preserved : goal.loop-i-preserved
loop-i-preserved c =
    let l = c.loop-i in
    put_more c.args.numbers.now l.i _ l.block _ (omega arith) (omega arith) l.invariant
    (rw c.to_le_bytes-bytes.ensures at c.copy_from_slice.ensures.after)

pub returns : goal.returns
returns c = put_all c.args.numbers.now c.loop-i.i c.loop-i.block (omega arith) (omega arith) c.loop-i.invariant
