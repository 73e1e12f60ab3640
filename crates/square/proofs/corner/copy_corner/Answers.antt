-- `corner::copy_corner`: each byte is written.
use mathlib.Core.Path.{◌∙◌}
use Prim.Native.Nat.{◌/◌, ◌%◌}
use native.Mathlib.Omega.{arith}
use Rattle.rules.specs.Bits.{row_bytes, frame_of, bytes_of}
use Rattle.laws.specs.Turns.{cornered}
use Rattle.laws.proofs.CopyLaws.{written_all}
use Rattle.laws.proofs.CornerLaws.{split_byte, corner_same}
use Rattle.square.proofs.corner.copy_corner.Goals as goal

pub returns : goal.returns
unfolding bytes_of
returns c =
    let a = c.args in
    let w = row_bytes a.k in
    written_all _ (split_byte a.k (cornered a.m a.k (frame_of a.n a.from.now))) (omega arith)
    (λ q h. c.loop-p.invariant q (omega arith) ∙ corner_same a.m a.n a.k a.from.now (q / w) (q % w) (omega arith) (omega arith))
