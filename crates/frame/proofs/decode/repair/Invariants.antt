-- `decode::repair` meets its contract. The outer loop: the passes left to make give the whole outcome. The inner loop: the first `k`
-- words of this pass are mended.
use Prim.Native.Nat.{◌-◌}
use Rattle.rules.specs.Codes.{small_code}
use Rattle.rules.specs.Bits.{frame_of}
use Rattle.laws.proofs.PassStepLaws.{Passing, Repairing}
use Rattle.frame.proofs.decode.repair.Given as goal

abbrev pub invariant-loop-k : goal.invariant-loop-k
invariant-loop-k l =
    Passing small_code l.n (frame_of l.n l.initial.s) l.by_columns l.s l.changes l.k

abbrev pub decreases-loop-k : goal.decreases-loop-k
decreases-loop-k l = l.n - l.k

abbrev pub invariant-loop-rows : goal.invariant-loop-rows
invariant-loop-rows l =
    Repairing small_code l.n l.allowance (frame_of l.n l.received) l.s l.passes

abbrev pub decreases-loop-rows : goal.decreases-loop-rows
decreases-loop-rows l = l.allowance - l.passes
