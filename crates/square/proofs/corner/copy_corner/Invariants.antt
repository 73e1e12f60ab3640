-- `corner::copy_corner`: the first p bytes are those wanted.
use Rattle.std.proofs.Common.{◌≡◌, ℕ, ◌<◌, get_or}
use Rattle.rules.specs.Bits.{frame_of}
use Rattle.laws.specs.Turns.{cornered}
use Rattle.laws.proofs.CornerLaws.{split_byte}
use Rattle.square.proofs.corner.copy_corner.Given as goal

abbrev pub invariant-loop-p : goal.invariant-loop-p
invariant-loop-p l = (q : ℕ) → q < l.p → get_or l.to q 0 ≡ split_byte l.k (cornered l.m l.m (frame_of l.n l.from)) q
