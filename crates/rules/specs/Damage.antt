-- RULES 13: the damage that demand 3 is about.
use Rattle.std.specs.Prelude.{List, ℕ, suc, leb}
use Rattle.algebra.specs.Tables.{count}
use Rattle.algebra.specs.Words.{differ}
use Rattle.rules.specs.Frames.{Frame, row}
use Rattle.rules.specs.Bits.{frame_of}
use Rattle.rules.specs.Passes.{differences}

-- how many rows have more than t wrong bits; at the radius they are the spoiled rows
unfoldable pub spoilt : ℕ → ℕ → Frame → Frame → ℕ
spoilt t n written received = count n (λ i. leb (suc t) (differ (row written i) (row received i)))

-- how many code bits were received otherwise than they were written
abbrev pub wrong_bits : ℕ → List ℕ → List ℕ → ℕ
wrong_bits n written received = differences n (frame_of n written) (frame_of n received)
