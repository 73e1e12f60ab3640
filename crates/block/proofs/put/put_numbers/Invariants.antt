-- `put::put_numbers`: the first i numbers are put.
use Rattle.std.proofs.Common.{◌≡◌, ◌*◌, take}
use Rattle.rules.specs.Block.{in_bytes}
use Rattle.block.proofs.put.put_numbers.Given as goal

abbrev pub invariant-loop-i : goal.invariant-loop-i
invariant-loop-i l = take (l.i * 4) l.block ≡ in_bytes (take l.i l.numbers)
