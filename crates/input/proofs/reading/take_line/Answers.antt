-- `input::reading::take_line` meets its contract.
use native.Mathlib.Omega.{arith}
use Prim.Native.Nat.{ℕ}
use lib.ListN.{length-take}
use Rattle.lines.proofs.HandedLaws.{piece_within}
use Rattle.input.proofs.reading.take_line.Goals as goal

pub overflow_add-next : goal.overflow_add-next
overflow_add-next c = record { fits = omega (arith, piece_within _ _ _ _ _ _ c.take-taken.ensures, length-take {A = ℕ}, c.requires.0, c.requires.1) }
