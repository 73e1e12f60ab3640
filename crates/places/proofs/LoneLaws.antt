-- One place: its exponent is the logarithm of the power in its mark.
-- Assumes nothing.
use mathlib.Core.Path.{◌≡◌, ap, ◌∙◌}
use Prim.Native.Nat.{ℕ, ◌<◌}
use Rattle.algebra.specs.Marking.{power_part, mark_at, log_at}
use Rattle.algebra.specs.Field256.{small_marking}
use Rattle.algebra.proofs.Field256Laws.{fit256}
use Rattle.algebra.proofs.MarkLaws.{power_at}
use Rattle.algebra.proofs.PairLaws.{log_pow}

pub log_mark : (e : ℕ) → e < 255 → log_at small_marking (power_part small_marking (mark_at small_marking e)) ≡ e
log_mark e h = ap (log_at small_marking) (power_at small_marking fit256 e h) ∙ log_pow small_marking fit256 e h
