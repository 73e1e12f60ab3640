-- `sizes::square_bytes` meets its contract: the product is that of the longest frame at most.
use mathlib.Core.Path.{ap}
use Prim.Native.Nat.{ℕ, ◌*◌}
use native.Mathlib.Omega.{arith}
use Rattle.laws.proofs.CornerLaws.{square_small}
use Rattle.square.proofs.sizes.square_bytes.Goals as goal

pub overflow_mul-result : goal.overflow_mul-result
overflow_mul-result c = omega (arith, square_small c.args.n c.row_bytes.result c.row_bytes.ensures c.requires)

pub returns : goal.returns
returns c = ap (λ (w : ℕ). c.args.n * w) c.row_bytes.ensures
