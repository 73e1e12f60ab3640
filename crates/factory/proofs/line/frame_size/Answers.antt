-- `factory::line::frame_size` meets its contract.
use native.Mathlib.Omega.{arith}
use Rattle.factory.proofs.LineLaws.{n_most, size_outside, size_inside}
use Rattle.factory.proofs.line.frame_size.Goals as goal

pub returns-then-outside : goal.returns-then-outside
returns-then-outside c = size_outside c.args.n c.outside.result c.outside.ensures c.if-outside.true

pub square_bytes-requires : goal.square_bytes-requires
square_bytes-requires c = omega (arith, n_most c.args.n c.outside.result c.outside.ensures c.if-outside.false)

pub returns : goal.returns
returns c = size_inside c.args.n c.outside.result c.outside.ensures c.if-outside.false c.square_bytes.result c.square_bytes.ensures
