-- `corner::corner_byte`: row i lies inside the square, or past the corner.
use mathlib.Core.Path.{sym, ◌∙◌}
use native.Mathlib.Omega.{arith}
use Rattle.laws.proofs.CornerLaws.{row_fits, row_inside, row_outside}
use Rattle.square.proofs.corner.corner_byte.Goals as goal

pub returns-then-m-i : goal.returns-then-m-i
returns-then-m-i c = let a = c.args in sym (row_outside a.m a.n a.m a.s.now a.i c.if-m-i.true a.b)

pub overflow_mul-i : goal.overflow_mul-i
overflow_mul-i c =
    let a = c.args in
    omega (arith, row_fits a.n c.row_bytes.result a.i c.row_bytes.ensures (omega arith) (omega arith))

pub word_byte-requires : goal.word_byte-requires
word_byte-requires c =
    let a = c.args in
    let f = row_fits a.n c.row_bytes.result a.i c.row_bytes.ensures (omega arith) (omega arith) in
    (omega arith, omega arith, omega arith, λ h. omega arith)

pub returns : goal.returns
returns c =
    let a = c.args in
    rw c.row_bytes.ensures at c.word_byte.ensures ∙ sym (row_inside a.m a.n a.m a.s.now a.i (omega arith) (omega arith) (omega arith) a.b)
