-- `differences::byte_differences`: what is left of the two bytes' exclusive or has a one for each bit that differs.
use native.Mathlib.Omega.{arith}
use Rattle.laws.proofs.CountLaws.{differ_shifted}
use Rattle.square.proofs.differences.byte_differences.Goals as goal

pub overflow_cast-result-2 : goal.overflow_cast-result-2
overflow_cast-result-2 c =
    let a = c.args in
    omega (arith, differ_shifted a.s.now a.t.now a.p a.spare c.requires.2 (c.type_inv.s a.p).fits (c.type_inv.t a.p).fits)

pub returns : goal.returns
returns c =
    let a = c.args in
    differ_shifted a.s.now a.t.now a.p a.spare c.requires.2 (c.type_inv.s a.p).fits (c.type_inv.t a.p).fits
