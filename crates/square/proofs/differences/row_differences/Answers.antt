-- `differences::row_differences`: the whole bytes, and the last byte but for its spare bits.
use mathlib.Core.Path.{◌≡◌, ap, ◌∙◌}
use Prim.Native.Nat.{◌+◌, ◌*◌, ◌-◌}
use native.Mathlib.Omega.{arith}
use Rattle.laws.specs.InPlace.{differ_at}
use Rattle.laws.proofs.CountLaws.{bytes_more, differ_most}
use Rattle.square.proofs.differences.row_differences.Goals as goal

pub returns : goal.returns
returns c =
    let a = c.args in
    let whole = c.row_bytes-wide.result - 1 in
    let end : a.at + whole - a.at ≡ whole = omega arith in
    let last : a.at + c.row_bytes-wide.result - 1 ≡ a.at + whole = omega arith in
    let kept = 8 - (c.row_bytes-wide.result * 8 - a.n) in
    let all =
    bytes_more a.s.now a.t.now a.at whole kept a.n c.whole_differences.result c.byte_differences.result
    (c.whole_differences.ensures.0 ∙ ap (λ k. differ_at ((k - a.at) * 8) a.s.now a.t.now a.at) last ∙ ap (λ k. differ_at (k * 8) a.s.now a.t.now a.at) end)
    (c.byte_differences.ensures.0 ∙ ap (differ_at kept a.s.now a.t.now) last) (omega arith) in
    (all, omega (arith, all, differ_most a.s.now a.t.now a.at a.n))
