-- `differences::differences`: the rows' counts are summed.
use mathlib.Core.Path.{refl, ◌∙◌}
use native.Mathlib.Omega.{arith}
use borrow.Author.Tests.{tests}
use Rattle.std.proofs.Common.{ℕ, ◌*◌, rules}
use Rattle.std.proofs.lemmas.Iterator.{serves_from_Range, YieldsList-from_range, YieldsList-from_map}
use Rattle.std.proofs.lemmas.Iterator.Consumers.{YieldsList-at}
use Rattle.laws.specs.InPlace.{differ_at}
use Rattle.laws.proofs.ChainLaws.{total_from_sum, fits_from_total}
use Rattle.laws.proofs.CornerLaws.{row_fits}
use Rattle.laws.proofs.CountLaws.{rows_all, rows_most}
use Rattle.square.proofs.differences.differences.Goals as goal

pub sum-requires-clause-can : goal.sum-requires-clause-can
sum-requires-clause-can c =
    let w = c.row_bytes-wide.result in (
      tt,
      serves_from_Range (λ x q k. search rules)
          (λ i lo hi.
          let inside = row_fits c.args.n w i c.row_bytes-wide.ensures (omega arith) (rw c.map.ensures.source at hi) in search rules),
    )

pub sum-requires-clause-fits : goal.sum-requires-clause-fits
sum-requires-clause-fits c =
    let a = c.args in
    let w = c.row_bytes-wide.result in
    let f = λ (i : ℕ). differ_at a.n a.s.now a.t.now (i * w) in
    fits_from_total a.n f c.map.result _
    (YieldsList-from_map _ f (YieldsList-at c.map.ensures.source (YieldsList-from_range 0 a.n a.n refl (omega arith))) c.map.ensures.closure
    (λ x r q k. search (rules, tests)))
    (omega (arith, rows_most a.n w a.s.now a.t.now (omega arith)))

pub returns : goal.returns
returns c =
    let a = c.args in
    let w = c.row_bytes-wide.result in
    let f = λ (i : ℕ). differ_at a.n a.s.now a.t.now (i * w) in
    total_from_sum a.n f c.map.result c.sum.result c.sum.ensures.ran
    (YieldsList-from_map _ f (YieldsList-at c.map.ensures.source (YieldsList-from_range 0 a.n a.n refl (omega arith))) c.map.ensures.closure
    (λ x r q k. search (rules, tests)))
    ∙ rows_all a.n w a.s.now a.t.now c.row_bytes-wide.ensures
