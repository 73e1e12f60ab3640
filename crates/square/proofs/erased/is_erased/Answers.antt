-- `erased::is_erased` meets its contract.
use mathlib.Core.Path.{ap, ◌∙◌}
use native.Mathlib.Omega.{arith}
use native.Mathlib.Nat.{mul_assoc}
use borrow.Author.Tests.{tests}
use Rattle.std.proofs.Common.{◌+◌, ◌*◌, ◌≤◌, length, rules}
use Rattle.std.proofs.lemmas.Iterator.{serves_from_Range}
use Rattle.laws.specs.InPlace.{ones_at}
use Rattle.laws.proofs.ChainLaws.{below_from_all}
use Rattle.laws.proofs.CornerLaws.{row_fits}
use Rattle.laws.proofs.ErasedLaws.{rows_all}
use Rattle.square.proofs.erased.is_erased.Goals as goal

pub all-requires-clause-callable : goal.all-requires-clause-callable
all-requires-clause-callable c =
    let w = c.row_bytes.result in
    serves_from_Range (λ x q k. search rules)
    (λ i lo hi.
    let inside = row_fits c.args.n w i c.row_bytes.ensures (omega arith) hi in
    let bits : i * (w * 8) + w * 8 ≤ length c.args.s.now * 8 = omega (arith, mul_assoc i w 8) in
    search rules)

pub returns : goal.returns
returns c =
    let a = c.args in
    let w = c.row_bytes.result * 8 in
    below_from_all a.n (λ i. ones_at a.n a.s.now (i * w)) _ _ c.all.result c.all.ensures.ran
    (λ x q k. search (rules, tests)) (λ x q k. search (rules, tests)) ∙ rows_all a.n w a.s.now (ap (λ r. r * 8) c.row_bytes.ensures)
