-- `differences::whole_differences`: the bytes' counts are summed.
use mathlib.Core.Path.{◌≡◌, ◌∙◌}
use native.Mathlib.Omega.{arith}
use borrow.Author.Tests.{tests}
use Rattle.std.proofs.Common.{◌*◌, ◌-◌, take, drop, rules}
use Rattle.std.specs.List.{zip}
use Rattle.std.proofs.lemmas.Iterator.{YieldsList-from_slice, YieldsList-from_zip, YieldsList-from_map}
use Rattle.std.proofs.lemmas.Iterator.Consumers.{YieldsList-at, sum_by_from_yields_List, fits_by_from_yields_list}
use Rattle.laws.specs.InPlace.{differ_at}
use Rattle.laws.proofs.CountLaws.{byte_ones, bytes_zipped, differ_most}
use Rattle.square.proofs.differences.whole_differences.Goals as goal

pub sum-requires-clause-fits : goal.sum-requires-clause-fits
sum-requires-clause-fits c =
    let a = c.args in
    let m = a.end - a.at in
    let all = bytes_zipped a.s.now a.t.now (λ p. (c.type_inv.s p).fits) (λ p. (c.type_inv.t p).fits) m a.at (omega arith) (omega arith) in
    fits_by_from_yields_list byte_ones (zip (take m (drop a.at a.s.now)) (take m (drop a.at a.t.now))) c.map.result _
    (YieldsList-from_map _ byte_ones
    (YieldsList-at c.map.ensures.source (YieldsList-from_zip (YieldsList-from_slice (take m (drop a.at a.s.now)) (cc)) (YieldsList-from_slice (take m (drop a.at a.t.now)) (cc)))) c.map.ensures.closure
    (λ x r q k. search (rules, tests)))
    (omega (arith, all, differ_most a.s.now a.t.now a.at (m * 8)))

pub returns : goal.returns
returns c =
    let a = c.args in
    let m = a.end - a.at in
    let whole : c.sum.result ≡ differ_at (m * 8) a.s.now a.t.now a.at =
    sum_by_from_yields_List byte_ones (zip (take m (drop a.at a.s.now)) (take m (drop a.at a.t.now))) c.map.result c.sum.result c.sum.ensures.ran
    (YieldsList-from_map _ byte_ones
    (YieldsList-at c.map.ensures.source (YieldsList-from_zip (YieldsList-from_slice (take m (drop a.at a.s.now)) (cc)) (YieldsList-from_slice (take m (drop a.at a.t.now)) (cc)))) c.map.ensures.closure
    (λ x r q k. search (rules, tests)))
    ∙ bytes_zipped a.s.now a.t.now (λ p. (c.type_inv.s p).fits) (λ p. (c.type_inv.t p).fits) m a.at (omega arith) (omega arith) in
    (whole, omega (arith, whole, differ_most a.s.now a.t.now a.at (m * 8)))
