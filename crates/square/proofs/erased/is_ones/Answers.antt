-- `erased::is_ones` meets its contract.
use borrow.Author.Tests.{tests}
use Rattle.std.proofs.Common.{◌+◌, rules}
use Rattle.laws.proofs.ErasedLaws.{num-one, num-not_one}
use Rattle.rules.specs.Bits.{bit_at}
use Rattle.laws.specs.InPlace.{ones_at}
use Rattle.laws.proofs.ChainLaws.{below_from_all}
use Rattle.square.proofs.erased.is_ones.Goals as goal

pub returns : goal.returns
unfolding ones_at
returns c =
    let a = c.args in
    below_from_all a.n (λ j. bit_at a.s.now (a.start + j)) _ _ c.all.result c.all.ensures.ran
    (λ x q k. search (rules, tests, num-one)) (λ x q k. search (rules, tests, num-not_one))
