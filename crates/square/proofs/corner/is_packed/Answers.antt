-- `corner::is_packed`: some byte is not what its row's own bits make it, or none.
use native.Mathlib.Omega.{arith}
use borrow.Author.Tests.{tests}
use Rattle.std.proofs.Common.{rules}
use Rattle.rules.specs.Bits.{frame_of}
use Rattle.laws.specs.Turns.{cornered}
use Rattle.laws.proofs.ChainLaws.{entries_from_all}
use Rattle.laws.proofs.CornerLaws.{split_byte, packed_tells}
use Rattle.square.proofs.corner.is_packed.Goals as goal

pub returns : goal.returns
returns c =
    let a = c.args in
    packed_tells a.n a.s.now c.all.result (omega arith) (λ p. (c.type_inv.s p).fits)
    (entries_from_all a.s.now (split_byte a.n (cornered a.n a.n (frame_of a.n a.s.now))) c.all.result (cc) (cc) c.all.ensures.ran
    (λ x q k. search (rules, tests)) (λ x q k. search (rules, tests)))
