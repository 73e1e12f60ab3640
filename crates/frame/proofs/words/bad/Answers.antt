-- `words::bad`: the words that are not codewords are counted.
use mathlib.Core.Path.{◌≡◌, refl, ◌∙◌}
use mathlib.Core.Bool.{not}
use native.Mathlib.Omega.{arith}
use borrow.Author.Tests.{tests}
use Rattle.std.proofs.Common.{ℕ, rules}
use Rattle.std.proofs.lemmas.Iterator.{serves_from_Range, YieldsList-from_range}
use Rattle.std.proofs.lemmas.Iterator.Consumers.{YieldsList-at, YieldsList-from_filter}
use Rattle.rules.specs.Codes.{small_code}
use Rattle.rules.specs.Words.{is_codeword}
use Rattle.rules.specs.Frames.{bad_rows}
use Rattle.rules.specs.Bits.{frame_of}
use Rattle.laws.specs.Turns.{turned, word_in}
use Rattle.laws.proofs.ChainLaws.{count_from_filter}
use Rattle.laws.proofs.PassStepLaws.{bad_counted, bad_most}
use Rattle.frame.proofs.words.bad.Goals as goal

pub count-requires-clause-can : goal.count-requires-clause-can
count-requires-clause-can c = (tt, tt, serves_from_Range (λ x q k. search rules) (λ i lo hi. search rules))

pub returns : goal.returns
returns c =
    let a = c.args in
    let p = λ (k : ℕ). not (is_codeword small_code a.n (word_in a.n a.columns a.s.now k)) in
    let f = turned a.n a.columns (frame_of a.n a.s.now) in
    let found : c.count.result ≡ bad_rows small_code a.n f =
    count_from_filter a.n p c.filter.result c.count.result c.count.ensures.ran
    (YieldsList-from_filter _ p (YieldsList-at c.filter.ensures.source (YieldsList-from_range 0 a.n a.n refl (omega arith))) c.filter.ensures.closure
    (λ x b q k. search (rules, tests)))
    ∙ bad_counted small_code a.n f in
    (found, omega (arith, found, bad_most small_code a.n f))
