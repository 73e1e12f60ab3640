-- `decode::copy_word`: each byte is written.
use native.Mathlib.Omega.{arith}
use Rattle.rules.specs.Bits.{word_of, byte_of, word_bytes}
use Rattle.laws.proofs.CopyLaws.{written_all}
use Rattle.word.proofs.decode.copy_word.Goals as goal

pub returns : goal.returns
unfolding word_bytes
returns c =
    let w = word_of c.args.n c.args.from.now 0 in
    written_all _ (λ b. byte_of w b) (omega arith) (λ k h. c.loop-b.invariant k (omega arith))
