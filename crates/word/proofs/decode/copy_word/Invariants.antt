-- `decode::copy_word`: the first b bytes are those wanted.
use Rattle.std.proofs.Common.{◌≡◌, ℕ, ◌<◌, get_or}
use Rattle.rules.specs.Bits.{word_of, byte_of}
use Rattle.word.proofs.decode.copy_word.Given as goal

abbrev pub invariant-loop-b : goal.invariant-loop-b
invariant-loop-b l = (k : ℕ) → k < l.b → get_or l.to k 0 ≡ byte_of (word_of l.n l.from 0) k
