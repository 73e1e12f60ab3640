-- `words::encode_words`: the frame with its first k words encoded.
use Rattle.laws.proofs.EncodeLaws.{Encoding}
use Rattle.rules.specs.Codes.{small_code}
use Rattle.frame.proofs.words.encode_words.Given as goal

abbrev pub invariant-loop-k : goal.invariant-loop-k
invariant-loop-k l = Encoding small_code l.n l.initial.s l.columns l.m l.k l.s
