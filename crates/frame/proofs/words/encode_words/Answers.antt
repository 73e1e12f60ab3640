-- `words::encode_words`: the frame with its first k words encoded.
use Rattle.laws.proofs.EncodeLaws.{encoding_start, encoding_inside, encoding_next, encoding_end}
use Rattle.rules.specs.Codes.{small_code}
use Rattle.rules.proofs.Laws.SmallCode.{sound_small}
use Rattle.frame.proofs.words.encode_words.Goals as goal

pub loop-k-init : goal.loop-k-init
loop-k-init c = encoding_start small_code _ _ _ _ c.requires.0 c.requires.1

pub encode-requires : goal.encode-requires
encode-requires c = rw c.word.ensures (encoding_inside small_code sound_small c.loop-k.invariant c.loop-k-test.true)

pub loop-k-preserved : goal.loop-k-preserved
loop-k-preserved c =
    encoding_next small_code sound_small c.loop-k.invariant c.loop-k-test.true (rw c.word.ensures at c.encode.ensures)

pub returns : goal.returns
returns c = encoding_end small_code sound_small c.loop-k.invariant c.loop-k-test.false
