-- The contract of `decode_word`, as one statement about a call: its arguments, what was in the lent output, what is returned, and
-- what is in it then.
use Rattle.std.specs.Prelude.{◌≡◌, List, ℕ, Result}
use Rattle.rules.specs.Codes.{small_code}
use Rattle.rules.specs.Numbers.{word_said, word_output}
use Rattle.word.specs.declared.locate.Answer.{Answer}
use Rattle.word.specs.declared.refusal.Refusal.{Refusal}
use Rattle.word.specs.Said.{said}

abbrev pub DecodesWord : ℕ → List ℕ → List ℕ → Result Answer Refusal → List ℕ → Type 0
DecodesWord n received output r exit = (said r ≡ word_said small_code n received output) × (exit ≡ word_output small_code n received output)
