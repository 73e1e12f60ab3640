-- The number of the rules that each refusal has.
use Rattle.std.specs.Prelude.{ℕ, Result, Ok, Err}
use Rattle.word.specs.declared.refusal.Refusal.{Refusal}
use Rattle.word.specs.declared.refusal.Refusal.TheVariants.{BadN, BadInputLength, BadOutputLength, BadAllowance, SpareBitSet, NotCodewords, Erased, BadBlockLength, PastFrame}

-- each by its own name
abbrev pub number : Refusal → ℕ
number BadN = 1
number BadInputLength = 2
number BadOutputLength = 3
number BadAllowance = 4
number SpareBitSet = 5
number NotCodewords = 6
number Erased = 10
number BadBlockLength = 11
number PastFrame = 14

-- 0 where nothing is refused
abbrev pub number_of : {A : Type 0} → Result A Refusal → ℕ
number_of (Ok a) = 0
number_of (Err e) = number e
