-- Between what the rules say of a word and the code's answers.
use Rattle.std.specs.Prelude.{List, [], ◌∷◌, ℕ, Result, Ok, Err}
use Rattle.std.proofs.Math.Option.{Option, some, none}
use Rattle.rules.specs.Numbers.{WordSaid, word_refused, answered, word_number}
use Rattle.word.specs.declared.locate.Answer.{Answer}
use Rattle.word.specs.declared.locate.Answer.TheVariants.{Codeword, OnePlace, TwoPlaces, Beyond}
use Rattle.word.specs.declared.refusal.Refusal.{Refusal}
use Rattle.word.specs.Refused.{number}

-- no place, one or two, the lower first, or none that would do. The small code's answers name no more than two
abbrev pub answer_of : Option (List ℕ) → Answer
answer_of (some []) = Codeword
answer_of (some (p ∷ [])) = OnePlace p
answer_of (some (p ∷ q ∷ ps)) = TwoPlaces p q
answer_of none = Beyond

-- the places that an answer names
abbrev pub places_in : Answer → Option (List ℕ)
places_in Codeword = some []
places_in (OnePlace p) = some (p ∷ [])
places_in (TwoPlaces p q) = some (p ∷ q ∷ [])
places_in Beyond = none

-- a refusal with its number, or the answer
abbrev pub said : Result Answer Refusal → WordSaid
said (Err e) = word_refused (number e)
said (Ok a) = answered (places_in a)

-- how many places an answer names
abbrev pub changes : Answer → ℕ
changes Codeword = 0
changes (OnePlace p) = 1
changes (TwoPlaces p q) = 2
changes Beyond = 0

-- the number of the rules
abbrev pub number_said : Result Answer Refusal → ℕ
number_said r = word_number (said r)
