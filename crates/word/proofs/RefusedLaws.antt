-- No refusal has the number 0, and its number tells which it is.
-- Assumes nothing.
use Rattle.std.specs.Prelude.{◌≡◌, ℕ, ◌≢◌, Result, Ok, Err}
use mathlib.Core.Path.{refl, sym, ap, ◌∙◌}
use native.Mathlib.Omega.{arith}
use lib.Dec.{eqb}
use Rattle.rules.specs.Numbers.{pick}
use Rattle.word.specs.declared.refusal.Refusal.{Refusal}
use Rattle.word.specs.declared.refusal.Refusal.TheVariants.{BadN, BadInputLength, BadOutputLength, BadAllowance, SpareBitSet, NotCodewords, Erased, BadBlockLength, PastFrame}
use Rattle.word.specs.Refused.{number_of}

pub number_some : (e : Refusal) → number_of {A = Unit {0}} (Err e) ≢ 0
number_some BadN z = omega arith
number_some BadInputLength z = omega arith
number_some BadOutputLength z = omega arith
number_some BadAllowance z = omega arith
number_some SpareBitSet z = omega arith
number_some NotCodewords z = omega arith
number_some Erased z = omega arith
number_some BadBlockLength z = omega arith
number_some PastFrame z = omega arith

-- back from a number
unfoldable pub refusal_with : ℕ → Refusal
refusal_with k =
    pick (eqb k 1) BadN
    (pick (eqb k 2) BadInputLength
    (pick (eqb k 3) BadOutputLength
    (pick (eqb k 4) BadAllowance
    (pick (eqb k 5) SpareBitSet
    (pick (eqb k 6) NotCodewords
    (pick (eqb k 10) Erased
    (pick (eqb k 11) BadBlockLength
    PastFrame)))))))

pub again : (e : Refusal) → refusal_with (number_of {A = Unit {0}} (Err e)) ≡ e
unfolding refusal_with
again BadN = refl
again BadInputLength = refl
again BadOutputLength = refl
again BadAllowance = refl
again SpareBitSet = refl
again NotCodewords = refl
again Erased = refl
again BadBlockLength = refl
again PastFrame = refl

-- answers that give C the same number are the same
pub same_answer : (r r' : Result (Unit {0}) Refusal) → number_of r ≡ number_of r' → r ≡ r'
same_answer (Ok t) (Ok t') q = refl
same_answer (Ok t) (Err e) q = absurd (number_some e (sym q))
same_answer (Err e) (Ok t) q = absurd (number_some e q)
same_answer (Err e) (Err e') q = ap Err (sym (again e) ∙ ap refusal_with q ∙ again e')
