-- What is said of a word, from the rules' cases to the code's: the number is the same, and what decoding a word owes.
-- Assumes nothing.
use mathlib.Core.Logic.{◌≢◌}
use mathlib.Core.Path.{◌≡◌, refl, sym, ap, ◌∙◌}
use mathlib.Core.List.{List, [], ◌∷◌}
use mathlib.Core.Option.{Option, some, none}
use Prim.Native.Nat.{ℕ, ◌≤◌}
use native.Mathlib.Omega.{arith}
use lib.ListN.{length}
use Rattle.algebra.specs.Words.{Word}
use Rattle.rules.specs.Codes.{radius, small_code}
use Rattle.rules.specs.Words as rules
use Rattle.rules.specs.Bits.{row_bytes, word_of, word_bytes}
use Rattle.std.specs.Prelude.{Result, Ok, Err}
use Rattle.rules.specs.Numbers.{WordSaid, word_number, word_refused, answered, word_refusal, word_said, word_output}
use Rattle.rules.proofs.Laws.Shape.{word_of-length}
use Rattle.rules.proofs.Laws.SmallCode.{sound_small}
use Rattle.rules.proofs.Laws.NumberLaws.{Sized, word_refused_lem}
use Rattle.rules.proofs.Promises.CountBounds.{mend_flips}
use Rattle.laws.specs.InPlace.{word_at, put}
use Rattle.laws.proofs.WordBytesLaws.{word_says, word_kept, word_handed, word_answer, word_mended}
use Rattle.word.specs.declared.locate.Answer.{Answer}
use Rattle.word.specs.declared.locate.Answer.TheVariants.{Codeword, OnePlace, TwoPlaces, Beyond}
use Rattle.word.specs.declared.refusal.Refusal.{Refusal}
use Rattle.word.specs.Refused.{number_of}
use Rattle.word.specs.Said.{answer_of, places_in, said, changes}
use Rattle.word.proofs.RefusedLaws.{number_some, refusal_with, again}

pub answer_beyond : (a : Option (List ℕ)) → answer_of a ≡ Beyond → a ≡ none
answer_beyond (some []) e = absurd (let z : ◌≡◌ {A = ℕ} 0 1 = cc in omega arith)
answer_beyond (some (p ∷ [])) e = absurd (let z : ◌≡◌ {A = ℕ} 0 1 = cc in omega arith)
answer_beyond (some (p ∷ q ∷ ps)) e = absurd (let z : ◌≡◌ {A = ℕ} 0 1 = cc in omega arith)
answer_beyond none e = refl

-- ---- the places that an answer names

abbrev pub named : Answer → List ℕ
named Codeword = []
named (OnePlace p) = p ∷ []
named (TwoPlaces p q) = p ∷ q ∷ []
named Beyond = []

-- no more than two, so none is left out
pub told_named : (a : Option (List ℕ)) → length (rules.places a) ≤ radius small_code → rules.places a ≡ named (answer_of a)
told_named (some []) h = refl
told_named (some (p ∷ [])) h = refl
told_named (some (p ∷ q ∷ [])) h = refl
told_named (some (p ∷ q ∷ o ∷ ps)) h = absurd (omega arith)
told_named none h = refl

pub places_told : (a : Option (List ℕ)) → length (rules.places a) ≤ radius small_code → places_in (answer_of a) ≡ a
places_told (some []) h = refl
places_told (some (p ∷ [])) h = refl
places_told (some (p ∷ q ∷ [])) h = refl
places_told (some (p ∷ q ∷ o ∷ ps)) h = absurd (omega arith)
places_told none h = refl

named_changes : (r : Answer) → changes r ≡ length (named r)
named_changes Codeword = refl
named_changes (OnePlace p) = refl
named_changes (TwoPlaces p q) = refl
named_changes Beyond = refl

pub changes_answer :
    (n : ℕ) (w : Word) (x : ℕ) (r : Answer) → small_code.shortest ≤ n → length w ≡ n → x ≡ changes r
    → r ≡ answer_of (rules.answer small_code n w) → x ≡ length (rules.places (rules.answer small_code n w))
changes_answer n w x r lo l h e =
    h ∙ named_changes r
    ∙ ap length (ap named e ∙ sym (told_named (rules.answer small_code n w) (mend_flips small_code sound_small n lo w l).1))

-- ---- decoding a word

module _ (n : ℕ) (input output : List ℕ) where
  abbrev Exit : Result Answer Refusal → List ℕ → Type 0
  Exit r out = (said r ≡ word_said small_code n input output) × (out ≡ word_output small_code n input output)

  -- a refusal leaves the output
  pub refused : (e : Refusal) → number_of {A = Unit {0}} (Err e) ≡ word_refusal small_code n input output → Exit (Err e) output
  refused e h =
      let r = word_refused_lem small_code n input output (λ z. number_some e (h ∙ z)) in (ap word_refused h ∙ sym r.0, sym r.1)

  module _ (f : Sized small_code n input (row_bytes n) output (row_bytes n)) (s t : List ℕ) (r : Answer) where
    -- s holds the word alone, t the word mended, and r is the answer
    module _ (copied : s ≡ word_bytes n (word_of n input 0)) (answers : r ≡ answer_of (rules.answer small_code n (word_at n s 0 1))) (mended : t ≡ put n s 0 1 (rules.mend small_code n (word_at n s 0 1))) where
      is_told : r ≡ answer_of (rules.answer small_code n (word_of n input 0))
      is_told = answers ∙ ap answer_of (word_answer small_code n input s copied)

      few : length (rules.places (rules.answer small_code n (word_of n input 0))) ≤ radius small_code
      few = (mend_flips small_code sound_small n f.from (word_of n input 0) (word_of-length n input 0)).1

      is_said : said (Ok r) ≡ word_said small_code n input output
      is_said =
          ap answered (ap places_in is_told ∙ places_told (rules.answer small_code n (word_of n input 0)) few)
          ∙ sym (word_says small_code n input output f)

      holds : t ≡ word_bytes n (rules.mend small_code n (word_of n input 0))
      holds = mended ∙ word_mended small_code n input s copied

      pub accepted : (r ≡ Beyond → ⊥) → Exit (Ok r) t
      accepted k = (is_said, holds ∙ word_handed small_code n input output f (λ e. k (is_told ∙ ap answer_of e)))

      pub kept : r ≡ Beyond → (out : List ℕ) → out ≡ input → Exit (Ok r) out
      kept b out e = (
        is_said,
        e
            ∙ word_kept small_code n input output f (answer_beyond (rules.answer small_code n (word_of n input 0)) (sym is_told ∙ b)),
      )

-- ---- back from what the rules say

abbrev pub back : WordSaid → Result Answer Refusal
back (word_refused k) = Err (refusal_with k)
back (answered a) = Ok (answer_of a)

pub back_again : (r : Result Answer Refusal) → back (said r) ≡ r
back_again (Err e) = ap Err (again e)
back_again (Ok Codeword) = refl
back_again (Ok (OnePlace p)) = refl
back_again (Ok (TwoPlaces p q)) = refl
back_again (Ok Beyond) = refl

-- what is said is a refusal or an answer, and tells which
pub refused_as : (e : Refusal) (k : ℕ) → said (Err e) ≡ word_refused k → number_of {A = Unit {0}} (Err e) ≡ k
refused_as e k h = ap word_number h

is_refused : WordSaid → ℕ
is_refused (word_refused k) = 1
is_refused (answered a) = 0

pub apart : (k : ℕ) (a : Option (List ℕ)) → word_refused k ≢ answered a
unfolding is_refused
apart k a h = let z = ap is_refused h in omega (arith, z)
