-- Demands 1 and 2 of the single word, in the constructors of the code's own answer: whatever `decode_word` returns and leaves in the
-- lent output, by its contract alone.
-- Assumes nothing.
use mathlib.Core.Path.{◌≡◌, refl, sym, ap, subst⁻¹, ◌∙◌}
use mathlib.Core.Logic.{◌≢◌, ◌↔◌}
use mathlib.Core.Bool.{true}
use mathlib.Core.List.{List, [], ◌∷◌}
use mathlib.Core.Option.{Option, some, none}
use Prim.Native.Nat.{ℕ, ◌≤◌, ◌<◌}
use native.Mathlib.Decide.{ℕ_discrete}
use native.Mathlib.Omega.{arith}
use lib.ListN.{length}
use Rattle.algebra.specs.Words.{Word, differ}
use Rattle.rules.specs.Codes.{small_code}
use Rattle.rules.specs.Words.{is_codeword, Codeword, changed, answer, mend}
use Rattle.rules.specs.Bits.{row_bytes, word_of, word_bytes}
use Rattle.rules.specs.Numbers.{word_said}
use Rattle.rules.proofs.Laws.Shape.{word_of-length}
use Rattle.rules.proofs.Laws.NumberLaws.{Sized}
use Rattle.rules.proofs.Promises.Answers.{changed-none, Fits, WordPromise}
use Rattle.rules.proofs.Promises.Refusals.{NumberTable}
use Rattle.rules.proofs.Promises.EntryRules.{Given, word_reasons, WordRule, written_word}
use Rattle.rules.proofs.Promises.Promised.{promised_small}
use Rattle.laws.proofs.WordBytesLaws.{word_says, word_handed}
use Rattle.word.specs.declared.locate.Answer.{Answer}
use Rattle.word.specs.declared.locate.Answer.TheVariants.{Codeword as IsCodeword, OnePlace, TwoPlaces, Beyond}
use Rattle.std.specs.Prelude.{Result, Ok, Err}
use Rattle.word.specs.declared.refusal.Refusal.{Refusal}
use Rattle.word.specs.declared.refusal.Refusal.TheVariants.{BadN, BadInputLength, BadOutputLength, BadAllowance, SpareBitSet, NotCodewords, Erased, BadBlockLength, PastFrame}
use Rattle.word.specs.Refused.{number}
use Rattle.word.specs.Calls.{DecodesWord}
use Rattle.word.specs.Said.{answer_of, said, number_said}
use Rattle.word.proofs.RefusedLaws.{number_some}
use Rattle.word.proofs.SaidLaws.{answer_beyond, back, back_again, refused_as, apart}

-- ---- The statement

-- what each of the four answers says of the word w, and what then stands in the output
abbrev pub AnswerSays : ℕ → Word → List ℕ → Answer → List ℕ → Type 0
AnswerSays n w received IsCodeword exit = (is_codeword small_code n w ≡ true) × (exit ≡ word_bytes n w)
AnswerSays n w received (OnePlace p) exit =
    (p < n) × (is_codeword small_code n (changed (p ∷ []) w) ≡ true) × (exit ≡ word_bytes n (changed (p ∷ []) w))
AnswerSays n w received (TwoPlaces p q) exit =
    (p < q) × (q < n) × (is_codeword small_code n (changed (p ∷ q ∷ []) w) ≡ true) × (exit ≡ word_bytes n (changed (p ∷ q ∷ []) w))
AnswerSays n w received Beyond exit = ((c : Word) → Codeword small_code n c → 2 < differ c w) × (exit ≡ received)

-- a refusal has the number of the first reason that is there, and leaves the output; else it is one of the four
abbrev pub WordSays : ℕ → List ℕ → List ℕ → Result Answer Refusal → List ℕ → Type 0
WordSays n received output (Err e) exit = (number e ≢ 0) × Given (word_reasons small_code n received output) (number e) × (exit ≡ output)
WordSays n received output (Ok a) exit =
    Given (word_reasons small_code n received output) 0 × AnswerSays n (word_of n received 0) received a exit

-- each refusal's number
pub record RefusalNumbers : Type 0 where
  pub n_is : number BadN ≡ 1
  pub input_length_is : number BadInputLength ≡ 2
  pub output_length_is : number BadOutputLength ≡ 3
  pub allowance_is : number BadAllowance ≡ 4
  pub spare_bit_is : number SpareBitSet ≡ 5
  pub not_codewords_is : number NotCodewords ≡ 6
  pub erased_is : number Erased ≡ 10
  pub block_length_is : number BadBlockLength ≡ 11
  pub past_frame_is : number PastFrame ≡ 14

-- n and both lengths are right
abbrev pub GoodSizes : ℕ → List ℕ → List ℕ → Type 0
GoodSizes n received output = (18 ≤ n) × (n ≤ 256) × (length received ≡ row_bytes n) × (length output ≡ row_bytes n)

pub record WordDemands : Type 0 where
  -- demand 1: which numbers can occur, and what stands in the output for each
  pub answers :
      (n : ℕ) (received output : List ℕ) (r : Result Answer Refusal) (exit : List ℕ) → DecodesWord n received output r exit
      → NumberTable (1 ∷ 2 ∷ 3 ∷ []) (9 ∷ []) (number_said r) (word_bytes n (mend small_code n (word_of n received 0))) received output exit
  -- demand 2, case by case
  pub says :
      (n : ℕ) (received output : List ℕ) (r : Result Answer Refusal) (exit : List ℕ) → DecodesWord n received output r exit
      → WordSays n received output r exit
  -- `Beyond` exactly if no codeword lies within two
  pub beyond :
      (n : ℕ) (received output : List ℕ) (r : Result Answer Refusal) (exit : List ℕ) → DecodesWord n received output r exit
      → GoodSizes n received output
      → (r ≡ Ok Beyond) ↔ ((c : Word) → Codeword small_code n c → 2 < differ c (word_of n received 0))
  -- else the output is the codeword within two, of which there is no other
  pub nearest :
      (n : ℕ) (received output : List ℕ) (r : Result Answer Refusal) (exit : List ℕ) → DecodesWord n received output r exit
      → GoodSizes n received output
      → (c : Word) → Codeword small_code n c → differ c (word_of n received 0) ≤ 2 → (number_said r ≡ 0) × (exit ≡ word_bytes n c)
  -- each answer's number
  pub refused_is : (e : Refusal) → number_said (Err e) ≡ number e
  pub refusals_are : RefusalNumbers
  pub codeword_is : number_said (Ok IsCodeword) ≡ 0
  pub one_is : (p : ℕ) → number_said (Ok (OnePlace p)) ≡ 0
  pub two_is : (p q : ℕ) → number_said (Ok (TwoPlaces p q)) ≡ 0
  pub beyond_is : number_said (Ok Beyond) ≡ 9
  -- two calls alike return and leave the same
  pub determined :
      (n : ℕ) (received output : List ℕ) (r r' : Result Answer Refusal) (exit exit' : List ℕ) → DecodesWord n received output r exit
      → DecodesWord n received output r' exit' → (r ≡ r') × (exit ≡ exit')

-- ---- The proof

answer_says :
    (n : ℕ) (received exit : List ℕ) (a : Option (List ℕ)) → Fits small_code n (word_of n received 0) a → exit ≡ written_word n received a
    → AnswerSays n (word_of n received 0) received (answer_of a) exit
answer_says n received exit (some []) f x =
    let same = changed-none (word_of n received 0) in (rw same at f.2, x ∙ ap (word_bytes n) same)
answer_says n received exit (some (p ∷ [])) f x = (f.0.1, f.2, x)
answer_says n received exit (some (p ∷ q ∷ [])) f x = (f.0.2.0, f.0.2.1, f.2, x)
answer_says n received exit (some (p ∷ q ∷ o ∷ ps)) f x = absurd (let few = f.1 in omega arith)
answer_says n received exit none f x = (f, x)

says_here :
    (n : ℕ) (received output : List ℕ) (r : Result Answer Refusal) (exit : List ℕ) → DecodesWord n received output r exit
    → WordSays n received output r exit
says_here n received output r exit e = go r e.0 (ℕ_discrete rule.refusal 0)
  where
    rule : WordRule small_code n received output (word_said small_code n received output) exit
    rule = rw e.1 (promised_small.entries.words n received output)

    go :
        (r : Result Answer Refusal) → said r ≡ word_said small_code n received output → Dec (rule.refusal ≡ 0)
        → WordSays n received output r exit
    go (Err k) q (yes z) = absurd (apart _ _ (q ∙ (rule.answers z).2))
    go (Err k) q (no z) =
        let h = rule.refuses z in
        (number_some k, subst⁻¹ (Given (word_reasons small_code n received output)) (refused_as k _ (q ∙ h.0)) rule.number, h.1)
    go (Ok a) q (yes z) =
        let h = rule.answers z in
        subst⁻¹ (λ x. WordSays n received output x exit) (sym (back_again (Ok a)) ∙ ap back (q ∙ h.2))
        (rw z at rule.number, answer_says n received exit h.0 h.1 h.3)
    go (Ok a) q (no z) = absurd (apart _ _ (sym (rule.refuses z).0 ∙ sym q))

-- a call whose sizes are right
module _
    (n : ℕ) (received output : List ℕ) (r : Result Answer Refusal) (exit : List ℕ) (e : DecodesWord n received output r exit)
    (g : GoodSizes n received output)
  where
    good : Sized small_code n received (row_bytes n) output (row_bytes n)
    good = record { from = g.0; up_to = g.1; taken = g.2; lent = g.3 }

    abbrev w : Word
    w = word_of n received 0

    promise : WordPromise small_code n w
    promise = promised_small.answers n g.0 g.1 w (word_of-length n received 0)

    is_answer : r ≡ Ok (answer_of (answer small_code n w))
    is_answer = sym (back_again r) ∙ ap back (e.0 ∙ word_says small_code n received output good)

    abbrev inside : Result Answer Refusal → Answer
    inside (Err k) = Beyond
    inside (Ok a) = a

    beyond_here : (r ≡ Ok Beyond) ↔ ((c : Word) → Codeword small_code n c → 2 < differ c w)
    beyond_here = (
      λ b. promise.refused.0 (answer_beyond (answer small_code n w) (ap inside (sym is_answer ∙ b))),
      λ far. is_answer ∙ ap (λ a. Ok (answer_of a)) (promise.refused.1 far),
    )

    not_beyond : (c : Word) → Codeword small_code n c → differ c w ≤ 2 → answer small_code n w ≢ none
    not_beyond c k near b = omega (arith, near, promise.refused.0 b c k)

    number-zero : (a : Option (List ℕ)) → a ≢ none → number_said (Ok (answer_of a)) ≡ 0
    number-zero (some []) b = refl
    number-zero (some (p ∷ [])) b = refl
    number-zero (some (p ∷ q ∷ ps)) b = refl
    number-zero none b = absurd (b refl)

    nearest_here : (c : Word) → Codeword small_code n c → differ c w ≤ 2 → (number_said r ≡ 0) × (exit ≡ word_bytes n c)
    nearest_here c k near =
        let b = not_beyond c k near in (
          ap number_said is_answer ∙ number-zero (answer small_code n w) b,
          e.1 ∙ sym (word_handed small_code n received output good b) ∙ ap (word_bytes n) (promise.mended c k near),
        )

pub word_demands : WordDemands
word_demands = record {
  answers = λ n received output r exit e.
      rw (e.0, e.1) (promised_small.refuses.word n received output);
  says = says_here;
  beyond = beyond_here;
  nearest = nearest_here;
  refused_is = λ e. refl;
  refusals_are = record {
    n_is = refl;
    input_length_is = refl;
    output_length_is = refl;
    allowance_is = refl;
    spare_bit_is = refl;
    not_codewords_is = refl;
    erased_is = refl;
    block_length_is = refl;
    past_frame_is = refl;
  };
  codeword_is = refl;
  one_is = λ p. refl;
  two_is = λ p q. refl;
  beyond_is = refl;
  determined = λ n received output r r' exit exit' e e'. (sym (back_again r) ∙ ap back (e.0 ∙ sym e'.0) ∙ back_again r', e.1 ∙ sym e'.1);
}
