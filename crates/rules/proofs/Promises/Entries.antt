-- RULES 6: each definition keeps its rule, and nothing else does; and the number of each answer.
-- Assumes nothing.
use mathlib.Core.Path.{◌≡◌, refl, sym, ap, ◌∙◌}
use mathlib.Core.Logic.Iff
use mathlib.Core.Logic.{◌≢◌, ◌↔◌, inl, inr}
use mathlib.Core.Bool.{Bool, true, false, not, true≢false}
use mathlib.Core.List.{List, [], ◌∷◌}
use mathlib.Core.Option.{Option, some, none}
use Prim.Native.Nat.{ℕ, ◌≤◌}
use lib.Dec.{eqb}
use lib.ListN.{length}
use native.Mathlib.Omega.{arith}
use borrow.Author.Tests.{eqb-true, eqb-false, eq-eqb, ne_eqb, not-true, not-false}
use Rattle.algebra.specs.Words.{Word}
use Rattle.rules.specs.Codes.{Code, data_bits}
use Rattle.rules.specs.Words.{answer, places, is_in, changed, mend}
use Rattle.rules.specs.Frames.{Frame, is_frame, is_erased}
use Rattle.rules.specs.Bits.{row_bytes, word_of, frame_of, word_bytes, bytes_of, spare_ones}
use Rattle.rules.specs.Passes.{Ending, clean, repaired, stuck, spent, Outcome, decoded}
use Rattle.rules.specs.Numbers.{pick, outside, most_allowed, not_allowed, not_long, frame_bytes, data_bytes, RefusalList, first, size_refusals, frame_for, encode_number, encode_output, read_number, read_output, refused, erased, undecoded, ended, told, handed_out, decode_refusal, decode_said, decode_output, figures_of, figures_with, word_refused, answered, word_refusal, word_said, word_number, word_output, row_part, Exit, encode, read, decode, decode_word}
use Rattle.rules.proofs.Laws.CodeLaws.{Sound, Mends}
use Rattle.rules.proofs.Laws.Shape.{frame_of-square, word_of-length}
use Rattle.rules.proofs.Laws.ErasedLaws.{AllOnes, erased_ones, not_ones}
use Rattle.rules.proofs.Laws.PackLaws.{spare_zero, spare_some}
use Rattle.rules.proofs.Laws.NumberLaws.{range_test, equal_test, true_test, decode_accepts, word_accepts, at_zero, encode_refused, read_refused, decode_refused, word_refused_lem}
use Rattle.rules.proofs.Promises.Answers.{answer-fits}
use Rattle.rules.proofs.Promises.Encoding.{encoding}
use Rattle.rules.proofs.Promises.RoundTrip.{accepted, is_written}
use Rattle.rules.proofs.Promises.Refusals.{refuses}
use Rattle.rules.proofs.Promises.Passes.{passes_promise}
use Rattle.rules.proofs.Promises.EntryRules.{Reasons, Given, sizes, SpareSet, AllCodewords, FrameOfData, encode_reasons, EncodeRule, read_reasons, ReadRule, decode_reasons, written, DecodeRule, word_reasons, written_word, WordRule, RowRule}
use Rattle.rules.proofs.Promises.Determined.{frame_all, data_frame_unique, determined}

-- the number and the values, case by case
pub record NumbersPromise : Type 0 where
  pub refused_is : (r : ℕ) → figures_of (refused r) ≡ figures_with r 0 0 0 0
  pub erased_is : figures_of erased ≡ figures_with 10 0 0 0 0
  pub clean_is : (p b r c : ℕ) → figures_of (ended clean p b r c) ≡ figures_with 0 p b 0 0
  pub repaired_is : (p b r c : ℕ) → figures_of (ended repaired p b r c) ≡ figures_with 0 p b 0 0
  pub stuck_is : (p b r c : ℕ) → figures_of (ended stuck p b r c) ≡ figures_with 7 p b r c
  pub spent_is : (p b r c : ℕ) → figures_of (ended spent p b r c) ≡ figures_with 8 p b r c
  pub word_refused_is : (r : ℕ) → word_number (word_refused r) ≡ r
  -- some places, or none at all, make a codeword
  pub answered_is : (ps : List ℕ) → word_number (answered (some ps)) ≡ 0
  -- no codeword is near enough
  pub beyond_is : word_number (answered none) ≡ 9

-- what is said and the output at exit keep the rule
abbrev pub Obeys : {A : Type 0} → (A → List ℕ → Type 0) → Exit A → Type 0
Obeys Rule e = Rule e.said e.output

-- whatever keeps the rule is that
abbrev pub Only : {A : Type 0} → (A → List ℕ → Type 0) → Exit A → Type 0
Only {A} Rule e = (said : A) (exit : List ℕ) → Rule said exit → (said ≡ e.said) × (exit ≡ e.output)

pub record Entries (code : Code) : Type 0 where
  pub encodes : (n : ℕ) (input output : List ℕ) → Obeys (EncodeRule code n input output) (encode code n input output)
  pub encodes_only : (n : ℕ) (input output : List ℕ) → Only (EncodeRule code n input output) (encode code n input output)
  pub reads : (n : ℕ) (input output : List ℕ) → Obeys (ReadRule code n input output) (read code n input output)
  pub reads_only : (n : ℕ) (input output : List ℕ) → Only (ReadRule code n input output) (read code n input output)
  pub decodes : (n allowance : ℕ) (input output : List ℕ) → Obeys (DecodeRule code n allowance input output) (decode code n allowance input output)
  pub decodes_only : (n allowance : ℕ) (input output : List ℕ) → Only (DecodeRule code n allowance input output) (decode code n allowance input output)
  pub words : (n : ℕ) (input output : List ℕ) → Obeys (WordRule code n input output) (decode_word code n input output)
  pub words_only : (n : ℕ) (input output : List ℕ) → Only (WordRule code n input output) (decode_word code n input output)
  pub rows : (n : ℕ) (input : List ℕ) (i : ℕ) → RowRule code n input i (row_part code n input i)
  pub rows_only : (n : ℕ) (input : List ℕ) (i : ℕ) (r : List ℕ) → RowRule code n input i r → r ≡ row_part code n input i
  pub numbers : NumbersPromise

-- ---- The number

-- a check in front: it applies exactly where the reason is there
given_first :
    (b : Bool) (x y : ℕ) (X : Type 0) (later : Reasons) → (b ≡ true → X) → (b ≡ false → ¬ X) → (b ≡ false → Given later y)
    → Given ((X, x) ∷ later) (pick b x y)
given_first true x y X later h k g = inl (h refl, refl)
given_first false x y X later h k g = inr (k refl, g refl)

-- the reason is that something is not so; what is looked for later may count on it
given_not :
    (b : Bool) (x y : ℕ) (X : Type 0) (later : Reasons) → (b ≡ false) ↔ X → (X → Given later y) → Given ((¬ X, x) ∷ later) (pick b x y)
given_not b x y X later t g =
    given_first b x y (¬ X) later (λ e p. true≢false (sym e ∙ t.1 p)) (λ e q. q (t.0 e)) (λ e. g (t.0 e))

-- the reason is that a square is all ones
given_ones :
    (n : ℕ) (f : Frame) (x y : ℕ) (later : Reasons) → Given later y → Given ((AllOnes n f, x) ∷ later) (pick (is_erased n f) x y)
given_ones n f x y later g =
    given_first (is_erased n f) x y (AllOnes n f) later (erased_ones n f).0 (not_ones n f) (λ e. g)

sizes_given :
    (code : Code) (n : ℕ) (input : List ℕ) (takes : ℕ) (output : List ℕ) (gives : ℕ) (checks : RefusalList) (later : Reasons)
    → (code.shortest ≤ n → Given later (first checks))
    → Given (sizes code n input takes output gives later) (first (size_refusals code n input takes output gives checks))
sizes_given code n input takes output gives checks later g =
    let rest : Reasons = (length output ≢ gives, 3) ∷ later in
    given_not (outside code n) 1 (pick (not_long input takes) 2 (pick (not_long output gives) 3 (first checks))) ((code.shortest ≤ n) × (n ≤ code.longest))
    ((length input ≢ takes, 2) ∷ rest) (range_test code.shortest code.longest n)
    (λ b.
    given_not (not_long input takes) 2 (pick (not_long output gives) 3 (first checks)) (length input ≡ takes) rest (equal_test (length input) takes)
    (λ i. given_not (not_long output gives) 3 (first checks) (length output ≡ gives) later (equal_test (length output) gives) (λ o. g b.0)))

-- encoding gives the data's frame
data_frame : (code : Code) (ok : Sound code) (n : ℕ) (input : List ℕ) → code.shortest ≤ n → FrameOfData code n input (frame_for code n input)
data_frame code ok n input le =
    let e = encoding code ok n (frame_of (data_bits code n) input) le (frame_of-square (data_bits code n) input) in
    (e.square, (frame_all code n (frame_for code n input) e.square).0 e.frame, e.holds)

encode_given :
    (code : Code) (ok : Sound code) (n : ℕ) (input output : List ℕ) → Given (encode_reasons code n input output) (encode_number code n input output)
unfolding encode_number
encode_given code ok n input output =
    let k : ℕ = data_bits code n in
    let c : Bool = eqb (spare_ones k input) 0 in
    let f : Frame = frame_for code n input in
    let E : Type 0 = (h : Frame) × FrameOfData code n input h × AllOnes n h in
    sizes_given code n input (data_bytes code n) output (frame_bytes n) ((not c, 5) ∷ (is_erased n f, 10) ∷ []) ((SpareSet k input, 5) ∷ (E, 10) ∷ [])
    (λ le.
    given_first (not c) 5 (pick (is_erased n f) 10 0) (SpareSet k input) ((E, 10) ∷ [])
    (λ e. spare_some k input (eqb-false (spare_ones k input) 0 (not-true c e)))
    (λ e t.
    true≢false
    (sym t.5
    ∙ spare_zero k input (eqb-true (spare_ones k input) 0 (not-false c e)) t.0 t.1 t.2 t.3 t.4))
    (λ e.
    given_first (is_erased n f) 10 0 E []
    (λ q. (f, data_frame code ok n input le, (erased_ones n f).0 q))
    (λ q t. not_ones n f q (rw (data_frame_unique code ok n input f t.0 le (data_frame code ok n input le) t.1) t.2))
    (λ q. refl)))

read_given : (code : Code) (n : ℕ) (input output : List ℕ) → Given (read_reasons code n input output) (read_number code n input output)
unfolding read_number
read_given code n input output =
    let f : Frame = frame_of n input in
    let X : Type 0 = AllCodewords code n f in
    sizes_given code n input (frame_bytes n) output (data_bytes code n) ((is_erased n f, 10) ∷ (not (is_frame code n f), 6) ∷ [])
    ((AllOnes n f, 10) ∷ (¬ X, 6) ∷ [])
    (λ le.
    given_ones n f 10 (pick (not (is_frame code n f)) 6 0) ((¬ X, 6) ∷ [])
    (given_not (not (is_frame code n f)) 6 0 X [] (Iff.trans (true_test (is_frame code n f)) (frame_all code n f (frame_of-square n input))) (λ a. refl)))

decode_given :
    (code : Code) (n allowance : ℕ) (input output : List ℕ) → Given (decode_reasons code n allowance input output) (decode_refusal code n allowance input output)
unfolding decode_refusal
decode_given code n allowance input output =
    let f : Frame = frame_of n input in
    let X : Type 0 = (1 ≤ allowance) × (allowance ≤ most_allowed) in
    sizes_given code n input (frame_bytes n) output (frame_bytes n) ((not_allowed allowance, 4) ∷ (is_erased n f, 10) ∷ [])
    ((¬ X, 4) ∷ (AllOnes n f, 10) ∷ [])
    (λ le.
    given_not (not_allowed allowance) 4 (pick (is_erased n f) 10 0) X ((AllOnes n f, 10) ∷ []) (range_test 1 most_allowed allowance)
    (λ a. given_ones n f 10 0 [] refl))

word_given : (code : Code) (n : ℕ) (input output : List ℕ) → Given (word_reasons code n input output) (word_refusal code n input output)
unfolding word_refusal
word_given code n input output = sizes_given code n input (row_bytes n) output (row_bytes n) [] [] (λ le. refl)

-- ---- Encoding and reading

encodes_here : (code : Code) (ok : Sound code) (n : ℕ) (input output : List ℕ) → EncodeRule code n input output (encode_number code n input output) (encode_output code n input output)
encodes_here code ok n input output = record {
  number = encode_given code ok n input output;
  untouched = encode_refused code n input output;
  done = λ z.
      (frame_for code n input, data_frame code ok n input (accepted code ok n input output z).0.from, is_written code ok n input output z);
}

reads_here : (code : Code) (ok : Sound code) (n : ℕ) (input output : List ℕ) → ReadRule code n input output (read_number code n input output) (read_output code n input output)
reads_here code ok n input output = record {
  number = read_given code n input output;
  untouched = read_refused code n input output;
  done = ((refuses code ok).read n input output).done;
}

-- ---- Decoding

handed_is : (n : ℕ) (input : List ℕ) (o : Outcome) → handed_out n input o ≡ written n input o.ending o.last
handed_is n input o = go o.ending
  where
    go :
        (e : Ending)
        → elim e as (λ x. List ℕ) [ clean ↦ bytes_of n o.last | repaired ↦ bytes_of n o.last | stuck ↦ input | spent ↦ input ]
        ≡ written n input e o.last
    go clean = refl
    go repaired = refl
    go stuck = refl
    go spent = refl

decodes_here :
    (code : Code) (n allowance : ℕ) (input output : List ℕ)
    → DecodeRule code n allowance input output (decode_said code n allowance input output) (decode_output code n allowance input output)
unfolding decode_said decode_output
decodes_here code n allowance input output =
    let r : ℕ = decode_refusal code n allowance input output in
    let o : Outcome = decoded code n allowance (frame_of n input) in
    record {
      refusal = r;
      number = decode_given code n allowance input output;
      refuses = λ z t. (decode_refused code n allowance input output z).0 ∙ ap (λ b. pick b erased (refused r)) (ne_eqb r 10 t);
      erases = λ t. (decode_refused code n allowance input output (λ z. omega arith)).0 ∙ ap (λ b. pick b erased (refused r)) (eq-eqb r 10 t);
      untouched = λ z. (decode_refused code n allowance input output z).1;
      ends = λ z. (
        o,
        (passes_promise code).holds n allowance (frame_of n input) ((decode_accepts code n allowance input output).0 z).1.0,
        at_zero r (told o) (undecoded r) z,
        at_zero r (handed_out n input o) output z ∙ handed_is n input o,
      );
    }

-- ---- A single word

module _ (code : Code) (ok : Sound code) (n : ℕ) (input output : List ℕ) where
  word_said_lem : word_refusal code n input output ≡ 0 → word_said code n input output ≡ answered (answer code n (word_of n input 0))
  unfolding word_said
  word_said_lem z = at_zero (word_refusal code n input output) (answered (answer code n (word_of n input 0))) (word_refused (word_refusal code n input output)) z

  word_number_lem :
      word_refusal code n input output ≡ 0 → (a : Option (List ℕ)) → answer code n (word_of n input 0) ≡ a
      → word_number (word_said code n input output) ≡ word_number (answered a)
  word_number_lem z a q = ap word_number (word_said_lem z ∙ ap answered q)

  word_written :
      word_refusal code n input output ≡ 0 → (a : Option (List ℕ)) → answer code n (word_of n input 0) ≡ a → word_output code n input output ≡ written_word n input a
  unfolding is_in mend
  word_written z (some ps) q =
      ((refuses code ok).word n input output).done (word_number_lem z (some ps) q)
      ∙ ap (λ x. word_bytes n (changed (places x) (word_of n input 0))) q
  word_written z none q = ((refuses code ok).word n input output).received (rw (word_number_lem z none q) refl)

words_here : (code : Code) (ok : Sound code) (n : ℕ) (input output : List ℕ) → WordRule code n input output (word_said code n input output) (word_output code n input output)
words_here code ok n input output =
    let w : Word = word_of n input 0 in
    record {
      refusal = word_refusal code n input output;
      number = word_given code n input output;
      refuses = word_refused_lem code n input output;
      answers = λ z.
          let f = (word_accepts code n input output).0 z in (
            answer code n w,
            answer-fits code ok n f.from w (word_of-length n input 0),
            word_said_lem code ok n input output z,
            word_written code ok n input output z (answer code n w) refl,
          );
    }

-- ---- A row

rows_here : (code : Code) (ok : Sound code) (n : ℕ) (input : List ℕ) (i : ℕ) → RowRule code n input i (row_part code n input i)
rows_here code ok n input i = record { part = λ g. (((refuses code ok).row n input i).0 g).0; empty = ((refuses code ok).row n input i).1 }

numbers_here : NumbersPromise
numbers_here = record {
  refused_is = λ r. refl;
  erased_is = refl;
  clean_is = λ p b r c. refl;
  repaired_is = λ p b r c. refl;
  stuck_is = λ p b r c. refl;
  spent_is = λ p b r c. refl;
  word_refused_is = λ r. refl;
  answered_is = λ ps. refl;
  beyond_is = refl;
}

pub entries : (code : Code) (able : Mends code) → Entries code
entries code able = record {
  encodes = encodes_here code able.sound;
  reads = reads_here code able.sound;
  decodes = decodes_here code;
  words = words_here code able.sound;
  rows = rows_here code able.sound;
  encodes_only = λ n input output r exit k.
      (determined code able).encoding n input output r (encode_number code n input output) exit (encode_output code n input output) k
      (encodes_here code able.sound n input output);
  reads_only = λ n input output r exit k.
      (determined code able).reading n input output r (read_number code n input output) exit (read_output code n input output) k
      (reads_here code able.sound n input output);
  decodes_only = λ n allowance input output said exit k.
      (determined code able).decoding n allowance input output said (decode_said code n allowance input output) exit
      (decode_output code n allowance input output) k (decodes_here code n allowance input output);
  words_only = λ n input output said exit k.
      (determined code able).word n input output said (word_said code n input output) exit (word_output code n input output) k
      (words_here code able.sound n input output);
  rows_only = λ n input i r k. (determined code able).row n input i r (row_part code n input i) k (rows_here code able.sound n input i);
  numbers = numbers_here;
}
