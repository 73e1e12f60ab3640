-- RULES 13: a rule leaves nothing open, neither what is returned nor a byte of the lent output.
-- Assumes nothing.
use mathlib.Core.Path.{◌≡◌, refl, sym, ap, ◌∙◌}
use mathlib.Core.Logic.{◌≢◌, ◌↔◌, inl, inr}
use mathlib.Core.Bool.{Bool, true, false, not, ◌&&◌, true≢false}
use mathlib.Core.List.{List, [], ◌∷◌}
use mathlib.Core.Option.{Option}
use Prim.Native.Nat.{ℕ, suc, ◌≤◌}
use native.Mathlib.Decide.{ℕ_discrete}
use native.Mathlib.Omega.{arith}
use lib.Dec.{leb}
use lib.ListN.{length, drop}
use Rattle.algebra.specs.Words.{Word}
use Rattle.rules.specs.Codes.{Code}
use Rattle.rules.specs.Frames.{Frame, Square, is_frame}
use Rattle.rules.specs.Bits.{row_bytes, word_of, frame_of, bytes_of}
use Rattle.rules.specs.Passes.{Outcome, decoded}
use Rattle.rules.specs.Numbers.{most_allowed, frame_bytes, data_bytes, refused, told, word_refused, answered, row_refused}
use Rattle.rules.proofs.Laws.CodeLaws.{Sound, Mends}
use Rattle.rules.proofs.Laws.Shape.{transposed_square, word_of-length}
use Rattle.rules.proofs.Laws.FrameLaws.{frame_rows, frame_columns, rows_columns_frame}
use Rattle.rules.proofs.Laws.ErasedLaws.{AllOnes}
use Rattle.rules.proofs.Laws.NumberLaws.{range_test}
use Rattle.rules.proofs.Promises.Answers.{Fits, answers}
use Rattle.rules.proofs.Promises.Encoding.{frame_unique}
use Rattle.rules.proofs.Promises.Refusals.{row_test, GoodRow}
use Rattle.rules.proofs.Promises.Passes.{PassRule, passes_promise}
use Rattle.rules.proofs.Promises.EntryRules.{Reasons, Given, sizes, AllCodewords, FrameOfData, encode_reasons, EncodeRule, read_reasons, ReadRule, decode_reasons, written, DecodeRule, word_reasons, written_word, WordRule, RowRule}

-- whatever keeps a rule twice is equal, result and every byte
abbrev pub Once : {A : Type 0} → (A → List ℕ → Type 0) → Type 0
Once {A} Rule = (r r' : A) (exit exit' : List ℕ) → Rule r exit → Rule r' exit' → (r ≡ r') × (exit ≡ exit')

pub record Determined (code : Code) : Type 0 where
  pub encoding : (n : ℕ) (input output : List ℕ) → Once (EncodeRule code n input output)
  pub reading : (n : ℕ) (input output : List ℕ) → Once (ReadRule code n input output)
  pub decoding : (n allowance : ℕ) (input output : List ℕ) → Once (DecodeRule code n allowance input output)
  pub word : (n : ℕ) (input output : List ℕ) → Once (WordRule code n input output)
  pub row : (n : ℕ) (input : List ℕ) (i : ℕ) (r r' : List ℕ) → RowRule code n input i r → RowRule code n input i r' → r ≡ r'
  -- and so does the statement about a word, in which no search is named
  pub answer :
      (n : ℕ) → code.shortest ≤ n → n ≤ code.longest → (w : Word) → length w ≡ n → (a a' : Option (List ℕ)) → Fits code n w a → Fits code n w a' → a ≡ a'

-- ---- The number

given_once : (l : Reasons) (r r' : ℕ) → Given l r → Given l r' → r ≡ r'
given_once [] r r' h k = h ∙ sym k
given_once (reason ∷ later) r r' h k = go (given_once later r r') h k
  where
    go : (Given later r → Given later r' → r ≡ r') → Given (reason ∷ later) r → Given (reason ∷ later) r' → r ≡ r'
    go again (inl (x, e)) (inl (y, e')) = e ∙ sym e'
    go again (inl (x, e)) (inr (y, g)) = absurd (y x)
    go again (inr (x, g)) (inl (y, e)) = absurd (x y)
    go again (inr (x, g)) (inr (y, g')) = again g g'

-- two equal numbers are both 0, or neither is
both_ways : (P : Type 0) (r q : ℕ) → r ≡ q → (r ≡ 0 → q ≡ 0 → P) → (r ≢ 0 → q ≢ 0 → P) → P
both_ways P r q e h k = go (ℕ_discrete r 0)
  where
    go : Dec (r ≡ 0) → P
    go (yes z) = h z (sym e ∙ z)
    go (no z) = k z (λ w. z (e ∙ w))

-- ---- What number 0 tells

-- no reason is there
none_applies : (X : Type 0) (x : ℕ) (later : Reasons) (r : ℕ) → Given ((X, suc x) ∷ later) r → r ≡ 0 → (¬ X) × Given later r
none_applies X x later r (inl (h, e)) z = absurd (omega arith)
none_applies X x later r (inr k) z = k

in_range : (lo hi n : ℕ) → ¬ (¬ ((lo ≤ n) × (n ≤ hi))) → (lo ≤ n) × (n ≤ hi)
in_range lo hi n h = go (not (leb lo n && leb n hi)) (range_test lo hi n)
  where
    go : (b : Bool) → (b ≡ false) ↔ ((lo ≤ n) × (n ≤ hi)) → (lo ≤ n) × (n ≤ hi)
    go true t = absurd (h (λ p. true≢false (t.1 p)))
    go false t = t.0 refl

sized :
    (code : Code) (n : ℕ) (input : List ℕ) (takes : ℕ) (output : List ℕ) (gives : ℕ) (later : Reasons) (r : ℕ)
    → Given (sizes code n input takes output gives later) r → r ≡ 0 → (code.shortest ≤ n) × (n ≤ code.longest) × Given later r
sized code n input takes output gives later r g z =
    let third : Reasons = (length output ≢ gives, 3) ∷ later in
    let second : Reasons = (length input ≢ takes, 2) ∷ third in
    let p₁ = none_applies (¬ ((code.shortest ≤ n) × (n ≤ code.longest))) 0 second r g z in
    let p₂ = none_applies (length input ≢ takes) 1 third r p₁.1 z in
    let p₃ = none_applies (length output ≢ gives) 2 later r p₂.1 z in
    let b = in_range code.shortest code.longest n p₁.0 in
    (b.0, b.1, p₃.1)

-- ---- Each rule

pub frame_all : (code : Code) (n : ℕ) (f : Frame) → Square n f → (is_frame code n f ≡ true) ↔ AllCodewords code n f
frame_all code n f s = (
  λ h. (λ i hi. (s.1 i hi, frame_rows code n f h i hi), λ j hj. ((transposed_square n f).1 j hj, frame_columns code n f h j hj)),
  λ a. rows_columns_frame code n f (λ i hi. (a.0 i hi).1) (λ j hj. (a.1 j hj).1),
)

pub data_frame_unique :
    (code : Code) (ok : Sound code) (n : ℕ) (input : List ℕ) (f h : Frame) → code.shortest ≤ n → FrameOfData code n input f → FrameOfData code n input h
    → f ≡ h
data_frame_unique code ok n input f h le t u =
    frame_unique code ok n f h le t.0 u.0 ((frame_all code n f t.0).1 t.1) ((frame_all code n h u.0).1 u.1) (t.2 ∙ sym u.2)

encode_once : (code : Code) (ok : Sound code) (n : ℕ) (input output : List ℕ) → Once (EncodeRule code n input output)
encode_once code ok n input output r r' exit exit' k k' =
    let e : r ≡ r' = given_once (encode_reasons code n input output) r r' k.number k'.number in (
      e,
      both_ways (exit ≡ exit') r r' e
          (λ z z'.
          let t = k.done z in
          let u = k'.done z' in
          let b = sized code n input (data_bytes code n) output (frame_bytes n) (drop 3 (encode_reasons code n input output)) r k.number z in
          t.2
          ∙ ap (bytes_of n) (data_frame_unique code ok n input t.0 u.0 b.0 t.1 u.1)
          ∙ sym u.2)
          (λ z z'. k.untouched z ∙ sym (k'.untouched z')),
    )

read_once : (code : Code) (n : ℕ) (input output : List ℕ) → Once (ReadRule code n input output)
read_once code n input output r r' exit exit' k k' =
    let e : r ≡ r' = given_once (read_reasons code n input output) r r' k.number k'.number in (
      e,
      both_ways (exit ≡ exit') r r' e (λ z z'. k.done z ∙ sym (k'.done z')) (λ z z'. k.untouched z ∙ sym (k'.untouched z')),
    )

decode_once : (code : Code) (n allowance : ℕ) (input output : List ℕ) → Once (DecodeRule code n allowance input output)
decode_once code n allowance input output said said' exit exit' k k' =
    let X : Type 0 = (1 ≤ allowance) × (allowance ≤ most_allowed) in
    both_ways ((said ≡ said') × (exit ≡ exit')) k.refusal k'.refusal e
    (λ z z'.
    let t = k.ends z in
    let u = k'.ends z' in
    let later : Reasons = (AllOnes n (frame_of n input), 10) ∷ [] in
    let b = sized code n input (frame_bytes n) output (frame_bytes n) ((¬ X, 4) ∷ later) k.refusal k.number z in
    let a = (in_range 1 most_allowed allowance (none_applies (¬ X) 3 later k.refusal b.2 z).0).0 in
    let same : (o : Outcome) → PassRule code n allowance (frame_of n input) o → o ≡ decoded code n allowance (frame_of n input) =
    λ o p. (passes_promise code).only n allowance (frame_of n input) o a p in
    let o = same t.0 t.1 ∙ sym (same u.0 u.1) in
    (t.2 ∙ ap told o ∙ sym u.2, t.3 ∙ ap (λ x. written n input x.ending x.last) o ∙ sym u.3))
    (λ z z'. (same_said (ℕ_discrete k.refusal 10) z z', k.untouched z ∙ sym (k'.untouched z')))
  where
    e : k.refusal ≡ k'.refusal
    e = given_once (decode_reasons code n allowance input output) k.refusal k'.refusal k.number k'.number

    same_said : Dec (k.refusal ≡ 10) → k.refusal ≢ 0 → k'.refusal ≢ 0 → said ≡ said'
    same_said (yes t) z z' = k.erases t ∙ sym (k'.erases (sym e ∙ t))
    same_said (no t) z z' = k.refuses z t ∙ ap refused e ∙ sym (k'.refuses z' (λ q. t (e ∙ q)))

answer_once : (code : Code) (able : Mends code) (n : ℕ) → code.shortest ≤ n → n ≤ code.longest → (w : Word) → length w ≡ n → (a a' : Option (List ℕ)) → Fits code n w a → Fits code n w a' → a ≡ a'
answer_once code able n h b w l a a' p q = (answers code able n h b w l).only a p ∙ sym ((answers code able n h b w l).only a' q)

word_once : (code : Code) (able : Mends code) (n : ℕ) (input output : List ℕ) → Once (WordRule code n input output)
word_once code able n input output said said' exit exit' k k' =
    let e = given_once (word_reasons code n input output) k.refusal k'.refusal k.number k'.number in
    both_ways ((said ≡ said') × (exit ≡ exit')) k.refusal k'.refusal e
    (λ z z'.
    let t = k.answers z in
    let u = k'.answers z' in
    let b = sized code n input (row_bytes n) output (row_bytes n) [] k.refusal k.number z in
    let a = answer_once code able n b.0 b.1 (word_of n input 0) (word_of-length n input 0) t.0 u.0 t.1 u.1 in
    (t.2 ∙ ap answered a ∙ sym u.2, t.3 ∙ ap (written_word n input) a ∙ sym u.3))
    (λ z z'.
    let t = k.refuses z in
    let u = k'.refuses z' in
    (t.0 ∙ ap word_refused e ∙ sym u.0, t.1 ∙ sym u.1))

row_once : (code : Code) (n : ℕ) (input : List ℕ) (i : ℕ) (r r' : List ℕ) → RowRule code n input i r → RowRule code n input i r' → r ≡ r'
row_once code n input i r r' k k' = go (row_refused code n input i) (row_test code n input i)
  where
    go : (b : Bool) → (b ≡ false) ↔ GoodRow code n input i → r ≡ r'
    go true t = let h : ¬ GoodRow code n input i = λ g. true≢false (t.1 g) in k.empty h ∙ sym (k'.empty h)
    go false t = let g = t.0 refl in k.part g ∙ sym (k'.part g)

pub determined : (code : Code) (able : Mends code) → Determined code
determined code able = record {
  encoding = encode_once code able.sound;
  reading = read_once code;
  decoding = decode_once code;
  word = word_once code able;
  row = row_once code;
  answer = answer_once code able;
}
