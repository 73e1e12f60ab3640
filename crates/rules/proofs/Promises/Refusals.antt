-- RULES 6: the table of numbers, of every entry point: which can occur, and what stands in the output for each.
-- Assumes nothing.
use mathlib.Core.Path.{◌≡◌, refl, sym, ap, ◌∙◌}
use mathlib.Core.Logic.{◌≢◌, ◌↔◌, ◌⊎◌, inl, inr, ⊎_elim}
use mathlib.Core.Bool.{Bool, true, false, not, ◌||◌, true≢false}
use mathlib.Core.List.{List, [], ◌∷◌, ◌++◌}
use mathlib.Core.Option.{Option, some, none}
use Prim.Native.Nat.{ℕ, ◌+◌, ◌*◌, ◌≤◌, ◌<◌}
use native.Mathlib.Nat.{suc-mul, mul-le-mul_right}
use native.Mathlib.Decide.{ℕ_discrete}
use native.Mathlib.Omega.{arith}
use lib.Dec.{eqb, ltb}
use lib.ListN.{length, take, drop, length-drop}
use lib.Seq.{length-take-le}
use borrow.Author.Tests.{ltb-true, lt-ltb, not-false}
use Rattle.rules.specs.Codes.{Code, data_bits}
use Rattle.rules.specs.Words.{answer, mend, is_in}
use Rattle.rules.specs.Frames.{corner}
use Rattle.rules.specs.Bits.{row_bytes, word_of, frame_of, word_bytes, bytes_of}
use Rattle.rules.specs.Passes.{Ending, clean, repaired, stuck, spent, Outcome, decoded}
use Rattle.rules.specs.Numbers.{pick, outside, not_long, frame_bytes, encode_number, encode_output, frame_for, read_number, read_output, undecoded, told, handed_out, decode_refusal, decode_said, decode_output, ended, number, word_refused, answered, word_refusal, word_said, word_number, word_output, row_refused, row_part, encode_refusals, read_refusals, decode_refusals, word_refusals}
use Rattle.rules.proofs.Laws.CodeLaws.{Sound}
use Rattle.rules.proofs.Laws.PackLaws.{bytes_of-length, word_bytes-length}
use Rattle.rules.proofs.Laws.NumberLaws.{range_test, equal_test, first_in, encode_accepts, read_accepts, decode_accepts, word_accepts, undecoded_number, handed, at_zero, at_other, at_either}
use Rattle.rules.proofs.Laws.OneOfLaws.{OneOf, one_of_cons, one_of_back, one_of_front, apart, one_of_apart}

-- the table's rows for one entry point: the number given, and what the output holds then
pub record NumberTable (refusals endings : List ℕ) (given : ℕ) (accepted input output out : List ℕ) : Type 0 where
  pub one : OneOf given (0 ∷ refusals ++ endings)
  -- 0: what was asked for
  pub done : given ≡ 0 → out ≡ accepted
  -- refused or erased: as it was
  pub untouched : OneOf given refusals → out ≡ output
  -- stuck, spent or none near enough: what was received
  pub received : OneOf given endings → out ≡ input
  pub long : length out ≡ length output

-- n, the length and i are good
abbrev pub GoodRow : Code → ℕ → List ℕ → ℕ → Type 0
GoodRow code n input i = (code.shortest ≤ n) × (n ≤ code.longest) × (length input ≡ frame_bytes n) × (i < n)

-- the bytes of row i
abbrev pub row_of_bytes : ℕ → List ℕ → ℕ → List ℕ
row_of_bytes n input i = take (row_bytes n) (drop (i * row_bytes n) input)

pub record Refuses (code : Code) : Type 0 where
  pub encode :
      (n : ℕ) (input output : List ℕ)
      → NumberTable (1 ∷ 2 ∷ 3 ∷ 5 ∷ 10 ∷ []) [] (encode_number code n input output) (bytes_of n (frame_for code n input)) input output
      (encode_output code n input output)
  pub read :
      (n : ℕ) (input output : List ℕ)
      → NumberTable (1 ∷ 2 ∷ 3 ∷ 10 ∷ 6 ∷ []) [] (read_number code n input output) (bytes_of (data_bits code n) (corner (data_bits code n) (frame_of n input))) input output
      (read_output code n input output)
  pub decode :
      (n allowance : ℕ) (input output : List ℕ)
      → NumberTable (1 ∷ 2 ∷ 3 ∷ 4 ∷ 10 ∷ []) (7 ∷ 8 ∷ []) (number (decode_said code n allowance input output))
      (bytes_of n (decoded code n allowance (frame_of n input)).last) input output (decode_output code n allowance input output)
  pub word :
      (n : ℕ) (input output : List ℕ)
      → NumberTable (1 ∷ 2 ∷ 3 ∷ []) (9 ∷ []) (word_number (word_said code n input output)) (word_bytes n (mend code n (word_of n input 0))) input output
      (word_output code n input output)
  pub row :
      (n : ℕ) (input : List ℕ) (i : ℕ)
      → (GoodRow code n input i → (row_part code n input i ≡ row_of_bytes n input i) × (length (row_of_bytes n input i) ≡ row_bytes n) × (1 ≤ row_bytes n))
      × (¬ GoodRow code n input i → row_part code n input i ≡ [])

-- ---- the table, from the number of the refusal and that of the ending

-- no number is on both lists, and 0 on neither
module _ (refusals endings : List ℕ) (separate : apart refusals (0 ∷ endings) ≡ true) (some : is_in 0 endings ≡ false) where
  ending_all : (x : ℕ) → OneOf x (0 ∷ endings) → OneOf x (0 ∷ refusals ++ endings)
  unfolding is_in
  ending_all x h = go (one_of_cons x 0 endings h)
    where
      go : (x ≡ 0) ⊎ OneOf x endings → OneOf x (0 ∷ refusals ++ endings)
      go (inl e) = rw e refl
      go (inr e) = one_of_back x (0 ∷ refusals) endings e

  table :
      (r e given : ℕ) (inner accepted input output : List ℕ) → given ≡ pick (eqb r 0) e r
      → OneOf r (0 ∷ refusals) → OneOf e (0 ∷ endings) → (r ≡ 0 → inner ≡ pick (eqb e 0) accepted input)
      → (r ≡ 0 → (length accepted ≡ length output) × (e ≢ 0 → length input ≡ length output))
      → NumberTable refusals endings given accepted input output (pick (eqb r 0) inner output)
  table r e given inner accepted input output is hr he hi hl = go (ℕ_discrete r 0)
    where
      go : Dec (r ≡ 0) → NumberTable refusals endings given accepted input output (pick (eqb r 0) inner output)
      go (yes z) =
          let g : given ≡ e = is ∙ at_zero r e r z in
          let o : pick (eqb r 0) inner output ≡ pick (eqb e 0) accepted input = at_zero r inner output z ∙ hi z in
          record {
            one = rw g (ending_all e he);
            done = λ q. o ∙ at_zero e accepted input (sym g ∙ q);
            untouched = λ q. absurd (one_of_apart e refusals (0 ∷ endings) separate (rw g at q) he);
            received = λ q.
                let q' : OneOf e endings = rw g at q in
                o ∙ at_other e accepted input (λ p. true≢false (sym q' ∙ ap (λ x. is_in x endings) p ∙ some));
            long = ap length o ∙ at_either (λ s. length s ≡ length output) e accepted input (λ p. (hl z).0) (λ p. (hl z).1 p);
          }
      go (no z) =
          let g : given ≡ r = is ∙ at_other r e r z in
          let o : pick (eqb r 0) inner output ≡ output = at_other r inner output z in
          record {
            one = rw g (one_of_front r (0 ∷ refusals) endings hr);
            done = λ q. absurd (z (sym g ∙ q));
            untouched = λ q. o;
            received = λ q.
                let q' : OneOf r endings = rw g at q in
                absurd (⊎_elim z (λ k. one_of_apart r refusals (0 ∷ endings) separate k (one_of_back r (0 ∷ []) endings q')) (one_of_cons r 0 refusals hr));
            long = ap length o;
          }

-- ---- encoding and reading: no endings

plain :
    (refusals : List ℕ) → apart refusals (0 ∷ []) ≡ true → (r : ℕ) (accepted input output : List ℕ) → OneOf r (0 ∷ refusals)
    → (r ≡ 0 → length accepted ≡ length output) → NumberTable refusals [] r accepted input output (pick (eqb r 0) accepted output)
unfolding is_in
plain refusals separate r accepted input output hr hl =
    table refusals [] separate refl r 0 r accepted accepted input output (at_either (λ x. r ≡ x) r 0 r (λ z. z) (λ z. refl)) hr refl (λ z. refl)
    (λ z. (hl z, λ p. absurd (p refl)))

-- ---- decoding

ending_in : (e : Ending) (p b r c : ℕ) → OneOf (number (ended e p b r c)) (0 ∷ 7 ∷ 8 ∷ [])
unfolding is_in
ending_in clean p b r c = refl
ending_in repaired p b r c = refl
ending_in stuck p b r c = refl
ending_in spent p b r c = refl

-- a function of what was picked
pick_ap {ℓ} : {A : Type ℓ} (f : A → ℕ) (b : Bool) (x y : A) → f (pick b x y) ≡ pick b (f x) (f y)
pick_ap f true x y = refl
pick_ap f false x y = refl

decode_table :
    (code : Code) (n allowance : ℕ) (input output : List ℕ)
    → NumberTable (1 ∷ 2 ∷ 3 ∷ 4 ∷ 10 ∷ []) (7 ∷ 8 ∷ []) (number (decode_said code n allowance input output))
    (bytes_of n (decoded code n allowance (frame_of n input)).last) input output (decode_output code n allowance input output)
unfolding decode_refusal decode_said decode_output is_in apart
decode_table code n allowance input output =
    let r : ℕ = decode_refusal code n allowance input output in
    let o : Outcome = decoded code n allowance (frame_of n input) in
    table (1 ∷ 2 ∷ 3 ∷ 4 ∷ 10 ∷ []) (7 ∷ 8 ∷ []) refl refl r (number (told o)) (number (decode_said code n allowance input output))
    (handed_out n input o) (bytes_of n o.last) input output (pick_ap number (eqb r 0) (told o) (undecoded r) ∙ ap (pick (eqb r 0) (number (told o))) (undecoded_number r))
    (first_in (decode_refusals code n allowance input output)) (ending_in o.ending o.passes o.bits o.rows o.columns)
    (λ z. handed n input o)
    (λ z.
    let f = ((decode_accepts code n allowance input output).0 z).0 in
    (bytes_of-length n o.last ∙ sym f.lent, λ p. f.taken ∙ sym f.lent))

-- ---- a single word

word_in : (code : Code) (n : ℕ) (input output : List ℕ) → OneOf (word_refusal code n input output) (0 ∷ 1 ∷ 2 ∷ 3 ∷ [])
unfolding word_refusal is_in
word_in code n input output = first_in (word_refusals code n input output)

answer_in : (a : Option (List ℕ)) → OneOf (word_number (answered a)) (0 ∷ 9 ∷ [])
unfolding is_in
answer_in (some ps) = refl
answer_in none = refl

word_table :
    (code : Code) (n : ℕ) (input output : List ℕ)
    → NumberTable (1 ∷ 2 ∷ 3 ∷ []) (9 ∷ []) (word_number (word_said code n input output)) (word_bytes n (mend code n (word_of n input 0))) input output
    (word_output code n input output)
unfolding word_said word_output is_in apart
word_table code n input output =
    let r : ℕ = word_refusal code n input output in
    let a : Option (List ℕ) = answer code n (word_of n input 0) in
    let w : List ℕ = word_bytes n (mend code n (word_of n input 0)) in
    let given : ℕ = word_number (word_said code n input output) in
    table (1 ∷ 2 ∷ 3 ∷ []) (9 ∷ []) refl refl r (word_number (answered a)) given (pick (eqb given 0) w input) w input output
    (pick_ap word_number (eqb r 0) (answered a) (word_refused r)) (word_in code n input output) (answer_in a)
    (λ z. ap (λ s. pick (eqb (word_number s) 0) w input) (at_zero r (answered a) (word_refused r) z))
    (λ z.
    let f = (word_accepts code n input output).0 z in
    (word_bytes-length n (mend code n (word_of n input 0)) ∙ sym f.lent, λ p. f.taken ∙ sym f.lent))

-- ---- a row

good_row :
    (code : Code) (ok : Sound code) (n : ℕ) (input : List ℕ) (i : ℕ) → code.shortest ≤ n → length input ≡ frame_bytes n → i < n
    → (length (take (row_bytes n) (drop (i * row_bytes n) input)) ≡ row_bytes n) × (1 ≤ row_bytes n)
good_row code ok n input i le long h =
    let r : ℕ = row_bytes n in
    let fits : i * r + r ≤ n * r = omega (arith, suc-mul i r, mul-le-mul_right r h) in
    (length-take-le r (drop (i * r) input) (omega (arith, length-drop (i * r) input)), omega (arith, ok.room))

or_false : (a b c : Bool) → (a || b || c) ≡ false → (a ≡ false) × (b ≡ false) × (c ≡ false)
or_false true b c h = absurd (true≢false h)
or_false false true c h = absurd (true≢false h)
or_false false false c h = (refl, refl, h)

false_or : (a b c : Bool) → a ≡ false → b ≡ false → c ≡ false → (a || b || c) ≡ false
false_or a b c ha hb hc = rw (ha, hb, hc)

pub row_test : (code : Code) (n : ℕ) (input : List ℕ) (i : ℕ) → (row_refused code n input i ≡ false) ↔ GoodRow code n input i
row_test code n input i = (
  λ h.
      let t = or_false (outside code n) (not_long input (frame_bytes n)) (not (ltb i n)) h in
      let r = (range_test code.shortest code.longest n).0 t.0 in
      (r.0, r.1, (equal_test (length input) (frame_bytes n)).0 t.1, ltb-true i n (not-false (ltb i n) t.2)),
  λ h.
      false_or (outside code n) (not_long input (frame_bytes n)) (not (ltb i n)) ((range_test code.shortest code.longest n).1 (h.0, h.1))
      ((equal_test (length input) (frame_bytes n)).1 h.2) (ap not (lt-ltb i n h.3)),
)

row_good :
    (code : Code) (ok : Sound code) (n : ℕ) (input : List ℕ) (i : ℕ) → GoodRow code n input i
    → (row_part code n input i ≡ row_of_bytes n input i) × (length (row_of_bytes n input i) ≡ row_bytes n) × (1 ≤ row_bytes n)
unfolding row_part
row_good code ok n input i h =
    let g = good_row code ok n input i h.0 h.2 h.3 in
    (ap (λ b. pick b [] (row_of_bytes n input i)) ((row_test code n input i).1 h), g.0, g.1)

row_bad : (code : Code) (n : ℕ) (input : List ℕ) (i : ℕ) → ¬ GoodRow code n input i → row_part code n input i ≡ []
unfolding row_part
row_bad code n input i k = go (row_refused code n input i) refl
  where
    go : (b : Bool) → row_refused code n input i ≡ b → pick b [] (row_of_bytes n input i) ≡ []
    go true q = refl
    go false q = absurd (k ((row_test code n input i).0 q))

pub refuses : (code : Code) (ok : Sound code) → Refuses code
unfolding encode_number encode_output read_number read_output is_in apart
refuses code ok = record {
  encode = λ n input output.
      let new : List ℕ = bytes_of n (frame_for code n input) in
      plain (1 ∷ 2 ∷ 3 ∷ 5 ∷ 10 ∷ []) refl (encode_number code n input output) new input output (first_in (encode_refusals code n input output))
      (λ z. bytes_of-length n (frame_for code n input) ∙ sym ((encode_accepts code n input output).0 z).0.lent);
  read = λ n input output.
      let new : List ℕ = bytes_of (data_bits code n) (corner (data_bits code n) (frame_of n input)) in
      plain (1 ∷ 2 ∷ 3 ∷ 10 ∷ 6 ∷ []) refl (read_number code n input output) new input output (first_in (read_refusals code n input output))
      (λ z. bytes_of-length (data_bits code n) (corner (data_bits code n) (frame_of n input)) ∙ sym ((read_accepts code n input output).0 z).0.lent);
  decode = decode_table code;
  word = word_table code;
  row = λ n input i. (row_good code ok n input i, row_bad code n input i);
}
