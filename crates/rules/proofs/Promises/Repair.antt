-- Demand 3 over bytes: a spoiled frame comes back as it was written, and no two of different frames are alike.
-- Assumes nothing.
use mathlib.Core.Path.{◌≡◌, sym, ap, ◌∙◌}
use mathlib.Core.Logic.{◌≢◌, inl, inr}
use mathlib.Core.Bool.{true, false}
use mathlib.Core.List.{List}
use Prim.Native.Nat.{ℕ, suc, ◌+◌, ◌*◌, ◌≤◌, ◌<◌}
use native.Mathlib.Decide.{ℕ_discrete}
use native.Mathlib.Omega.{arith}
use lib.ListN.{length}
use Rattle.algebra.specs.Words.{Word, bit, differ}
use Rattle.algebra.proofs.TableLaws.{tab_ext, total_few}
use Rattle.algebra.proofs.WordLaws.{differ-zero}
use Rattle.rules.specs.Codes.{Code, radius, data_bits}
use Rattle.rules.specs.Words.{is_in, is_codeword}
use Rattle.rules.specs.Frames.{Frame, Square, row, cell, transposed, is_frame}
use Rattle.rules.specs.Bits.{stride, bit_at, word_of, frame_of, bytes_of}
use Rattle.rules.specs.Passes.{differences, Outcome, decoded}
use Rattle.rules.specs.Numbers.{
  most_allowed,
  data_bytes,
  frame_bytes,
  encode_number,
  encode_output,
  frame_for,
  undecoded,
  told,
  handed_out,
  decode_refusal,
  decode_said,
  decode_output,
  ended,
  number,
  figures_of,
}
use Rattle.rules.specs.Damage.{spoilt, wrong_bits}
use Rattle.rules.proofs.Laws.CodeLaws.{Sound, Mends}
use Rattle.rules.proofs.Laws.Shape.{word_ext, transposed_row, frame_of-square, frame_of-row, frame_of-cell, word_of-length, word_of-bit}
use Rattle.rules.proofs.Laws.ErasedLaws.{ones_word, AllOnes, not_erased, not_ones, ones_of_row, ones_of_column}
use Rattle.rules.proofs.Laws.PackLaws.{spare_free}
use Rattle.rules.proofs.Laws.NumberLaws.{Sized, decode_accepts, decode_refused, undecoded_number, handed, told_success, told_both, at_zero}
use Rattle.rules.proofs.Promises.Encoding.{Encoded}
use Rattle.rules.proofs.Promises.RoundTrip.{accepted, encoded, is_written, is_frame_lem}
use Rattle.rules.proofs.Laws.TwoPasses.{few_wrong, some_unnamed, rows_lost as rows-gone, columns_lost as columns-gone}
use Rattle.rules.proofs.Promises.RepairFrames.{Success, Restored, repairs_frames, counts_damage, spoiled_ones, spoiled_apart}

-- ---- The statement

-- bytes that encoding wrote
pub record Written (code : Code) (n : ℕ) (written : List ℕ) : Type 0 where
  pub input : List ℕ
  pub blank : List ℕ
  pub accepts : encode_number code n input blank ≡ 0
  pub writes : encode_output code n input blank ≡ written

-- at most `rows` rows have more wrong bits than the radius; spare bits are no code bits
abbrev pub SpoiledAt : Code → ℕ → ℕ → List ℕ → List ℕ → Type 0
SpoiledAt code rows n written received =
    (length received ≡ frame_bytes n) × (spoilt (radius code) n (frame_of n written) (frame_of n received) ≤ rows)

-- the class of demand 3
abbrev pub Spoiled : Code → ℕ → List ℕ → List ℕ → Type 0
Spoiled code = SpoiledAt code (radius code)

-- number 0, the written bytes, and two passes at the most
pub record Back (code : Code) (n allowance : ℕ) (written received output : List ℕ) : Type 0 where
  pub zero : number (decode_said code n allowance received output) ≡ 0
  pub bytes : decode_output code n allowance received output ≡ written
  pub few : (figures_of (decode_said code n allowance received output)).passes ≤ 2

-- all code bits are the same
abbrev pub Agree : ℕ → List ℕ → List ℕ → Type 0
Agree n s s' = (i j : ℕ) → i < n → j < n → bit_at s (i * stride n + j) ≡ bit_at s' (i * stride n + j)

-- some code bit that was received is not one
abbrev pub NotErased : ℕ → List ℕ → Type 0
NotErased n received = ¬ AllOnes n (frame_of n received)

-- a frame with at most `rows` spoiled rows comes back, whatever the allowance from two on, if what was received is as is asked
abbrev pub BackAt : Code → ℕ → (ℕ → List ℕ → Type 0) → Type 0
BackAt code rows Asked =
    (n allowance : ℕ) (written received output : List ℕ) → Written code n written → SpoiledAt code rows n written received → Asked n received
    → 2 ≤ allowance → allowance ≤ most_allowed → length output ≡ frame_bytes n → Back code n allowance written received output

pub record RepairPromise (code : Code) : Type 0 where
  pub back : BackAt code (radius code) NotErased
  -- the premise is met where a row has no wrong bit,
  pub row_unharmed :
      (n : ℕ) (written received : List ℕ) → Written code n written → Spoiled code n written received
      → (i : ℕ) → i < n → ((j : ℕ) → j < n → bit_at written (i * stride n + j) ≡ bit_at received (i * stride n + j)) → NotErased n received
  -- where a column has none,
  pub column_unharmed :
      (n : ℕ) (written received : List ℕ) → Written code n written → Spoiled code n written received
      → (j : ℕ) → j < n → ((i : ℕ) → i < n → bit_at written (i * stride n + j) ≡ bit_at received (i * stride n + j)) → NotErased n received
  -- at an n at which the word of ones is a codeword,
  pub ones_codeword :
      (n : ℕ) (written received : List ℕ) → Written code n written → Spoiled code n written received
      → is_codeword code n (ones_word n) ≡ true → NotErased n received
  -- with fewer wrong bits than rows,
  pub few_seen :
      (n : ℕ) (written received : List ℕ) → Written code n written → Spoiled code n written received
      → wrong_bits n written received < n → NotErased n received
  -- and where not all rows, or not all columns, are lost
  pub rows_seen :
      (n : ℕ) (written received : List ℕ) → Written code n written → Spoiled code n written received
      → (lost : List ℕ) → length lost < n
      → ((i j : ℕ) → i < n → j < n → is_in i lost ≡ false → bit_at written (i * stride n + j) ≡ bit_at received (i * stride n + j))
      → NotErased n received
  pub columns_seen :
      (n : ℕ) (written received : List ℕ) → Written code n written → Spoiled code n written received
      → (lost : List ℕ) → length lost < n
      → ((i j : ℕ) → i < n → j < n → is_in j lost ≡ false → bit_at written (i * stride n + j) ≡ bit_at received (i * stride n + j))
      → NotErased n received
  -- whatever the allowance, number 0 means the written bytes, and the count is the number of wrong bits
  pub counts :
      (n allowance : ℕ) (written received output : List ℕ) → Written code n written → Spoiled code n written received
      → number (decode_said code n allowance received output) ≡ 0
      → (decode_output code n allowance received output ≡ written)
      × ((figures_of (decode_said code n allowance received output)).bits ≡ wrong_bits n written received)
  -- what comes from different frames differs in some code bit
  pub apart :
      (n : ℕ) (written written' received received' : List ℕ) → Written code n written → Written code n written' → written ≢ written'
      → Spoiled code n written received → Spoiled code n written' received' → ¬ Agree n received received'
  -- fewer than (radius + 1)² wrong bits, wherever
  pub few_bits :
      (n : ℕ) (written received : List ℕ) → length received ≡ frame_bytes n
      → wrong_bits n written received < suc (radius code) * suc (radius code) → Spoiled code n written received
  -- rows lost whole, as many as the radius
  pub rows_lost :
      (n : ℕ) (written received : List ℕ) (lost : List ℕ) → length lost ≤ radius code → length received ≡ frame_bytes n
      → ((i j : ℕ) → i < n → j < n → is_in i lost ≡ false → bit_at written (i * stride n + j) ≡ bit_at received (i * stride n + j))
      → Spoiled code n written received
  -- columns lost whole, as many as the radius
  pub columns_lost :
      (n : ℕ) (written received : List ℕ) (lost : List ℕ) → length lost ≤ radius code → length received ≡ frame_bytes n
      → ((i j : ℕ) → i < n → j < n → is_in j lost ≡ false → bit_at written (i * stride n + j) ≡ bit_at received (i * stride n + j))
      → Spoiled code n written received

-- ---- The proof

success_zero : (o : Outcome) → Success o → number (told o) ≡ 0
success_zero o (inl q) = ap (λ e. number (ended e o.passes o.bits o.rows o.columns)) q
success_zero o (inr q) = ap (λ e. number (ended e o.passes o.bits o.rows o.columns)) q

module _ (code : Code) (ok : Sound code) (n : ℕ) (written : List ℕ) (w : Written code n written) where
  the_frame : Frame
  the_frame = frame_for code n w.input

  sized : Sized code n w.input (data_bytes code n) w.blank (frame_bytes n)
  sized = (accepted code ok n w.input w.blank w.accepts).0

  made : Encoded code n (frame_of (data_bits code n) w.input)
  made = encoded code ok n w.input w.blank w.accepts

  is_bytes : written ≡ bytes_of n the_frame
  unfolding the_frame
  is_bytes = sym w.writes ∙ is_written code ok n w.input w.blank w.accepts

  is_the_frame : frame_of n written ≡ the_frame
  unfolding the_frame
  is_the_frame = is_frame_lem code ok n w.input w.blank w.accepts written (ap (frame_of n) (sym w.writes))

  in_class : (received : List ℕ) → Spoiled code n written received → spoilt (radius code) n the_frame (frame_of n received) ≤ radius code
  in_class received s = rw is_the_frame at s.1

  square : Square n the_frame
  unfolding the_frame
  square = made.square

  whole : is_frame code n the_frame ≡ true
  unfolding the_frame
  whole = made.frame

  some-zero : ¬ AllOnes n the_frame
  unfolding the_frame
  some-zero = not_ones n (frame_for code n w.input) (accepted code ok n w.input w.blank w.accepts).2

word_of_ext :
    (n : ℕ) (s t : List ℕ) (start : ℕ) → ((j : ℕ) → j < n → bit_at s (start + j) ≡ bit_at t (start + j)) → word_of n s start ≡ word_of n t start
word_of_ext n s t start h =
    word_ext n (word_of n s start) (word_of n t start) (word_of-length n s start) (word_of-length n t start)
    (λ j l. word_of-bit n s start j l ∙ h j l ∙ sym (word_of-bit n t start j l))

same_row :
    (n : ℕ) (s t : List ℕ) (i : ℕ) → i < n → ((j : ℕ) → j < n → bit_at s (i * stride n + j) ≡ bit_at t (i * stride n + j))
    → row (frame_of n s) i ≡ row (frame_of n t) i
same_row n s t i l same = frame_of-row n s i l ∙ word_of_ext n s t (i * stride n) same ∙ sym (frame_of-row n t i l)

same_column :
    (n : ℕ) (s t : List ℕ) (j : ℕ) → j < n → ((i : ℕ) → i < n → bit_at s (i * stride n + j) ≡ bit_at t (i * stride n + j))
    → row (transposed n (frame_of n s)) j ≡ row (transposed n (frame_of n t)) j
same_column n s t j l same =
    transposed_row n (frame_of n s) j l
    ∙ tab_ext n (λ i. cell (frame_of n s) i j) (λ i. cell (frame_of n t) i j)
    (λ i m. frame_of-cell n s i j m l ∙ same i m ∙ sym (frame_of-cell n t i j m l))
    ∙ sym (transposed_row n (frame_of n t) j l)

-- the premise: all that was received were ones
module _
    (code : Code) (able : Mends code) (n : ℕ) (written received : List ℕ) (w : Written code n written) (s : Spoiled code n written received)
    (all : AllOnes n (frame_of n received)) where
  abbrev ok : Sound code
  ok = able.sound

  written_whole : is_frame code n (frame_of n written) ≡ true
  written_whole = ap (is_frame code n) (is_the_frame code ok n written w) ∙ whole code ok n written w

  at_codeword : is_codeword code n (ones_word n) ≡ true → ⊥
  at_codeword c =
      let k = sized code ok n written w in
      some-zero code ok n written w
      (spoiled_ones code able n k.from k.up_to (the_frame code ok n written w) (frame_of n received) (square code ok n written w)
      (frame_of-square n received) (whole code ok n written w) (in_class code ok n written w received s) c all)

  at_row : (i : ℕ) → i < n → ((j : ℕ) → j < n → bit_at written (i * stride n + j) ≡ bit_at received (i * stride n + j)) → ⊥
  at_row i l same =
      at_codeword
      (ones_of_row code n (frame_of n written) (frame_of n received) written_whole (frame_of-square n received) all i l
      (same_row n written received i l same))

  at_column : (j : ℕ) → j < n → ((i : ℕ) → i < n → bit_at written (i * stride n + j) ≡ bit_at received (i * stride n + j)) → ⊥
  at_column j l same =
      at_codeword
      (ones_of_column code n (frame_of n written) (frame_of n received) written_whole all j l (same_column n written received j l same))

-- a success hands out its frame
success_output :
    (code : Code) (n a : ℕ) (received output : List ℕ) → decode_refusal code n a received output ≡ 0
    → number (told (decoded code n a (frame_of n received))) ≡ 0
    → decode_output code n a received output ≡ bytes_of n (decoded code n a (frame_of n received)).last
unfolding decode_output
success_output code n a received output z e =
    let o : Outcome = decoded code n a (frame_of n received) in
    at_zero (decode_refusal code n a received output) (handed_out n received o) output z
    ∙ handed n received o
    ∙ at_zero (number (told o)) (bytes_of n o.last) received e

-- a success with the written frame, and the count
module _ (code : Code) (able : Mends code) (n a : ℕ) (written received output : List ℕ) (w : Written code n written) (s : Spoiled code n written received) where
  f : Frame
  f = the_frame code able.sound n written w

  abbrev o : Outcome
  o = decoded code n a (frame_of n received)

  abbrev r : ℕ
  r = decode_refusal code n a received output

  counts_here :
      r ≡ 0 → number (told o) ≡ 0
      → (decode_output code n a received output ≡ written) × ((figures_of (told o)).bits ≡ wrong_bits n written received)
  unfolding f
  counts_here z e =
      let k = sized code able.sound n written w in
      let b =
      counts_damage code able n a k.from k.up_to ((decode_accepts code n a received output).0 z).1.0 f (frame_of n received)
      (square code able.sound n written w) (frame_of-square n received) (whole code able.sound n written w)
      (in_class code able.sound n written w received s) (told_success o e) in (
        success_output code n a received output z e ∙ ap (bytes_of n) b.0 ∙ sym (is_bytes code able.sound n written w),
        (told_both o).1 ∙ b.1 ∙ ap (λ x. differences n x (frame_of n received)) (sym (is_the_frame code able.sound n written w)),
      )

  counts_said :
      number (decode_said code n a received output) ≡ 0
      → (decode_output code n a received output ≡ written)
      × ((figures_of (decode_said code n a received output)).bits ≡ wrong_bits n written received)
  unfolding decode_said
  counts_said e = go (ℕ_discrete r 0)
    where
      go :
          Dec (r ≡ 0)
          → (decode_output code n a received output ≡ written)
          × ((figures_of (decode_said code n a received output)).bits ≡ wrong_bits n written received)
      go (yes z) =
          let said : decode_said code n a received output ≡ told o = at_zero r (told o) (undecoded r) z in
          let k = counts_here z (sym (ap number said) ∙ e) in
          (k.0, ap (λ d. (figures_of d).bits) said ∙ k.1)
      go (no z) = absurd (z (sym (ap number (decode_refused code n a received output z).0 ∙ undecoded_number r) ∙ e))

-- any frame comes back, also one that encoding does not write
pub frame_back :
    (code : Code) (able : Mends code) (n a : ℕ) (f : Frame) (received output : List ℕ) → Sized code n received (frame_bytes n) output (frame_bytes n)
    → 2 ≤ a → a ≤ most_allowed → Square n f → is_frame code n f ≡ true → spoilt (radius code) n f (frame_of n received) ≤ radius code
    → NotErased n received → Back code n a (bytes_of n f) received output
unfolding decode_said
frame_back code able n a f received output k lo hi sf whole d seen =
    let p : Outcome = decoded code n a (frame_of n received) in
    let q : ℕ = decode_refusal code n a received output in
    let z : q ≡ 0 = (decode_accepts code n a received output).1 (k, (omega arith, hi), not_erased n (frame_of n received) seen) in
    let b : Restored f p = repairs_frames code able n a k.from k.up_to lo f (frame_of n received) sf (frame_of-square n received) whole d in
    let e : number (told p) ≡ 0 = success_zero p b.success in
    let said : decode_said code n a received output ≡ told p = at_zero q (told p) (undecoded q) z in
    record {
      zero = ap number said ∙ e;
      bytes = success_output code n a received output z e ∙ ap (bytes_of n) b.frame;
      few = rw (ap (λ d. (figures_of d).passes) said ∙ (told_both p).0) b.few;
    }

back_here : (code : Code) (able : Mends code) → BackAt code (radius code) NotErased
back_here code able n a written received output w s seen lo hi lent =
    let ok = able.sound in
    let k = sized code ok n written w in
    rw (is_bytes code ok n written w)
    (frame_back code able n a (the_frame code ok n written w) received output
    (record { from = k.from; up_to = k.up_to; taken = s.0; lent = lent }) lo hi (square code ok n written w) (whole code ok n written w)
    (in_class code ok n written w received s) seen)

apart_here :
    (code : Code) (able : Mends code) (n : ℕ) (written written' received received' : List ℕ) → Written code n written → Written code n written' → written ≢ written'
    → Spoiled code n written received → Spoiled code n written' received' → ¬ Agree n received received'
apart_here code able n written written' received received' w w' different s s' agree =
    let k = sized code able.sound n written w in
    let e : frame_of n received ≡ frame_of n received' = spare_free n received received' agree in
    different
    (is_bytes code able.sound n written w
    ∙ ap (bytes_of n)
    (spoiled_apart code able n k.from k.up_to (the_frame code able.sound n written w) (the_frame code able.sound n written' w') (frame_of n received)
    (square code able.sound n written w) (square code able.sound n written' w') (frame_of-square n received) (whole code able.sound n written w) (whole code able.sound n written' w')
    (in_class code able.sound n written w received s) (rw e (in_class code able.sound n written' w' received' s')))
    ∙ sym (is_bytes code able.sound n written' w'))

-- fewer wrong bits than rows: some row has none
some-row :
    (n : ℕ) (written received : List ℕ) → wrong_bits n written received < n
    → (i : ℕ) × (i < n) × ((j : ℕ) → j < n → bit_at written (i * stride n + j) ≡ bit_at received (i * stride n + j))
unfolding differences
some-row n written received few =
    let z = total_few n (λ i. differ (row (frame_of n written) i) (row (frame_of n received) i)) few in (
      z.0,
      z.1,
      λ j m.
          sym (frame_of-cell n written z.0 j z.1 m)
          ∙ ap (λ (w : Word). bit w j)
          (differ-zero (row (frame_of n written) z.0) (row (frame_of n received) z.0)
          ((frame_of-square n written).1 z.0 z.1 ∙ sym ((frame_of-square n received).1 z.0 z.1)) z.2)
          ∙ frame_of-cell n received z.0 j z.1 m,
    )

pub repairs : (code : Code) (able : Mends code) → RepairPromise code
repairs code able =
    record {
      back = back_here code able;
      row_unharmed = λ n written received w s i l same all. at_row code able n written received w s all i l same;
      column_unharmed = λ n written received w s j l same all. at_column code able n written received w s all j l same;
      ones_codeword = λ n written received w s c all. at_codeword code able n written received w s all c;
      few_seen = λ n written received w s few all.
          let z = some-row n written received few in at_row code able n written received w s all z.0 z.1 z.2;
      rows_seen = λ n written received w s lost few same all.
          let z = some_unnamed n lost few in
          at_row code able n written received w s all z.0 z.1 (λ j m. same z.0 j z.1 m z.2);
      columns_seen = λ n written received w s lost few same all.
          let z = some_unnamed n lost few in
          at_column code able n written received w s all z.0 z.1 (λ i m. same i z.0 m z.1 z.2);
      counts = counts_said code able;
      apart = apart_here code able;
      few_bits = λ n written received long d. (long, few_wrong (radius code) n (frame_of n written) (frame_of n received) d);
      rows_lost = λ n written received lost few long same. (
        long,
        rows-gone (radius code) n (frame_of n written) (frame_of n received) lost few
            (λ i l out. same_row n written received i l (λ j m. same i j l m out)),
      );
      columns_lost = λ n written received lost few long same. (
        long,
        (let none =
            columns-gone (radius code) n (frame_of n written) (frame_of n received) (frame_of-square n written) (frame_of-square n received) lost few
            (λ i j l m out. frame_of-cell n written i j l m ∙ same i j l m out ∙ sym (frame_of-cell n received i j l m)) in
            omega arith),
      );
    }
