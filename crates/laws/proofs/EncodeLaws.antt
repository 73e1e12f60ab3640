-- A frame's words encoded in place, one after another; and the corner's k rows encoded so, then all columns, is encoding rows first.
-- Assumes nothing.
use mathlib.Core.Logic.{◌≢◌}
use mathlib.Core.Path.{◌≡◌, refl, sym, ap, ◌∙◌}
use mathlib.Core.Bool.{Bool, true, false, cond, ◌&&◌}
use mathlib.Core.List.{List}
use Prim.Native.Nat.{ℕ, ◌+◌, ◌≤◌, ◌<◌}
use native.Mathlib.Omega.{arith}
use borrow.Author.Tests.{lt-ltb}
use lib.Dec.{ltb}
use lib.ListN.{length, take}
use lib.Seq.{length-take-le}
use Rattle.algebra.specs.Tables.{tab}
use Rattle.algebra.specs.Words.{Word, bit}
use Rattle.algebra.proofs.TableLaws.{tab-length, tab_ext}
use Rattle.rules.specs.Codes.{Code, data_bits}
use Rattle.rules.specs.Words.{encode_word}
use Rattle.rules.specs.Frames.{Frame, row, cell, transposed, rows_first, Square}
use Rattle.rules.specs.Bits.{square_bytes, frame_of, bytes_of}
use Rattle.rules.specs.Numbers.{frame_for, encode_number, encode_output}
use Rattle.rules.proofs.Laws.CodeLaws.{Sound}
use Rattle.rules.proofs.Laws.Shape.{word_ext, bit_tab, take-tab, row_tab, transposed_row, frame_of-square}
use Rattle.rules.proofs.Laws.PackLaws.{bytes_of-length, frame_of_bytes}
use Rattle.rules.proofs.Laws.EncodeWordLaws.{encode-length}
use Rattle.rules.proofs.Laws.NumberLaws.{encode_refused, at_zero}
use Rattle.laws.specs.InPlace.{word_at, put, Inside}
use Rattle.laws.specs.Turns.{turned, start_of, step_of, partly, worked, completed, cornered, Whole, Ready}
use Rattle.laws.proofs.CornerLaws.{cornered_square, ready}
use Rattle.laws.proofs.TurnLaws.{Keeps, worked_square, worked-none, worked_later, word_inside, word_there, put_worked}

pub completed_keeps : (code : Code) (ok : Sound code) (n : ℕ) → code.shortest ≤ n → Keeps n (completed code n)
completed_keeps code ok n h w e = encode-length code ok n (take (data_bits code n) w) h (length-take-le (data_bits code n) w (omega arith))

-- ---- the first words in a direction

-- k of m words are encoded, and `by` is the step from bit to bit
pub record Encoding (code : Code) (n : ℕ) (s₀ : List ℕ) (columns : Bool) (m k : ℕ) (s : List ℕ) : Type 0 where
  pub turns : (k ≤ m) × (m ≤ n)
  pub whole : Whole code n s
  pub long : length s ≡ length s₀
  pub there : s ≡ bytes_of n (worked n columns (completed code n) k (frame_of n s₀))

pub encoding_start :
    (code : Code) (n : ℕ) (s₀ : List ℕ) (columns : Bool) (m : ℕ) → Ready code n s₀ → m ≤ n → Encoding code n s₀ columns m 0 s₀
encoding_start code n s₀ columns m r h =
    record {
      turns = omega arith;
      whole = r.0;
      long = refl;
      there = r.1 ∙ ap (bytes_of n) (sym (worked-none n columns (completed code n) (frame_of n s₀) (frame_of-square n s₀)));
    }

module _ (code : Code) (ok : Sound code) {n : ℕ} {s₀ : List ℕ} {columns : Bool} {m k : ℕ} {s : List ℕ} (c : Encoding code n s₀ columns m k s) where
  pub encoding_inside : k < m → Inside code n s (start_of n columns k) (step_of n columns)
  encoding_inside h = word_inside code ok n s columns k c.whole (omega (arith, c.turns.1))

  -- the word whose turn it is
  here : k < n → word_at n s (start_of n columns k) (step_of n columns) ≡ row (turned n columns (frame_of n s₀)) k
  here h =
      let f : Frame = frame_of n s₀ in
      let q : Square n f = frame_of-square n s₀ in
      let r = completed_keeps code ok n c.whole.0 in
      let g : Frame = worked n columns (completed code n) k f in
      word_there n s columns k h
      ∙ ap (λ (x : Frame). row (turned n columns x) k) (ap (frame_of n) c.there ∙ frame_of_bytes n g (worked_square n columns (completed code n) k f r q))
      ∙ worked_later n columns (completed code n) k k f r q (omega arith) h

  pub encoding_next :
      {t : List ℕ} → k < m
      → t ≡ put n s (start_of n columns k) (step_of n columns) (completed code n (word_at n s (start_of n columns k) (step_of n columns)))
      → Encoding code n s₀ columns m (k + 1) t
  encoding_next {t} h p =
      let hn : k < n = omega (arith, c.turns.1) in
      let f : Frame = frame_of n s₀ in
      let next : t ≡ bytes_of n (worked n columns (completed code n) (k + 1) f) =
      p
      ∙ ap (λ (w : Word). put n s (start_of n columns k) (step_of n columns) (completed code n w)) (here hn)
      ∙ put_worked code n s columns (completed code n) k f (completed_keeps code ok n c.whole.0) (frame_of-square n s₀) c.whole hn c.there in
      let l : length t ≡ square_bytes n = ap length next ∙ bytes_of-length n (worked n columns (completed code n) (k + 1) f) in
      record {
        turns = (omega arith, c.turns.1);
        whole = (c.whole.0, c.whole.1, l);
        long = l ∙ sym c.whole.2 ∙ c.long;
        there = next;
      }

  pub encoding_end : m ≤ k → s ≡ bytes_of n (worked n columns (completed code n) m (frame_of n s₀))
  encoding_end h =
      let e : k ≡ m = omega (arith, c.turns.0) in
      c.there ∙ ap (λ i. bytes_of n (worked n columns (completed code n) i (frame_of n s₀))) e

-- ---- rows, then columns

pub partly_row : (n : ℕ) (rule : Word → Word) (k : ℕ) (f : Frame) (i : ℕ) → i < k → i < n → row (partly n rule k f) i ≡ rule (row f i)
unfolding partly
partly_row n rule k f i h hn =
    row_tab n (λ i. cond (ltb i k) (rule (row f i)) (row f i)) i hn
    ∙ ap (λ b. cond b (rule (row f i)) (row f i)) (lt-ltb i k h)

module _ (m n : ℕ) (f : Frame) where
  -- the data of a row
  cornered_data : Square m f → (i : ℕ) → i < m → m ≤ n → take m (row (cornered m n f) i) ≡ row f i
  unfolding cornered
  cornered_data s i h l =
      ap (take m) (row_tab n (λ i. tab n (λ j. ltb i m && (ltb j m && cell f i j))) i (omega arith))
      ∙ take-tab m n (λ j. ltb i m && (ltb j m && cell f i j)) l
      ∙ word_ext m (tab m (λ j. ltb i m && (ltb j m && cell f i j))) (row f i)
      (tab-length m (λ j. ltb i m && (ltb j m && cell f i j))) (s.1 i h)
      (λ j hj. bit_tab m (λ j. ltb i m && (ltb j m && cell f i j)) j hj ∙ rw (lt-ltb i m h, lt-ltb j m hj))

module _ (code : Code) (n : ℕ) (d : Frame) (from : code.shortest ≤ n) (s : Square (data_bits code n) d) where
  rows : Frame
  rows = worked n false (completed code n) (data_bits code n) (cornered (data_bits code n) n d)

  -- after the rows
  rows_row : (i : ℕ) → i < data_bits code n → row rows i ≡ encode_word code (row d i)
  unfolding rows turned
  rows_row i h =
      partly_row n (completed code n) (data_bits code n) (cornered (data_bits code n) n d) i h (omega arith)
      ∙ ap (encode_word code) (cornered_data (data_bits code n) n d s i h (omega arith))

  -- the data of a column
  column_data : (j : ℕ) → j < n → take (data_bits code n) (row (transposed n rows) j) ≡ tab (data_bits code n) (λ i. bit (encode_word code (row d i)) j)
  column_data j h =
      ap (take (data_bits code n)) (transposed_row n rows j h)
      ∙ take-tab (data_bits code n) n (λ i. cell rows i j) (omega arith)
      ∙ tab_ext (data_bits code n) (λ i. cell rows i j) (λ i. bit (encode_word code (row d i)) j)
      (λ i hi. ap (λ (w : Word). bit w j) (rows_row i hi))

  pub rows_columns :
      worked n true (completed code n) n (worked n false (completed code n) (data_bits code n) (cornered (data_bits code n) n d)) ≡ rows_first code n d
  unfolding rows turned partly rows_first
  rows_columns =
      ap (transposed n)
      (tab_ext n
      (λ j. cond (ltb j n) (completed code n (row (transposed n rows) j)) (row (transposed n rows) j))
      (λ j. encode_word code (tab (data_bits code n) (λ i. bit (encode_word code (row d i)) j)))
      (λ j h.
      ap (λ b. cond b (completed code n (row (transposed n rows) j)) (row (transposed n rows) j)) (lt-ltb j n h)
      ∙ ap (encode_word code) (column_data j h)))

-- ---- the buffers on the way

module _ (code : Code) (ok : Sound code)
    (n : ℕ) (d : Frame) (t : List ℕ) (lo : code.shortest ≤ n) (hi : n ≤ code.longest) (s : Square (data_bits code n) d)
    (e : t ≡ bytes_of n (cornered (data_bits code n) n d)) where
  pub corner_ready : Ready code n t
  corner_ready = ready code n (cornered (data_bits code n) n d) t lo hi (cornered_square (data_bits code n) n d) e

  -- after the rows
  module _ (t' : List ℕ) (e' : t' ≡ bytes_of n (worked n false (completed code n) (data_bits code n) (frame_of n t))) where
    rows_square : Square n (worked n false (completed code n) (data_bits code n) (frame_of n t))
    rows_square = worked_square n false (completed code n) (data_bits code n) (frame_of n t) (completed_keeps code ok n lo) (frame_of-square n t)

    pub rows_ready : Ready code n t'
    rows_ready = ready code n (worked n false (completed code n) (data_bits code n) (frame_of n t)) t' lo hi rows_square e'

    -- and after the columns
    pub encoded :
        (t'' : List ℕ) → t'' ≡ bytes_of n (worked n true (completed code n) n (frame_of n t')) → t'' ≡ bytes_of n (rows_first code n d)
    encoded t'' e'' =
        let p : frame_of n t' ≡ worked n false (completed code n) (data_bits code n) (cornered (data_bits code n) n d) =
        ap (frame_of n) e' ∙ frame_of_bytes n (worked n false (completed code n) (data_bits code n) (frame_of n t)) rows_square
        ∙ ap (worked n false (completed code n) (data_bits code n))
        (ap (frame_of n) e ∙ frame_of_bytes n (cornered (data_bits code n) n d) (cornered_square (data_bits code n) n d)) in
        e'' ∙ ap (λ f. bytes_of n (worked n true (completed code n) n f)) p ∙ ap (bytes_of n) (rows_columns code n d lo s)

-- ---- the entry point

abbrev pub EncodedAs : Code → ℕ → List ℕ → List ℕ → ℕ → List ℕ → Type 0
EncodedAs code n input output r t = (r ≡ encode_number code n input output) × (t ≡ encode_output code n input output)

module _ (code : Code) (n : ℕ) (input output : List ℕ) where
  pub encode_refuses : (k : ℕ) → k ≢ 0 → k ≡ encode_number code n input output → EncodedAs code n input output k output
  encode_refuses k some e = (e, sym (encode_refused code n input output (λ z. some (e ∙ z))))

  pub encode_takes :
      {t : List ℕ} → 0 ≡ encode_number code n input output → t ≡ bytes_of n (frame_for code n input) → EncodedAs code n input output 0 t
  unfolding encode_output
  encode_takes z e = (z, e ∙ sym (at_zero (encode_number code n input output) (bytes_of n (frame_for code n input)) output (sym z)))
