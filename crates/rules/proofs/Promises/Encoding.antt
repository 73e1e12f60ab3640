-- RULES 3: data has exactly one frame, and encoding gives it, rows first or columns first.
-- Assumes nothing.
use mathlib.Core.Path.{◌≡◌, refl, sym, ap, ◌∙◌}
use mathlib.Core.Bool.{true}
use Prim.Native.Nat.{ℕ, ◌≤◌, ◌<◌}
use native.Mathlib.Omega.{arith}
use lib.ListN.{length}
use Rattle.algebra.specs.Tables.{tab}
use Rattle.algebra.specs.Words.{Word, bit}
use Rattle.algebra.proofs.TableLaws.{tab-length}
use Rattle.rules.specs.Codes.{Code, data_bits}
use Rattle.rules.specs.Words.{encode_word}
use Rattle.rules.specs.Frames.{Frame, row, cell, transposed, is_frame, corner, rows_first, columns_first}
use Rattle.rules.proofs.Laws.CodeLaws.{Sound}
use Rattle.rules.proofs.Laws.Shape.{Square, word_ext, square_ext, bit_tab, row_tab, transposed_square, transposed_cell, transposed_twice, corner_square, corner_cell}
use Rattle.rules.proofs.Laws.FrameLaws.{Rows, frame_rows, frame_columns, rows_columns_frame, frame_transposed}
use Rattle.rules.proofs.Laws.EncodeWordLaws.{encode-length, encode_data, encode_codeword, codeword_unique}
use Rattle.rules.proofs.Laws.ProductLaws.{rows_carry}

-- what encoding the data d to n rows of n bits gives
pub record Encoded (code : Code) (n : ℕ) (d : Frame) : Type 0 where
  pub square : Square n (rows_first code n d)
  -- all its rows and columns are codewords
  pub frame : is_frame code n (rows_first code n d) ≡ true
  -- the data stand in its upper left corner
  pub holds : corner (data_bits code n) (rows_first code n d) ≡ d
  -- the columns may as well be encoded first
  pub order : columns_first code n d ≡ rows_first code n d
  -- no other frame holds this data
  pub only : (f : Frame) → Square n f → is_frame code n f ≡ true → corner (data_bits code n) f ≡ d → f ≡ rows_first code n d

abbrev pub EncodingPromise : Code → Type 0
EncodingPromise code = (n : ℕ) (d : Frame) → code.shortest ≤ n → Square (data_bits code n) d → Encoded code n d

-- ---- a frame is determined by its data

-- rows that are codewords, and agree in their first k bits
rows_unique :
    (code : Code) (ok : Sound code) (n : ℕ) (f h : Frame) → code.shortest ≤ n → Square n f → Square n h → Rows code n f → Rows code n h
    → ((i j : ℕ) → i < n → j < data_bits code n → cell f i j ≡ cell h i j) → f ≡ h
rows_unique code ok n f h le sf sh rf rh e =
    square_ext n f h sf sh
    (λ i j hi hj.
    ap (λ (w : Word). bit w j)
    (codeword_unique code ok n (row f i) (row h i) le (sf.1 i hi) (sh.1 i hi) (rf i hi) (rh i hi) (λ j hj. e i j hi hj)))

pub frame_unique :
    (code : Code) (ok : Sound code) (n : ℕ) (f h : Frame) → code.shortest ≤ n → Square n f → Square n h → is_frame code n f ≡ true → is_frame code n h ≡ true
    → corner (data_bits code n) f ≡ corner (data_bits code n) h → f ≡ h
frame_unique code ok n f h le sf sh ff fh e =
    sym (transposed_twice n f sf)
    ∙ ap (transposed n)
    (rows_unique code ok n (transposed n f) (transposed n h) le (transposed_square n f) (transposed_square n h) (frame_columns code n f ff) (frame_columns code n h fh) upper)
    ∙ transposed_twice n h sh
  where
    data_cell : (i j : ℕ) → i < data_bits code n → j < data_bits code n → cell f i j ≡ cell h i j
    data_cell i j hi hj =
        sym (corner_cell (data_bits code n) f i j hi hj) ∙ ap (λ (x : Frame). cell x i j) e ∙ corner_cell (data_bits code n) h i j hi hj

    -- the first k rows agree
    upper : (j i : ℕ) → j < n → i < data_bits code n → cell (transposed n f) j i ≡ cell (transposed n h) j i
    upper j i hj hi =
        let hn : i < n = omega arith in
        transposed_cell n f j i hj hn
        ∙ ap (λ (w : Word). bit w j)
        (codeword_unique code ok n (row f i) (row h i) le (sf.1 i hn) (sh.1 i hn) (frame_rows code n f ff i hn) (frame_rows code n h fh i hn)
        (λ j hj. data_cell i j hi hj))
        ∙ sym (transposed_cell n h j i hj hn)

-- ---- rows first

module _ (code : Code) (ok : Sound code) (n : ℕ) (d : Frame) (le : code.shortest ≤ n) (s : Square (data_bits code n) d) where
  -- the data of column j: bit j of each encoded row
  above : ℕ → Word
  above j = tab (data_bits code n) (λ i. bit (encode_word code (row d i)) j)

  columns : Frame
  columns = tab n (λ j. encode_word code (above j))

  above_length : (j : ℕ) → length (above j) ≡ data_bits code n
  unfolding above
  above_length j = tab-length (data_bits code n) (λ i. bit (encode_word code (row d i)) j)

  columns_row : (j : ℕ) → j < n → row columns j ≡ encode_word code (above j)
  unfolding columns
  columns_row j hj = row_tab n (λ j. encode_word code (above j)) j hj

  columns_square : Square n columns
  unfolding columns
  columns_square = (
    tab-length n (λ j. encode_word code (above j)),
    λ j hj. ap length (columns_row j hj) ∙ encode-length code ok n (above j) le (above_length j),
  )

  rows_first_is : rows_first code n d ≡ transposed n columns
  unfolding rows_first columns above
  rows_first_is = refl

  rows_first-square : Square n (rows_first code n d)
  rows_first-square = rw rows_first_is (transposed_square n columns)

  columns_codewords : Rows code n (transposed n (rows_first code n d))
  columns_codewords j hj =
      rw (rows_first_is, transposed_twice n columns columns_square, columns_row j hj) (encode_codeword code ok n (above j) le (above_length j))

  row-length : (i : ℕ) → i < data_bits code n → length (encode_word code (row d i)) ≡ n
  row-length i hi = encode-length code ok n (row d i) le (s.1 i hi)

  -- encoding the columns leaves the first k rows as they were
  upper_row : (i : ℕ) → i < data_bits code n → row (rows_first code n d) i ≡ encode_word code (row d i)
  unfolding above
  upper_row i hi =
      let hn : i < n = omega arith in
      word_ext n (row (rows_first code n d) i) (encode_word code (row d i)) (rows_first-square.1 i hn) (row-length i hi)
      (λ j hj.
      ap (λ (f : Frame). cell f i j) rows_first_is ∙ transposed_cell n columns i j hn hj
      ∙ ap (λ (w : Word). bit w i) (columns_row j hj)
      ∙ encode_data code (above j) i (omega (arith, above_length j))
      ∙ bit_tab (data_bits code n) (λ i. bit (encode_word code (row d i)) j) i hi)

  rows_first_frame : is_frame code n (rows_first code n d) ≡ true
  rows_first_frame =
      rows_columns_frame code n (rows_first code n d)
      (rows_carry code ok n (rows_first code n d) le rows_first-square columns_codewords
      (λ i hi. rw (upper_row i hi) (encode_codeword code ok n (row d i) le (s.1 i hi))))
      columns_codewords

  rows_first_holds : corner (data_bits code n) (rows_first code n d) ≡ d
  rows_first_holds =
      square_ext (data_bits code n) (corner (data_bits code n) (rows_first code n d)) d (corner_square (data_bits code n) (rows_first code n d)) s
      (λ i j hi hj.
      corner_cell (data_bits code n) (rows_first code n d) i j hi hj ∙ ap (λ (w : Word). bit w j) (upper_row i hi)
      ∙ encode_data code (row d i) j (omega (arith, s.1 i hi)))

  rows_first_only : (f : Frame) → Square n f → is_frame code n f ≡ true → corner (data_bits code n) f ≡ d → f ≡ rows_first code n d
  rows_first_only f sf ff e = frame_unique code ok n f (rows_first code n d) le sf rows_first-square ff rows_first_frame (e ∙ sym rows_first_holds)

-- a frame transposed holds its data transposed
corner_transposed :
    (code : Code) (n : ℕ) (f d : Frame) → Square (data_bits code n) d → corner (data_bits code n) f ≡ transposed (data_bits code n) d
    → corner (data_bits code n) (transposed n f) ≡ d
corner_transposed code n f d s e =
    square_ext (data_bits code n) (corner (data_bits code n) (transposed n f)) d (corner_square (data_bits code n) (transposed n f)) s
    (λ i j hi hj.
    corner_cell (data_bits code n) (transposed n f) i j hi hj ∙ transposed_cell n f i j (omega arith) (omega arith)
    ∙ sym (corner_cell (data_bits code n) f j i hj hi) ∙ ap (λ (x : Frame). cell x j i) e ∙ transposed_cell (data_bits code n) d j i hj hi)

columns_order : (code : Code) (ok : Sound code) (n : ℕ) (d : Frame) → code.shortest ≤ n → Square (data_bits code n) d → columns_first code n d ≡ rows_first code n d
unfolding columns_first
columns_order code ok n d le s =
    let t : Frame = transposed (data_bits code n) d in
    let st : Square (data_bits code n) t = transposed_square (data_bits code n) d in
    let f : Frame = rows_first code n t in
    rows_first_only code ok n d le s (transposed n f) (transposed_square n f)
    (frame_transposed code n f (rows_first-square code ok n t le st) (rows_first_frame code ok n t le st))
    (corner_transposed code n f d s (rows_first_holds code ok n t le st))

pub encoding : (code : Code) (ok : Sound code) → EncodingPromise code
encoding code ok n d le s = record {
  square = rows_first-square code ok n d le s;
  frame = rows_first_frame code ok n d le s;
  holds = rows_first_holds code ok n d le s;
  order = columns_order code ok n d le s;
  only = rows_first_only code ok n d le s;
}
