-- A square that reads as erased: by its bits, by its rows and columns, and by its data.
-- Assumes nothing.
use mathlib.Core.Path.{◌≡◌, refl, sym, ap, ◌∙◌}
use mathlib.Core.Logic.{◌↔◌}
use mathlib.Core.Bool.{Bool, true, false, true≢false}
use Prim.Native.Nat.{ℕ, ◌≤◌, ◌<◌}
use native.Mathlib.Omega.{arith}
use Rattle.algebra.specs.Tables.{tab, all_below}
use Rattle.algebra.specs.Words.{Word}
use Rattle.algebra.proofs.TableLaws.{tab-length, below_each}
use Rattle.rules.specs.Codes.{Code}
use Rattle.rules.specs.Words.{is_codeword}
use Rattle.rules.specs.Frames.{Frame, Square, row, cell, transposed, is_frame, is_erased, corner}
use Rattle.rules.proofs.Laws.Shape.{word_ext, square_ext, square_tab, bit_tab, row_tab, cell_tab, transposed_square, transposed_cell, corner_cell}
use Rattle.rules.proofs.Laws.FrameLaws.{Rows, frame_rows, frame_columns, rows_columns_frame}

-- a word of n ones, and a square of them
unfoldable pub ones_word : ℕ → Word
ones_word n = tab n (λ j. true)

unfoldable pub ones_square : ℕ → Frame
ones_square n = tab n (λ i. ones_word n)

-- a one in every place
abbrev pub AllOnes : ℕ → Frame → Type 0
AllOnes n f = (i j : ℕ) → i < n → j < n → cell f i j ≡ true

pub erased_ones : (n : ℕ) (f : Frame) → (is_erased n f ≡ true) ↔ AllOnes n f
unfolding is_erased
erased_ones n f = (
  λ h i j l m. (below_each n (λ j. cell f i j)).0 ((below_each n (λ i. all_below n (λ j. cell f i j))).0 h i l) j m,
  λ h. (below_each n (λ i. all_below n (λ j. cell f i j))).1 (λ i l. (below_each n (λ j. cell f i j)).1 (λ j m. h i j l m)),
)

pub not_erased : (n : ℕ) (f : Frame) → ¬ AllOnes n f → is_erased n f ≡ false
not_erased n f h = go (is_erased n f) refl
  where
    go : (b : Bool) → is_erased n f ≡ b → is_erased n f ≡ false
    go true e = absurd (h ((erased_ones n f).0 e))
    go false e = e

pub not_ones : (n : ℕ) (f : Frame) → is_erased n f ≡ false → ¬ AllOnes n f
not_ones n f h k = true≢false (sym ((erased_ones n f).1 k) ∙ h)

-- ---- the square of ones

pub ones_square_lem : (n : ℕ) → Square n (ones_square n)
unfolding ones_square ones_word
ones_square_lem n = square_tab n (λ i j. true)

pub ones_cells : (n : ℕ) → AllOnes n (ones_square n)
unfolding ones_square ones_word
ones_cells n i j l m = cell_tab n (λ i j. true) i j l m

-- there is no other
pub ones_only : (n : ℕ) (f : Frame) → Square n f → AllOnes n f → f ≡ ones_square n
ones_only n f s h = square_ext n f (ones_square n) s (ones_square_lem n) (λ i j l m. h i j l m ∙ sym (ones_cells n i j l m))

ones_row : (n : ℕ) (i : ℕ) → i < n → row (ones_square n) i ≡ ones_word n
unfolding ones_square
ones_row n i l = row_tab n (λ i. ones_word n) i l

ones_turned : (n : ℕ) → transposed n (ones_square n) ≡ ones_square n
ones_turned n =
    ones_only n (transposed n (ones_square n)) (transposed_square n (ones_square n))
    (λ i j l m. transposed_cell n (ones_square n) i j l m ∙ ones_cells n j i m l)

-- it is a frame where its rows are codewords
pub ones_frame : (code : Code) (n : ℕ) → is_codeword code n (ones_word n) ≡ true → is_frame code n (ones_square n) ≡ true
ones_frame code n h =
    let rows : Rows code n (ones_square n) = λ i l. ap (is_codeword code n) (ones_row n i l) ∙ h in
    rows_columns_frame code n (ones_square n) rows (rw (ones_turned n) rows)

-- a row of ones
pub row_ones : (n : ℕ) (f : Frame) (i : ℕ) → i < n → Square n f → ((j : ℕ) → j < n → cell f i j ≡ true) → row f i ≡ ones_word n
unfolding ones_word
row_ones n f i l s h =
    word_ext n (row f i) (tab n (λ j. true)) (s.1 i l) (tab-length n (λ j. true)) (λ j m. h j m ∙ sym (bit_tab n (λ j. true) j m))

-- a row, or a column, that a frame has in common with it makes the word of ones a codeword
pub ones_of_row :
    (code : Code) (n : ℕ) (f r : Frame) → is_frame code n f ≡ true → Square n r → AllOnes n r → (i : ℕ) → i < n → row f i ≡ row r i
    → is_codeword code n (ones_word n) ≡ true
ones_of_row code n f r k s all i l e =
    ap (is_codeword code n) (sym (e ∙ row_ones n r i l s (λ j m. all i j l m))) ∙ frame_rows code n f k i l

pub ones_of_column :
    (code : Code) (n : ℕ) (f r : Frame) → is_frame code n f ≡ true → AllOnes n r → (j : ℕ) → j < n
    → row (transposed n f) j ≡ row (transposed n r) j → is_codeword code n (ones_word n) ≡ true
ones_of_column code n f r k all j l e =
    ap (is_codeword code n)
    (sym (e ∙ row_ones n (transposed n r) j l (transposed_square n r) (λ i m. transposed_cell n r j i l m ∙ all i j m l)))
    ∙ frame_columns code n f k j l

-- its corner is one too
pub corner_ones : (k n : ℕ) (f : Frame) → k ≤ n → AllOnes n f → AllOnes k (corner k f)
corner_ones k n f le h i j l m = corner_cell k f i j l m ∙ h i j (omega arith) (omega arith)
