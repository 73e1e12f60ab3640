-- A frame of codewords, row by row and column by column.
-- Assumes nothing.
use mathlib.Core.Path.{◌≡◌, ap, ap₂}
use mathlib.Core.Bool.{true, not}
use Prim.Native.Nat.{ℕ, ◌+◌, ◌<◌}
use native.Mathlib.Omega.{arith}
use borrow.Author.Tests.{eqb-true, eq-eqb, not-false}
use Rattle.algebra.proofs.TableLaws.{count-zero, zero-count}
use Rattle.rules.specs.Codes.{Code}
use Rattle.rules.specs.Words.{is_codeword}
use Rattle.rules.specs.Frames.{Frame, row, transposed, bad_rows, bad_columns, is_frame}
use Rattle.rules.proofs.Laws.Shape.{Square, transposed_twice}

-- every row is a codeword
abbrev pub Rows : Code → ℕ → Frame → Type 0
Rows code n f = (i : ℕ) → i < n → is_codeword code n (row f i) ≡ true

rows_none : (code : Code) (n : ℕ) (f : Frame) → bad_rows code n f ≡ 0 → Rows code n f
unfolding bad_rows
rows_none code n f h i hi = not-false (is_codeword code n (row f i)) (count-zero n (λ i. not (is_codeword code n (row f i))) h i hi)

none_rows : (code : Code) (n : ℕ) (f : Frame) → Rows code n f → bad_rows code n f ≡ 0
unfolding bad_rows
none_rows code n f h = zero-count n (λ i. not (is_codeword code n (row f i))) (λ i hi. ap not (h i hi))

-- all rows and all columns are codewords
pub frame_rows : (code : Code) (n : ℕ) (f : Frame) → is_frame code n f ≡ true → Rows code n f
unfolding is_frame
frame_rows code n f h = rows_none code n f (let e = eqb-true (bad_rows code n f + bad_columns code n f) 0 h in omega arith)

pub frame_columns : (code : Code) (n : ℕ) (f : Frame) → is_frame code n f ≡ true → Rows code n (transposed n f)
unfolding is_frame bad_columns
frame_columns code n f h = rows_none code n (transposed n f) (let e = eqb-true (bad_rows code n f + bad_columns code n f) 0 h in omega arith)

pub rows_columns_frame : (code : Code) (n : ℕ) (f : Frame) → Rows code n f → Rows code n (transposed n f) → is_frame code n f ≡ true
unfolding is_frame bad_columns
rows_columns_frame code n f hr hc =
    eq-eqb (bad_rows code n f + bad_rows code n (transposed n f)) 0 (ap₂ ◌+◌ (none_rows code n f hr) (none_rows code n (transposed n f) hc))

-- rows and columns changed over
pub frame_transposed : (code : Code) (n : ℕ) (f : Frame) → Square n f → is_frame code n f ≡ true → is_frame code n (transposed n f) ≡ true
frame_transposed code n f s h =
    rows_columns_frame code n (transposed n f) (frame_columns code n f h) (rw (transposed_twice n f s) (frame_rows code n f h))
