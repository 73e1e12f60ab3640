-- In how many bits two frames differ: none from itself, as many either way round, no more than there are, no more than by way of
-- a third, and column by column as many as row by row.
-- Assumes nothing.
use mathlib.Core.Path.{◌≡◌, sym, ap₂, ◌∙◌}
use mathlib.Core.Bool.{xor}
use Prim.Native.Nat.{ℕ, ◌+◌, ◌*◌, ◌≤◌}
use Rattle.algebra.specs.Tables.{num, total}
use Rattle.algebra.specs.Words.{differ}
use Rattle.algebra.proofs.TableLaws.{total_most, total_ext, total-add, zero-total, total_swap}
use Rattle.algebra.proofs.WordLaws.{differ_self, differ_comm, differ_bits, differ_most, differ_way}
use Rattle.rules.specs.Frames.{Frame, row, cell, transposed, Square}
use Rattle.rules.specs.Passes.{differences}
use Rattle.rules.proofs.Laws.Shape.{transposed_square, transposed_cell}

pub differences_self : (n : ℕ) (f : Frame) → differences n f f ≡ 0
unfolding differences
differences_self n f = zero-total n (λ i. differ (row f i) (row f i)) (λ i l. differ_self (row f i))

pub differences_comm : (n : ℕ) (f h : Frame) → differences n f h ≡ differences n h f
unfolding differences
differences_comm n f h =
    total_ext n (λ i. differ (row f i) (row h i)) (λ i. differ (row h i) (row f i)) (λ i l. differ_comm (row f i) (row h i))

pub differences_most : (n : ℕ) (f h : Frame) → Square n f → Square n h → differences n f h ≤ n * n
unfolding differences
differences_most n f h sf sh =
    total_most n n (λ i. differ (row f i) (row h i)) (λ i l. differ_most n (row f i) (row h i) (sf.1 i l) (sh.1 i l))

pub differences_way :
    (n : ℕ) (f g h : Frame) → Square n f → Square n g → Square n h → differences n f h ≤ differences n f g + differences n g h
unfolding differences
differences_way n f g h sf sg sh =
    total-add n (λ i. differ (row f i) (row h i)) (λ i. differ (row f i) (row g i)) (λ i. differ (row g i) (row h i))
    (λ i l. differ_way n (row f i) (row g i) (row h i) (sf.1 i l) (sg.1 i l) (sh.1 i l))

-- frames differ in as many bits column by column as row by row
pub differences_turned :
    (n : ℕ) (f h : Frame) → Square n f → Square n h → differences n f h ≡ differences n (transposed n f) (transposed n h)
unfolding differences
differences_turned n f h sf sh =
    total_ext n (λ i. differ (row f i) (row h i)) (λ i. total n (λ j. c i j))
    (λ i l. differ_bits n (row f i) (row h i) (sf.1 i l) (sh.1 i l))
    ∙ total_swap n n c
    ∙ total_ext n (λ j. total n (λ i. c i j)) (λ j. differ (row (transposed n f) j) (row (transposed n h) j))
    (λ j l. sym (
    differ_bits n (row (transposed n f) j) (row (transposed n h) j) ((transposed_square n f).1 j l) ((transposed_square n h).1 j l)
    ∙ total_ext n (λ i. num (xor (cell (transposed n f) j i) (cell (transposed n h) j i))) (λ i. c i j)
    (λ i k. ap₂ (λ a b. num (xor a b)) (transposed_cell n f j i l k) (transposed_cell n h j i l k))
    ))
  where
    c : ℕ → ℕ → ℕ
    c i j = num (xor (cell f i j) (cell h i j))
