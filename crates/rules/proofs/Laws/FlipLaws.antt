-- The bits that a pass changes, word by word: by columns as by rows.
-- Assumes nothing.
use mathlib.Core.Path.{◌≡◌, sym, ap, ◌∙◌}
use Prim.Native.Nat.{ℕ}
use Rattle.algebra.specs.Tables.{total}
use Rattle.algebra.specs.Words.{differ}
use Rattle.algebra.proofs.TableLaws.{total_ext}
use Rattle.rules.specs.Codes.{Code}
use Rattle.rules.specs.Words.{mend}
use Rattle.rules.specs.Frames.{Frame, row, transposed, Square}
use Rattle.rules.specs.Passes.{pass_rows, pass_columns, differences}
use Rattle.rules.proofs.Laws.Shape.{transposed_square, transposed_twice}
use Rattle.rules.proofs.Laws.PassLaws.{pass_rows-row, pass_rows-square, pass_columns-square}
use Rattle.rules.proofs.Laws.DifferenceLaws.{differences_turned}

-- the bits that mending changes in word i of a frame
abbrev pub flips_of : Code → ℕ → Frame → ℕ → ℕ
flips_of code n g i = differ (row g i) (mend code n (row g i))

pub rows_flips : (code : Code) (n : ℕ) (f : Frame) → total n (flips_of code n f) ≡ differences n f (pass_rows code n f)
unfolding differences
rows_flips code n f =
    total_ext n (flips_of code n f) (λ i. differ (row f i) (row (pass_rows code n f) i))
    (λ i h. ap (differ (row f i)) (sym (pass_rows-row code n f i h)))

pub columns_flips : (code : Code) (n : ℕ) (f : Frame) → Square n f → total n (flips_of code n (transposed n f)) ≡ differences n f (pass_columns code n f)
unfolding pass_columns
columns_flips code n f s =
    rows_flips code n (transposed n f)
    ∙ ap (differences n (transposed n f)) (sym (transposed_twice n (pass_rows code n (transposed n f)) (pass_rows-square code n (transposed n f) (transposed_square n f))))
    ∙ sym (differences_turned n f (pass_columns code n f) s (pass_columns-square code n f))
