-- RULES 5: the passes.
use Rattle.std.specs.Prelude.{Bool, true, false, cond, ◌&&◌, ℕ, zero, suc, eqb, leb}
use Rattle.algebra.specs.Tables.{tab, total}
use Rattle.algebra.specs.Words.{differ}
use Rattle.algebra.specs.Remainder.{is_odd}
use Rattle.rules.specs.Codes.{Code}
use Rattle.rules.specs.Words.{mend}
use Rattle.rules.specs.Frames.{Frame, row, transposed, bad_rows, bad_columns, is_frame}

-- every row mended by itself, and every column
unfoldable pub pass_rows : Code → ℕ → Frame → Frame
pass_rows code n f = tab n (λ i. mend code n (row f i))

unfoldable pub pass_columns : Code → ℕ → Frame → Frame
pass_columns code n f = transposed n (pass_rows code n (transposed n f))

-- pass p: rows if p is odd, columns if it is even
unfoldable pub pass : Code → ℕ → ℕ → Frame → Frame
pass code n p f = cond (is_odd p) (pass_rows code n f) (pass_columns code n f)

-- in how many code bits two frames differ
unfoldable pub differences : ℕ → Frame → Frame → ℕ
differences n f h = total n (λ i. differ (row f i) (row h i))

-- the ending before any pass, and the three after one
pub data Ending : Type 0 where
  clean repaired stuck spent : Ending

-- the ending, the passes made, the count of bits, the rows and columns that are left as no codewords, and the frame after the last pass
pub record Outcome : Type 0 where
  pub ending : Ending
  pub passes : ℕ
  pub bits : ℕ
  pub rows : ℕ
  pub columns : ℕ
  pub last : Frame

-- clean and repaired: no row and no column is left so
abbrev pub good : Ending → ℕ → ℕ → Frame → Outcome
good e passes bits f = record { ending = e; passes = passes; bits = bits; rows = 0; columns = 0; last = f }

-- stuck and spent
abbrev pub bad : Code → Ending → ℕ → ℕ → ℕ → Frame → Outcome
bad code e passes bits n f =
    record { ending = e; passes = passes; bits = bits; rows = bad_rows code n f; columns = bad_columns code n f; last = f }

-- pass p flipped nothing, and is not the first
abbrev pub is_stuck : ℕ → ℕ → Bool
is_stuck p changes = leb 2 p && eqb changes 0

-- the count: in how many code bits the last frame differs from the received one
abbrev pub counted : ℕ → Frame → Frame → ℕ
counted n received last = differences n received last

-- the passes after the first `made`, with `left` of the allowance left: repaired is tested first, then stuck, then spent
unfoldable pub passes_from : Code → ℕ → Frame → ℕ → ℕ → Frame → Outcome
passes_from code n received zero made f = bad code spent made (counted n received f) n f
passes_from code n received (suc left) made f =
    let h : Frame = pass code n (suc made) f in
    elim (is_frame code n h) [
      | true ↦ good repaired (suc made) (counted n received h) h
      | false ↦ elim (is_stuck (suc made) (differences n f h)) [
        | true ↦ bad code stuck (suc made) (counted n received h) n h
        | false ↦ passes_from code n received left (suc made) h
      ]
    ]

-- clean if it is a frame as received, else what the passes come to
unfoldable pub decoded : Code → ℕ → ℕ → Frame → Outcome
decoded code n allowance f = elim (is_frame code n f) [ true ↦ good clean 0 0 f | false ↦ passes_from code n f allowance 0 f ]
