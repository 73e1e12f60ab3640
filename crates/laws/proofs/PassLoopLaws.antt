-- A pass made word by word is the pass, the flips summed over its words are the frame's differences, and each step of the loop over
-- passes is a step of the rules' own passes.
-- Assumes nothing.
use mathlib.Core.Path.{◌≡◌, refl, sym, ap, ◌∙◌}
use mathlib.Core.Bool.{Bool, true, false, not, cond}
use Prim.Native.Nat.{ℕ, zero, suc, ◌%◌}
use native.Mathlib.Omega.{arith}
use borrow.Author.Tests.{lt-ltb, eq-eqb, ne_eqb}
use lib.Dec.{ltb}
use Rattle.algebra.specs.Tables.{total}
use Rattle.algebra.specs.Remainder.{is_odd}
use Rattle.algebra.proofs.TableLaws.{tab_ext}
use Rattle.rules.specs.Codes.{Code}
use Rattle.rules.specs.Words.{mend}
use Rattle.rules.specs.Frames.{Frame, row, transposed, Square}
use Rattle.rules.specs.Passes.{pass_rows, pass_columns, pass, differences}
use Rattle.rules.proofs.Laws.PassLaws.{mend-length}
use Rattle.rules.proofs.Laws.FlipLaws.{flips_of, rows_flips, columns_flips}
use Rattle.laws.specs.Turns.{turned, partly, worked}
use Rattle.laws.proofs.TurnLaws.{Keeps}

-- ---- a pass made word by word

pub mend_keeps : (code : Code) (n : ℕ) → Keeps n (mend code n)
mend_keeps code n w l = mend-length code n w ∙ l

partly_all : (code : Code) (n : ℕ) (f : Frame) → partly n (mend code n) n f ≡ pass_rows code n f
unfolding partly pass_rows
partly_all code n f =
    tab_ext n (λ i. cond (ltb i n) (mend code n (row f i)) (row f i)) (λ i. mend code n (row f i)) (λ i h. rw (lt-ltb i n h))

odd_next : (made : ℕ) → is_odd (suc made) ≡ not (is_odd made)
odd_next made = go (made % 2) refl
  where
    go : (r : ℕ) → made % 2 ≡ r → is_odd (suc made) ≡ not (is_odd made)
    go zero e = eq-eqb (suc made % 2) 1 (omega arith) ∙ ap not (sym (ne_eqb (made % 2) 1 (λ q. omega arith)))
    go (suc r) e = ne_eqb (suc made % 2) 1 (λ q. omega arith) ∙ ap not (sym (eq-eqb (made % 2) 1 (omega arith)))

-- rows in passes 1, 3, .., columns in passes 2, 4, ..
pub pass_worked : (code : Code) (n made : ℕ) (f : Frame) → worked n (is_odd made) (mend code n) n f ≡ pass code n (suc made) f
unfolding turned pass pass_columns
pass_worked code n made f = go (is_odd made) (is_odd (suc made)) (odd_next made)
  where
    go :
        (b c : Bool) → c ≡ not b
        → cond b (transposed n (partly n (mend code n) n (cond b (transposed n f) f))) (partly n (mend code n) n (cond b (transposed n f) f))
        ≡ cond c (pass_rows code n f) (transposed n (pass_rows code n (transposed n f)))
    go true c e = ap (transposed n) (partly_all code n (transposed n f)) ∙ rw e
    go false c e = partly_all code n f ∙ rw e

-- ---- the flips of a pass

pub pass_flips :
    (code : Code) (n made : ℕ) (f : Frame) → Square n f
    → total n (flips_of code n (turned n (is_odd made) f)) ≡ differences n f (pass code n (suc made) f)
unfolding turned pass
pass_flips code n made f s = go (is_odd made) (is_odd (suc made)) (odd_next made)
  where
    go :
        (b c : Bool) → c ≡ not b
        → total n (flips_of code n (cond b (transposed n f) f)) ≡ differences n f (cond c (pass_rows code n f) (pass_columns code n f))
    go true c e = columns_flips code n f s ∙ rw e
    go false c e = rows_flips code n f ∙ rw e
