-- RULES 5: how large the counts of an outcome can be: a word flips as many bits as its answer names places, a pass at most the radius
-- for each word, and the last frame differs from the received one in no more bits than all passes flipped, or than a frame has.
-- Assumes nothing.
use mathlib.Core.Path.{◌≡◌, sym, ap, ◌∙◌}
use mathlib.Core.Bool.{Bool, true, false, not, cond}
use mathlib.Core.List.{List}
use mathlib.Core.Option.{Option, some, none}
use Prim.Native.Nat.{ℕ, zero, suc, ◌*◌, ◌≤◌}
use native.Mathlib.Nat.{zero-add, mul-suc}
use native.Mathlib.Omega.{arith}
use lib.ListN.{length}
use Rattle.algebra.specs.Tables.{ones, total}
use Rattle.algebra.specs.Words.{Word, differ}
use Rattle.algebra.specs.Remainder.{is_odd}
use Rattle.algebra.proofs.TableLaws.{total_most, count_most}
use Rattle.algebra.proofs.WordLaws.{⊻_cancel}
use Rattle.rules.specs.Codes.{Code, radius}
use Rattle.rules.specs.Words.{is_codeword, answer, places, changed, mend}
use Rattle.rules.specs.Frames.{Frame, Square, row, transposed, bad_rows, bad_columns}
use Rattle.rules.specs.Passes.{pass_rows, pass_columns, differences, Ending, clean, repaired, stuck, spent, Outcome, decoded}
use Rattle.rules.proofs.Laws.Shape.{transposed_square}
use Rattle.rules.proofs.Laws.CodeLaws.{Sound}
use Rattle.rules.proofs.Laws.SearchLaws.{places-length}
use Rattle.rules.proofs.Laws.PatternLaws.{Rising, pattern, changed_pattern}
use Rattle.rules.proofs.Laws.DifferenceLaws.{differences_self, differences_most, differences_way}
use Rattle.rules.proofs.Laws.FlipLaws.{flips_of, rows_flips, columns_flips}
use Rattle.rules.proofs.Promises.Answers.{Fits, answer-fits}
use Rattle.rules.proofs.Promises.Passes.{after, changed_bits, Ends, left, passes_promise}

pub record CountBounds (code : Code) (n a : ℕ) (o : Outcome) : Type 0 where
  pub passes : o.passes ≤ a
  pub bits : o.bits ≤ radius code * n * o.passes
  pub not_all : o.bits ≤ n * n
  pub rows : o.rows ≤ n
  pub columns : o.columns ≤ n

abbrev pub CountsPromise : Code → Type 0
CountsPromise code =
    (n : ℕ) → code.shortest ≤ n → (a : ℕ) (f : Frame) → 1 ≤ a → Square n f
    → CountBounds code n a (decoded code n a f)

differ_changed : (n : ℕ) (ps : List ℕ) (w : Word) → length w ≡ n → Rising 0 n ps → differ w (changed ps w) ≡ length ps
differ_changed n ps w l r =
    let p = pattern n 0 ps (rw (zero-add n) r) in
    let e : Word = p.0 in
    let le : length e ≡ length w = p.1 ∙ sym l in
    ap (λ qs. differ w (changed qs w)) (sym p.2)
    ∙ ap (differ w) (changed_pattern w e le)
    ∙ ap ones (⊻_cancel w e (sym le))
    ∙ sym (places-length 0 e)
    ∙ ap length p.2

module _ (code : Code) (ok : Sound code) (n : ℕ) (h : code.shortest ≤ n) where
  -- in a word as many as the places that the answer names, which are at most the radius
  pub mend_flips :
      (w : Word) → length w ≡ n
      → (differ w (mend code n w) ≡ length (places (answer code n w))) × (length (places (answer code n w)) ≤ radius code)
  unfolding mend
  mend_flips w l =
      let k = named (answer code n w) (answer-fits code ok n h w l) in
      (differ_changed n (places (answer code n w)) w l k.0, k.1)
    where
      named : (a : Option (List ℕ)) → Fits code n w a → Rising 0 n (places a) × (length (places a) ≤ radius code)
      named (some ps) k = (k.0, k.1)
      named none k = (tt, omega arith)

  rows_few : (f : Frame) → Square n f → total n (flips_of code n f) ≤ radius code * n
  rows_few f s =
      total_most (radius code) n (flips_of code n f)
      (λ i l. let k = mend_flips (row f i) (s.1 i l) in omega (arith, k.0, k.1))

  changes_few : (f : Frame) → Square n f → (p : ℕ) → changed_bits code n f p ≤ radius code * n
  unfolding after
  changes_few f s p = go (is_odd (suc p)) ((passes_promise code).square n f s p)
    where
      go :
          (c : Bool) → Square n (after code n f p)
          → differences n (after code n f p) (cond c (pass_rows code n (after code n f p)) (pass_columns code n (after code n f p)))
          ≤ radius code * n
      go true sq = omega (arith, rows_flips code n (after code n f p), rows_few (after code n f p) sq)
      go false sq =
          omega (arith, columns_flips code n (after code n f p) sq, rows_few (transposed n (after code n f p)) (transposed_square n (after code n f p)))

  -- what p passes have changed, by way of what each left
  differ_few : (f : Frame) → Square n f → (p : ℕ) → differences n f (after code n f p) ≤ radius code * n * p
  unfolding after
  differ_few f s zero = omega (arith, differences_self n f)
  differ_few f s (suc p) =
      let square = (passes_promise code).square n f s in
      omega (
        arith,
        differences_way n f (after code n f p) (after code n f (suc p)) s (square p) (square (suc p)),
        differ_few f s p,
        changes_few f s p,
        mul-suc (radius code * n) p,
      )

  left_few : (e : Ending) (x : ℕ) → x ≤ n → left e x ≤ n
  left_few clean x l = omega arith
  left_few repaired x l = omega arith
  left_few stuck x l = l
  left_few spent x l = l

  bad_few : (f : Frame) → bad_rows code n f ≤ n
  unfolding bad_rows
  bad_few f = count_most n (λ i. not (is_codeword code n (row f i)))

  passes_few : (a : ℕ) (f : Frame) (e : Ending) (p : ℕ) → Ends code n a f p e → p ≤ a
  passes_few a f clean p k = omega (arith, k.0)
  passes_few a f repaired p k = k.0.allowed
  passes_few a f stuck p k = k.0.allowed
  passes_few a f spent p k = k.0.allowed

  bounded : (a : ℕ) (f : Frame) → 1 ≤ a → Square n f → CountBounds code n a (decoded code n a f)
  unfolding bad_columns
  bounded a f lo s =
      let o : Outcome = decoded code n a f in
      let r = (passes_promise code).holds n a f lo in
      let g : Frame = after code n f o.passes in
      record {
        passes = passes_few a f o.ending o.passes r.ends;
        bits = rw r.bits_are (differ_few f s o.passes);
        not_all = rw r.bits_are (differences_most n f g s ((passes_promise code).square n f s o.passes));
        rows = rw r.rows_are (left_few o.ending (bad_rows code n g) (bad_few g));
        columns = rw r.columns_are (left_few o.ending (bad_columns code n g) (bad_few (transposed n g)));
      }

pub counts : (code : Code) (ok : Sound code) → CountsPromise code
counts code ok n h a f lo s = bounded code ok n h a f lo s
