-- One step of the passes, by its ending; words of one direction under a pass.
-- Assumes nothing.
use mathlib.Core.Path.{◌≡◌, refl, ap, ap₂, ◌∙◌}
use mathlib.Core.Bool.{Bool, true, false}
use Prim.Native.Nat.{ℕ, suc, ◌<◌}
use lib.ListN.{length}
use Rattle.algebra.specs.Words.{Word}
use Rattle.algebra.proofs.TableLaws.{tab-length}
use Rattle.rules.specs.Codes.{Code}
use Rattle.rules.specs.Words.{answer, places, mend}
use Rattle.rules.specs.Frames.{Frame, Square, row, transposed, is_frame}
use Rattle.rules.specs.Passes.{
  pass_rows,
  pass_columns,
  pass,
  differences,
  counted,
  clean,
  repaired,
  stuck,
  spent,
  Outcome,
  good,
  bad,
  is_stuck,
  passes_from,
  decoded,
}
use Rattle.rules.proofs.Laws.Shape.{row_tab, transposed_square, transposed_twice}
use Rattle.rules.proofs.Laws.PatternLaws.{changed-length}

-- ---- the start

module _ (code : Code) (n a : ℕ) (f : Frame) where
  abbrev begun : Bool → Outcome
  begun true = good clean 0 0 f
  begun false = passes_from code n f a 0 f

  begins : decoded code n a f ≡ begun (is_frame code n f)
  unfolding decoded
  begins = go (is_frame code n f)
    where
      go : (b : Bool) → elim b as (λ x. Outcome) [ true ↦ good clean 0 0 f | false ↦ passes_from code n f a 0 f ] ≡ begun b
      go true = refl
      go false = refl

  pub decoded_clean : is_frame code n f ≡ true → decoded code n a f ≡ good clean 0 0 f
  decoded_clean h = begins ∙ ap begun h

  pub decoded_passes : is_frame code n f ≡ false → decoded code n a f ≡ passes_from code n f a 0 f
  decoded_passes h = begins ∙ ap begun h

-- ---- after a pass: the first of the three endings that holds, or one more pass

module _ (code : Code) (n : ℕ) (received : Frame) (left made : ℕ) (f : Frame) where
  abbrev after : Frame
  after = pass code n (suc made) f

  abbrev changes : ℕ
  changes = differences n f after

  abbrev chosen : Bool → Bool → Outcome
  chosen true s = good repaired (suc made) (counted n received after) after
  chosen false true = bad code stuck (suc made) (counted n received after) n after
  chosen false false = passes_from code n received left (suc made) after

  steps : passes_from code n received (suc left) made f ≡ chosen (is_frame code n after) (is_stuck (suc made) changes)
  unfolding passes_from
  steps = go (is_frame code n after) (is_stuck (suc made) changes)
    where
      go :
          (b s : Bool)
          → elim b as (λ x. Outcome) [
            | true ↦ good repaired (suc made) (counted n received after) after
            | false ↦ elim s as (λ x. Outcome) [
              | true ↦ bad code stuck (suc made) (counted n received after) n after
              | false ↦ passes_from code n received left (suc made) after
            ]
          ]
          ≡ chosen b s
      go true s = refl
      go false true = refl
      go false false = refl

  pub step_repaired : is_frame code n after ≡ true → passes_from code n received (suc left) made f ≡ good repaired (suc made) (counted n received after) after
  step_repaired h = steps ∙ ap (λ b. chosen b (is_stuck (suc made) changes)) h

  pub step_stuck :
      is_frame code n after ≡ false → is_stuck (suc made) changes ≡ true
      → passes_from code n received (suc left) made f ≡ bad code stuck (suc made) (counted n received after) n after
  step_stuck h s = steps ∙ ap₂ chosen h s

  pub step_on :
      is_frame code n after ≡ false → is_stuck (suc made) changes ≡ false
      → passes_from code n received (suc left) made f ≡ passes_from code n received left (suc made) after
  step_on h s = steps ∙ ap₂ chosen h s

pub step_spent : (code : Code) (n : ℕ) (received : Frame) (made : ℕ) (f : Frame) → passes_from code n received 0 made f ≡ bad code spent made (counted n received f) n f
unfolding passes_from
step_spent code n received made f = refl

-- ---- which way a pass goes

pub pass_one : (code : Code) (n : ℕ) (f : Frame) → pass code n 1 f ≡ pass_rows code n f
unfolding pass
pass_one code n f = refl

pub pass_two : (code : Code) (n : ℕ) (f : Frame) → pass code n 2 f ≡ pass_columns code n f
unfolding pass
pass_two code n f = refl

-- ---- a pass keeps the shape

pub mend-length : (code : Code) (n : ℕ) (w : Word) → length (mend code n w) ≡ length w
unfolding mend
mend-length code n w = changed-length (places (answer code n w)) w

pub pass_rows-row : (code : Code) (n : ℕ) (f : Frame) (i : ℕ) → i < n → row (pass_rows code n f) i ≡ mend code n (row f i)
unfolding pass_rows
pass_rows-row code n f i h = row_tab n (λ i. mend code n (row f i)) i h

pub pass_rows-square : (code : Code) (n : ℕ) (f : Frame) → Square n f → Square n (pass_rows code n f)
unfolding pass_rows
pass_rows-square code n f s = (
  tab-length n (λ i. mend code n (row f i)),
  λ i h. ap length (pass_rows-row code n f i h) ∙ mend-length code n (row f i) ∙ s.1 i h,
)

pub pass_columns-row : (code : Code) (n : ℕ) (f : Frame) (j : ℕ) → j < n → row (transposed n (pass_columns code n f)) j ≡ mend code n (row (transposed n f) j)
unfolding pass_columns
pass_columns-row code n f j h =
    ap (λ (x : Frame). row x j)
    (transposed_twice n (pass_rows code n (transposed n f)) (pass_rows-square code n (transposed n f) (transposed_square n f)))
    ∙ pass_rows-row code n (transposed n f) j h

pub pass_columns-square : (code : Code) (n : ℕ) (f : Frame) → Square n (pass_columns code n f)
unfolding pass_columns
pass_columns-square code n f = transposed_square n (pass_rows code n (transposed n f))
