-- Demand 3 over frames: a written frame with at most as many spoiled rows as the radius comes back, after two passes at the most.
-- Assumes nothing.
use mathlib.Core.Path.{◌≡◌, refl, sym, ap, subst, ◌∙◌}
use mathlib.Core.Logic.{◌⊎◌, inl, inr}
use mathlib.Core.Bool.{Bool, true, false}
use Prim.Native.Nat.{ℕ, zero, suc, ◌≤◌}
use native.Mathlib.Omega.{arith}
use lib.ListN.{length}
use Rattle.algebra.specs.Words.{Word, differ}
use Rattle.rules.specs.Codes.{Code, radius}
use Rattle.rules.specs.Words.{is_codeword, mend}
use Rattle.rules.specs.Frames.{Frame, Square, transposed, is_frame}
use Rattle.rules.specs.Passes.{pass_rows, pass_columns, pass, differences, clean, repaired, spent, Outcome, passes_from, decoded}
use Rattle.rules.specs.Damage.{spoilt}
use Rattle.rules.proofs.Laws.CodeLaws.{Mends}
use Rattle.rules.proofs.Laws.Shape.{transposed_square, transposed_twice}
use Rattle.rules.proofs.Laws.FrameLaws.{frame_rows, frame_columns}
use Rattle.rules.proofs.Laws.ErasedLaws.{ones_word, AllOnes, ones_only, ones_frame}
use Rattle.rules.proofs.Promises.Answers.{answers}
use Rattle.rules.proofs.Promises.Passes.{passes_promise}
use Rattle.rules.proofs.Laws.PassLaws.{decoded_clean, decoded_passes, step_repaired, step_on, step_spent, pass_one, pass_two, pass_rows-square}
use Rattle.rules.proofs.Laws.DifferenceLaws.{differences_comm}
use Rattle.rules.proofs.Laws.TwoPasses.{rows_mended, rows_left, two_passes}

-- ---- The statement

-- clean or repaired
abbrev pub Success : Outcome → Type 0
Success o = (o.ending ≡ clean) ⊎ (o.ending ≡ repaired)

-- a success, with this frame, in at most two passes
pub record Restored (f : Frame) (o : Outcome) : Type 0 where
  pub success : Success o
  pub frame : o.last ≡ f
  pub few : o.passes ≤ 2

-- any written frame with at most `rows` spoiled rows comes back, whatever the allowance from two on
abbrev pub RepairsFramesAt : Code → ℕ → Type 0
RepairsFramesAt code rows =
    (n allowance : ℕ) → code.shortest ≤ n → n ≤ code.longest → 2 ≤ allowance → (written received : Frame) → Square n written → Square n received
    → is_frame code n written ≡ true → spoilt (radius code) n written received ≤ rows → Restored written (decoded code n allowance received)

-- as many spoiled rows as the radius
abbrev pub RepairsFrames : Code → Type 0
RepairsFrames code = RepairsFramesAt code (radius code)

-- whatever the allowance, a success has the written frame, and counts just the wrong bits
abbrev pub CountsDamage : Code → Type 0
CountsDamage code =
    (n allowance : ℕ) → code.shortest ≤ n → n ≤ code.longest → 1 ≤ allowance → (written received : Frame) → Square n written → Square n received
    → is_frame code n written ≡ true → spoilt (radius code) n written received ≤ radius code → Success (decoded code n allowance received)
    → ((decoded code n allowance received).last ≡ written) × ((decoded code n allowance received).bits ≡ differences n written received)

-- ---- The proof

module _ (code : Code) (able : Mends code) (n : ℕ) (h : code.shortest ≤ n) (b : n ≤ code.longest) where
  mends : (c w : Word) → length c ≡ n → length w ≡ n → is_codeword code n c ≡ true → differ c w ≤ radius code → mend code n w ≡ c
  mends c w lc lw k d = (answers code able n h b w lw).mended c (lc, k) d

  rows_are : (f : Frame) → pass_rows code n f ≡ rows_mended n (mend code n) f
  unfolding pass_rows rows_mended
  rows_are f = refl

  columns_are : (f : Frame) → pass_columns code n f ≡ transposed n (rows_mended n (mend code n) (transposed n f))
  unfolding pass_columns pass_rows rows_mended
  columns_are f = refl

  -- a frame of codewords is left by both passes
  frame_left : (f : Frame) → Square n f → is_frame code n f ≡ true → (pass_rows code n f ≡ f) × (pass_columns code n f ≡ f)
  frame_left f s k = (
    rows_are f ∙ rows_left n (radius code) (is_codeword code n) (mend code n) mends f s (frame_rows code n f k),
    columns_are f
        ∙ ap (transposed n) (rows_left n (radius code) (is_codeword code n) (mend code n) mends (transposed n f) (transposed_square n f) (frame_columns code n f k))
        ∙ transposed_twice n f s,
  )

  module _ (f r : Frame) (sf : Square n f) (sr : Square n r) (k : is_frame code n f ≡ true) (d : spoilt (radius code) n f r ≤ radius code) where
    -- a row pass and a column pass
    both : pass_columns code n (pass_rows code n r) ≡ f
    both =
        columns_are (pass_rows code n r) ∙ ap (λ x. transposed n (rows_mended n (mend code n) (transposed n x))) (rows_are r)
        ∙ two_passes n (radius code) (is_codeword code n) (mend code n) mends f r sf sr (frame_rows code n f k) (frame_columns code n f k) d

    -- a frame of codewords on the way is the written one
    received_whole : is_frame code n r ≡ true → r ≡ f
    received_whole q =
        let e = frame_left r sr q in sym (ap (pass_columns code n) e.0 ∙ e.1) ∙ both

    passed_whole : is_frame code n (pass_rows code n r) ≡ true → pass_rows code n r ≡ f
    passed_whole q = sym (frame_left (pass_rows code n r) (pass_rows-square code n r sr) q).1 ∙ both

    restored : (a : ℕ) → Restored f (decoded code n (suc (suc a)) r)
    restored a = start (is_frame code n r) refl
      where
        at_two : Restored f (passes_from code n r (suc a) 1 (pass_rows code n r))
        at_two =
            let e : pass code n 2 (pass_rows code n r) ≡ f = pass_two code n (pass_rows code n r) ∙ both in
            rw (step_repaired code n r a 1 (pass_rows code n r) (ap (is_frame code n) e ∙ k))
            (record { success = inr refl; frame = e; few = omega arith })

        at_one : (x : Bool) → is_frame code n (pass code n 1 r) ≡ x → Restored f (passes_from code n r (suc (suc a)) 0 r)
        at_one true q =
            rw (step_repaired code n r (suc a) 0 r q)
            (record { success = inr refl; frame = pass_one code n r ∙ passed_whole (rw (pass_one code) at q); few = omega arith })
        at_one false q =
            rw (step_on code n r (suc a) 0 r q refl)
            (subst (λ x. Restored f (passes_from code n r (suc a) 1 x)) (sym (pass_one code n r)) at_two)

        start : (x : Bool) → is_frame code n r ≡ x → Restored f (decoded code n (suc (suc a)) r)
        start true q =
            rw (decoded_clean code n (suc (suc a)) r q)
            (record { success = inl refl; frame = received_whole q; few = omega arith })
        start false q = rw (decoded_passes code n (suc (suc a)) r q) (at_one (is_frame code n (pass code n 1 r)) refl)

    -- at allowance 1 the passes may be spent, but no other frame is a success
    once : Success (decoded code n 1 r) → (decoded code n 1 r).last ≡ f
    once s = start (is_frame code n r) refl
      where
        unmended : ¬ ((spent ≡ clean) ⊎ (spent ≡ repaired))
        unmended (inl q) = let z : ◌≡◌ {A = ℕ} 0 1 = cc in omega arith
        unmended (inr q) = let z : ◌≡◌ {A = ℕ} 0 1 = cc in omega arith

        at_one : is_frame code n r ≡ false → (x : Bool) → is_frame code n (pass code n 1 r) ≡ x → (decoded code n 1 r).last ≡ f
        at_one w true q =
            ap (λ o. o.last) (decoded_passes code n 1 r w ∙ step_repaired code n r 0 0 r q)
            ∙ pass_one code n r ∙ passed_whole (rw (pass_one code) at q)
        at_one w false q =
            absurd (unmended
            (rw (decoded_passes code n 1 r w ∙ step_on code n r 0 0 r q refl ∙ step_spent code n r 1 (pass code n 1 r)) at s))

        start : (x : Bool) → is_frame code n r ≡ x → (decoded code n 1 r).last ≡ f
        start true q = ap (λ o. o.last) (decoded_clean code n 1 r q) ∙ received_whole q
        start false q = at_one q (is_frame code n (pass code n 1 r)) refl

    at_any : (a : ℕ) → 1 ≤ a → Success (decoded code n a r) → (decoded code n a r).last ≡ f
    at_any zero l s = absurd (omega arith)
    at_any (suc zero) l s = once s
    at_any (suc (suc a)) l s = (restored a).frame

pub repairs_frames : (code : Code) (able : Mends code) → RepairsFrames code
repairs_frames code able n zero h b a = absurd (omega arith)
repairs_frames code able n (suc zero) h b a = absurd (omega arith)
repairs_frames code able n (suc (suc x)) h b a = λ f r sf sr k d. restored code able n h b f r sf sr k d x

-- ---- What follows

pub counts_damage : (code : Code) (able : Mends code) → CountsDamage code
counts_damage code able n a h b lo f r sf sr k d s =
    let e = at_any code able n h b f r sf sr k d a lo s in
    let rule = (passes_promise code).holds n a r lo in
    (e, rule.bits_are ∙ ap (differences n r) (sym rule.last_is ∙ e) ∙ differences_comm n r f)

-- spoiled to all ones, where such a word is a codeword, it was all ones
pub spoiled_ones :
    (code : Code) (able : Mends code) (n : ℕ) → code.shortest ≤ n → n ≤ code.longest → (f r : Frame) → Square n f → Square n r → is_frame code n f ≡ true
    → spoilt (radius code) n f r ≤ radius code → is_codeword code n (ones_word n) ≡ true → AllOnes n r → AllOnes n f
spoiled_ones code able n h b f r sf sr k d c all =
    let e : is_frame code n r ≡ true = ap (is_frame code n) (ones_only n r sr all) ∙ ones_frame code n c in
    subst (AllOnes n) (received_whole code able n h b f r sf sr k d e) all

-- two written frames that, each spoiled, become the same are one
pub spoiled_apart :
    (code : Code) (able : Mends code) (n : ℕ) → code.shortest ≤ n → n ≤ code.longest → (f f' r : Frame) → Square n f → Square n f' → Square n r → is_frame code n f ≡ true
    → is_frame code n f' ≡ true → spoilt (radius code) n f r ≤ radius code → spoilt (radius code) n f' r ≤ radius code → f ≡ f'
spoiled_apart code able n h b f f' r s s' sr k k' d d' =
    sym (repairs_frames code able n 2 h b (omega arith) f r s sr k d).frame ∙ (repairs_frames code able n 2 h b (omega arith) f' r s' sr k' d').frame
