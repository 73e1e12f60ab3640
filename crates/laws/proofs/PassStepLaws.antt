-- The loop over passes, step by step: words counted and mended one after another, a pass made, and the passes ended or gone on with.
-- Assumes nothing.
use mathlib.Core.Path.{◌≡◌, refl, sym, ap, ap₂, ◌∙◌}
use mathlib.Core.Logic.{◌≢◌}
use mathlib.Core.Bool.{Bool, true, false, not}
use mathlib.Core.List.{List}
use Prim.Native.Nat.{ℕ, suc, ◌+◌, ◌*◌, ◌-◌, ◌≤◌, ◌<◌}
use native.Mathlib.Omega.{arith}
use borrow.Author.Tests.{eq-eqb, ne_eqb}
use lib.Dec.{eqb}
use lib.ListN.{length}
use Rattle.algebra.specs.Tables.{count, total}
use Rattle.algebra.specs.Words.{differ}
use Rattle.algebra.specs.Remainder.{is_odd}
use Rattle.algebra.proofs.TableLaws.{total-none, total_next, count_most}
use Rattle.rules.specs.Codes.{Code, radius_limit}
use Rattle.rules.specs.Words.{checks, is_codeword, answer, places, mend}
use Rattle.rules.specs.Frames.{Frame, row, bad_rows, bad_columns, is_frame, Square}
use Rattle.rules.specs.Bits.{frame_of, bytes_of}
use Rattle.rules.specs.Passes.{pass, differences, counted, clean, repaired, stuck, spent, Ending, Outcome, good, is_stuck, passes_from, decoded}
use Rattle.rules.proofs.Laws.CodeLaws.{Sound}
use Rattle.rules.proofs.Laws.Shape.{frame_of-square}
use Rattle.rules.proofs.Laws.PackLaws.{bytes_of-length, frame_of_bytes}
use Rattle.rules.proofs.Laws.PassLaws.{decoded_clean, decoded_passes, step_repaired, step_stuck, step_on, step_spent}
use Rattle.laws.specs.InPlace.{word_at, put}
use Rattle.laws.specs.Turns.{turned, start_of, step_of, worked, Whole, Ready}
use Rattle.laws.proofs.TurnLaws.{frame_counted, turned_square, word_there, worked-none, worked_later, worked_square, put_worked}
use Rattle.rules.proofs.Laws.FlipLaws.{flips_of}
use Rattle.rules.proofs.Promises.CountBounds.{mend_flips}
use Rattle.laws.proofs.PassLoopLaws.{mend_keeps, pass_worked, pass_flips}

-- ---- words in place

-- those that are not codewords, counted
pub bad_counted : (code : Code) (n : ℕ) (g : Frame) → count n (λ i. not (is_codeword code n (row g i))) ≡ bad_rows code n g
unfolding bad_rows
bad_counted code n g = refl

pub bad_most : (code : Code) (n : ℕ) (g : Frame) → bad_rows code n g ≤ n
unfolding bad_rows
bad_most code n g = count_most n (λ i. not (is_codeword code n (row g i)))

module _ (code : Code) (n : ℕ) (s : List ℕ) (columns : Bool) (k : ℕ) (h : k < n) where
  pub codeword_there :
      eqb (checks code n (word_at n s (start_of n columns k) (step_of n columns))) 0
      ≡ is_codeword code n (row (turned n columns (frame_of n s)) k)
  unfolding is_codeword
  codeword_there = ap (λ w. eqb (checks code n w) 0) (word_there n s columns k h)

  pub put_there :
      put n s (start_of n columns k) (step_of n columns) (mend code n (word_at n s (start_of n columns k) (step_of n columns)))
      ≡ put n s (start_of n columns k) (step_of n columns) (mend code n (row (turned n columns (frame_of n s)) k))
  put_there = ap (λ w. put n s (start_of n columns k) (step_of n columns) (mend code n w)) (word_there n s columns k h)

  pub flips_there :
      Sound code → (x : ℕ) → Whole code n s → x ≡ length (places (answer code n (word_at n s (start_of n columns k) (step_of n columns))))
      → (x ≡ flips_of code n (turned n columns (frame_of n s)) k) × (x ≤ radius_limit)
  flips_there ok x w e =
      let g : Frame = turned n columns (frame_of n s) in
      let m = mend_flips code ok n w.0 (row g k) ((turned_square n columns (frame_of n s) (frame_of-square n s)).1 k h) in
      let q : x ≡ length (places (answer code n (row g k))) = e ∙ ap (λ u. length (places (answer code n u))) (word_there n s columns k h) in
      (q ∙ sym m.0, omega (arith, m.1, ok.not_wide))

-- ---- the words of a pass, mended one after another

-- the first k words of f in the direction are mended, with so many bits changed
pub record Passing (code : Code) (n : ℕ) (f : Frame) (columns : Bool) (s : List ℕ) (changes k : ℕ) : Type 0 where
  pub within : k ≤ n
  pub done : s ≡ bytes_of n (worked n columns (mend code n) k f)
  pub flips : changes ≡ total k (flips_of code n (turned n columns f))
  pub few : changes ≤ radius_limit * k

pub passing_none : (code : Code) (n : ℕ) (columns : Bool) (s : List ℕ) → Ready code n s → Passing code n (frame_of n s) columns s 0 0
passing_none code n columns s r = record {
  within = omega arith;
  done = r.1 ∙ ap (bytes_of n) (sym (worked-none n columns (mend code n) (frame_of n s) (frame_of-square n s)));
  flips = sym (total-none (flips_of code n (turned n columns (frame_of n s))));
  few = omega arith;
}

pub passing_more :
    (code : Code) {n : ℕ} {f : Frame} {columns : Bool} {s : List ℕ} {changes k r : ℕ} {t : List ℕ}
    → Passing code n f columns s changes k → Square n f → Whole code n s → k < n
    → r ≡ flips_of code n (turned n columns (frame_of n s)) k → r ≤ radius_limit
    → t ≡ put n s (start_of n columns k) (step_of n columns) (mend code n (row (turned n columns (frame_of n s)) k))
    → Passing code n f columns t (changes + r) (k + 1)
passing_more code {n = n} {f = f} {columns = columns} {s = s} {k = k} p q w h e b put_is =
    record {
      within = omega arith;
      done = put_is ∙ ap (λ u. put n s (start_of n columns k) (step_of n columns) (mend code n u)) same
          ∙ put_worked code n s columns (mend code n) k f (mend_keeps code n) q w h p.done;
      flips = ap₂ ◌+◌ p.flips (e ∙ ap (λ u. differ u (mend code n u)) same)
          ∙ sym (total_next k (flips_of code n (turned n columns f)));
      few = omega (arith, p.few);
    }
  where
    same : row (turned n columns (frame_of n s)) k ≡ row (turned n columns f) k
    same =
        ap (λ x. row (turned n columns x) k)
        (ap (frame_of n) p.done
        ∙ frame_of_bytes n (worked n columns (mend code n) k f) (worked_square n columns (mend code n) k f (mend_keeps code n) q))
        ∙ worked_later n columns (mend code n) k k f (mend_keeps code n) q (omega arith) h

-- none is left
pub passing_all :
    (code : Code) {n : ℕ} {f : Frame} {columns : Bool} {s : List ℕ} {changes k : ℕ} → Passing code n f columns s changes k → n ≤ k → Passing code n f columns s changes n
passing_all code {n = n} {k = k} p all = let e : k ≡ n = omega (arith, p.within) in rw e at p

-- ---- the passes

-- after `made` passes, none of them the last: what is left to do gives the whole outcome
pub record Repairing (code : Code) (n a : ℕ) (f : Frame) (s : List ℕ) (made : ℕ) : Type 0 where
  pub ready : Ready code n s
  pub allowed : made < a
  pub same : decoded code n a f ≡ passes_from code n f (a - made) made (frame_of n s)

-- the outcome, its frame the one in the buffer
abbrev outcome_in : ℕ → List ℕ → Ending → ℕ → ℕ → ℕ → ℕ → Outcome
outcome_in n s e p b r c = record { ending = e; passes = p; bits = b; rows = r; columns = c; last = frame_of n s }

pub record Ended (code : Code) (n a : ℕ) (f : Frame) (s : List ℕ) (e : Ending) (passes bits rows columns : ℕ) : Type 0 where
  pub outcome :
      decoded code n a f
      ≡ record { ending = e; passes = passes; bits = bits; rows = rows; columns = columns; last = frame_of n s }
  pub packed : s ≡ bytes_of n (frame_of n s)

pub repairing_none :
    (code : Code) (n a : ℕ) (f : Frame) (s : List ℕ) → Ready code n s → frame_of n s ≡ f → 1 ≤ a → is_frame code n (frame_of n s) ≡ false
    → Repairing code n a f s 0
repairing_none code n a f s r copied h t = record {
  ready = r;
  allowed = omega arith;
  same = decoded_passes code n a f (ap (is_frame code n) (sym copied) ∙ t) ∙ ap₂ (λ m g. passes_from code n f m 0 g) z (sym copied);
}
  where
    z : a ≡ a - 0
    z = omega arith

-- in the midst of a pass the buffer is still one of a frame's size
pub passing_whole :
    (code : Code) {n a : ℕ} {f : Frame} {s : List ℕ} {made : ℕ} {columns : Bool} {t : List ℕ} {changes k : ℕ}
    → Repairing code n a f s made → Passing code n (frame_of n s) columns t changes k → Whole code n t
passing_whole code {n = n} {s = s} {columns = columns} {k = k} r p =
    (r.ready.0.0, r.ready.0.1, ap length p.done ∙ bytes_of-length n (worked n columns (mend code n) k (frame_of n s)))

-- no row and no column is bad
module _ (code : Code) (n : ℕ) (g : Frame) (rows columns : ℕ) (hr : rows ≡ bad_rows code n (turned n false g)) (hc : columns ≡ bad_rows code n (turned n true g)) where
  rows_is : rows ≡ bad_rows code n g
  unfolding turned
  rows_is = hr

  columns_is : columns ≡ bad_columns code n g
  unfolding turned bad_columns
  columns_is = hc

  pub frame_whole : rows + columns ≡ 0 → is_frame code n g ≡ true
  frame_whole z = frame_counted code n g rows columns hr hc ∙ eq-eqb (rows + columns) 0 z

  pub frame_not : rows + columns ≢ 0 → is_frame code n g ≡ false
  frame_not z = frame_counted code n g rows columns hr hc ∙ ne_eqb (rows + columns) 0 z

-- outcomes are known by their parts
outcome_ext :
    (e : Ending) (p q b b' r s c d : ℕ) (x y : Frame) → p ≡ q → b ≡ b' → r ≡ s → c ≡ d → x ≡ y
    → ◌≡◌ {A = Outcome} (record { ending = e; passes = p; bits = b; rows = r; columns = c; last = x })
    (record { ending = e; passes = q; bits = b'; rows = s; columns = d; last = y })
outcome_ext e p q b b' r s c d x y hp hb hr hc hx = rw (hp, hb, hr, hc, hx)

-- a frame of codewords is clean
pub ended_clean :
    (code : Code) (n a : ℕ) (f : Frame) (s : List ℕ) (rows columns : ℕ) → Ready code n s → frame_of n s ≡ f
    → rows ≡ bad_rows code n (turned n false (frame_of n s)) → columns ≡ bad_rows code n (turned n true (frame_of n s)) → rows + columns ≡ 0
    → Ended code n a f s clean 0 0 0 0
ended_clean code n a f s rows columns r copied hr hc z = record {
  outcome = decoded_clean code n a f (ap (is_frame code n) (sym copied) ∙ frame_whole code n (frame_of n s) rows columns hr hc z)
      ∙ ap (good clean 0 0) (sym copied);
  packed = r.1;
}

-- a pass made from s to t: all its words are mended, by rows or by columns, and the bad ones counted
pub record Made (code : Code) (n a : ℕ) (f : Frame) (s : List ℕ) (made : ℕ) (t : List ℕ) (changes rows columns : ℕ) : Type 0 where
  pub before : Repairing code n a f s made
  pub by_columns : Bool
  pub mended : Passing code n (frame_of n s) by_columns t changes n
  pub rows_bad : rows ≡ bad_rows code n (turned n false (frame_of n t))
  pub columns_bad : columns ≡ bad_rows code n (turned n true (frame_of n t))

-- and its direction is the rule's
module _ (code : Code)
    {n a : ℕ} {f : Frame} {s : List ℕ} {made : ℕ} {t : List ℕ} {changes rows columns : ℕ}
    (m : Made code n a f s made t changes rows columns) (turn : m.by_columns ≡ is_odd made)
  where
    p : Passing code n (frame_of n s) (is_odd made) t changes n
    p = rw turn at m.mended

    abbrev after : Frame
    after = pass code n (suc made) (frame_of n s)

    after_square : Square n after
    after_square =
        rw (pass_worked code n made (frame_of n s)) at
        (worked_square n (is_odd made) (mend code n) n (frame_of n s) (mend_keeps code n) (frame_of-square n s))

    t_bytes : t ≡ bytes_of n after
    t_bytes = p.done ∙ ap (bytes_of n) (pass_worked code n made (frame_of n s))

    t_frame : frame_of n t ≡ after
    t_frame = ap (frame_of n) t_bytes ∙ frame_of_bytes n after after_square

    pass_ready : Ready code n t
    pass_ready = (passing_whole code m.before p, t_bytes ∙ ap (bytes_of n) (sym t_frame))

    so : {e : Ending} {p b x y : ℕ} → decoded code n a f ≡ outcome_in n t e p b x y → Ended code n a f t e p b x y
    so o = record { outcome = o; packed = pass_ready.1 }

    changed : changes ≡ differences n (frame_of n s) after
    changed = p.flips ∙ pass_flips code n made (frame_of n s) (frame_of-square n s)

    next : suc made ≡ made + 1
    next = omega arith

    begun : decoded code n a f ≡ passes_from code n f (suc (a - (made + 1))) made (frame_of n s)
    begun =
        let left : a - made ≡ suc (a - (made + 1)) = omega (arith, m.before.allowed) in
        m.before.same ∙ ap (λ m. passes_from code n f m made (frame_of n s)) left

    rows_are : bad_rows code n after ≡ rows
    rows_are = ap (bad_rows code n) (sym t_frame) ∙ sym (rows_is code n (frame_of n t) rows columns m.rows_bad m.columns_bad)

    columns_are : bad_columns code n after ≡ columns
    columns_are = ap (bad_columns code n) (sym t_frame) ∙ sym (columns_is code n (frame_of n t) rows columns m.rows_bad m.columns_bad)

    whole : rows + columns ≡ 0 → is_frame code n after ≡ true
    whole z = ap (is_frame code n) (sym t_frame) ∙ frame_whole code n (frame_of n t) rows columns m.rows_bad m.columns_bad z

    not_frame : rows + columns ≢ 0 → is_frame code n after ≡ false
    not_frame z = ap (is_frame code n) (sym t_frame) ∙ frame_not code n (frame_of n t) rows columns m.rows_bad m.columns_bad z

    gone_on :
        rows + columns ≢ 0 → is_stuck (made + 1) changes ≡ false
        → decoded code n a f ≡ passes_from code n f (a - (made + 1)) (made + 1) (frame_of n t)
    gone_on z moved =
        begun
        ∙ step_on code n f (a - (made + 1)) made (frame_of n s) (not_frame z)
        (ap₂ is_stuck next (sym changed) ∙ moved)
        ∙ rw (← t_frame, next)

    pub repairing_more :
        rows + columns ≢ 0 → is_stuck (made + 1) changes ≡ false → made + 1 ≢ a → Repairing code n a f t (made + 1)
    repairing_more z moved some = record {
      ready = pass_ready;
      allowed = omega (arith, m.before.allowed);
      same = gone_on z moved;
    }

    -- the passes have ended: the bits in which the buffer differs from the received frame are counted
    module _ (bits : ℕ) (count : bits ≡ differences n f (frame_of n t)) where
      count_is : counted n f after ≡ bits
      count_is = ap (differences n f) (sym t_frame) ∙ sym count

      pub ended_repaired : rows + columns ≡ 0 → Ended code n a f t repaired (made + 1) bits rows columns
      ended_repaired z =
          so (begun
          ∙ step_repaired code n f (a - (made + 1)) made (frame_of n s) (whole z)
          ∙ outcome_ext repaired (suc made) (made + 1) (counted n f after) bits 0 rows 0 columns after (frame_of n t)
          next count_is (omega arith) (omega arith) (sym t_frame))

      pub ended_stuck :
          rows + columns ≢ 0 → is_stuck (made + 1) changes ≡ true → Ended code n a f t stuck (made + 1) bits rows columns
      ended_stuck z idle =
          so (begun
          ∙ step_stuck code n f (a - (made + 1)) made (frame_of n s) (not_frame z)
          (ap₂ is_stuck next (sym changed) ∙ idle)
          ∙ outcome_ext stuck (suc made) (made + 1) (counted n f after) bits
          (bad_rows code n after) rows (bad_columns code n after) columns after (frame_of n t) next count_is rows_are columns_are (sym t_frame))

      pub ended_spent :
          rows + columns ≢ 0 → is_stuck (made + 1) changes ≡ false → made + 1 ≡ a
          → Ended code n a f t spent (made + 1) bits rows columns
      ended_spent z moved last =
          let none : a - (made + 1) ≡ 0 = omega arith in
          so (gone_on z moved
          ∙ ap (λ m. passes_from code n f m (made + 1) (frame_of n t)) none
          ∙ step_spent code n f (made + 1) (frame_of n t)
          ∙ outcome_ext spent (made + 1) (made + 1) (counted n f (frame_of n t)) bits
          (bad_rows code n (frame_of n t)) rows (bad_columns code n (frame_of n t)) columns (frame_of n t) (frame_of n t)
          refl (sym count) (sym (rows_is code n (frame_of n t) rows columns m.rows_bad m.columns_bad)) (sym (columns_is code n (frame_of n t) rows columns m.rows_bad m.columns_bad)) refl)
