-- RULES 5: the pass rule, stated without the recursion of its definition. It holds of `decoded`, and of nothing else.
-- Assumes nothing.
use mathlib.Core.Path.{◌≡◌, refl, sym, ap, ap₂, ◌∙◌}
use mathlib.Core.Logic.{◌↔◌}
use mathlib.Core.Bool.{Bool, true, false, cond, ◌&&◌, and-eq-true_iff, not-eq-not}
use Prim.Native.Nat.{ℕ, zero, suc, ◌+◌, ◌-◌, ◌≤◌, ◌<◌}
use native.Mathlib.Omega.{arith}
use native.Mathlib.Decide.{dec_lt}
use lib.Dec.{leb, eqb}
use borrow.Author.Tests.{leb-true, eqb-true, le-leb, eq-eqb}
use Rattle.algebra.specs.Remainder.{is_odd}
use Rattle.rules.specs.Codes.{Code}
use Rattle.rules.specs.Words.{mend}
use Rattle.rules.specs.Frames.{Frame, Square, row, transposed, bad_rows, bad_columns, is_frame}
use Rattle.rules.specs.Passes.{pass_rows, pass_columns, pass, differences, counted, is_stuck, passes_from, decoded}
use Rattle.rules.specs.Passes.{Ending, clean, repaired, stuck, spent, Outcome}
use Rattle.rules.proofs.Laws.PassLaws.{decoded_clean, decoded_passes, step_repaired, step_stuck, step_on, step_spent}
use Rattle.rules.proofs.Laws.PassLaws.{pass_rows-row, pass_columns-row, pass_rows-square, pass_columns-square}
use Rattle.rules.proofs.Laws.DifferenceLaws.{differences_self}

-- ---- The statement

-- the frame after p passes: rows at odd ones, columns at even ones
unfoldable pub after : Code → ℕ → Frame → ℕ → Frame
after code n f zero = f
after code n f (suc p) = cond (is_odd (suc p)) (pass_rows code n (after code n f p)) (pass_columns code n (after code n f p))

-- how many bits the pass behind the first p changes
abbrev pub changed_bits : Code → ℕ → Frame → ℕ → ℕ
changed_bits code n f p = differences n (after code n f p) (after code n f (suc p))

-- there is a frame after p passes
abbrev pub WholeAfter : Code → ℕ → Frame → ℕ → Type 0
WholeAfter code n f p = is_frame code n (after code n f p) ≡ true

-- pass p flipped nothing, and is not the first
abbrev pub Idle : Code → ℕ → Frame → ℕ → Type 0
Idle code n f p = (2 ≤ p) × (changed_bits code n f (p - 1) ≡ 0)

-- the received frame is none of codewords, p passes are made of an allowance of a, and no pass before ended them
pub record Running (code : Code) (n a : ℕ) (f : Frame) (p : ℕ) : Type 0 where
  pub not_frame : is_frame code n f ≡ false
  pub some : 1 ≤ p
  pub allowed : p ≤ a
  pub before : (q : ℕ) → 1 ≤ q → q < p → (¬ WholeAfter code n f q) × (¬ Idle code n f q)

-- what each ending says: clean of the received frame; the others of the first pass at which a test is met, in their order
abbrev pub Ends : Code → ℕ → ℕ → Frame → ℕ → Ending → Type 0
Ends code n a f p clean = (p ≡ 0) × (is_frame code n f ≡ true)
Ends code n a f p repaired = Running code n a f p × WholeAfter code n f p
Ends code n a f p stuck = Running code n a f p × (¬ WholeAfter code n f p) × Idle code n f p
Ends code n a f p spent = Running code n a f p × (¬ WholeAfter code n f p) × (¬ Idle code n f p) × (p ≡ a)

-- what is counted for stuck and spent alone
abbrev pub left : Ending → ℕ → ℕ
left clean x = 0
left repaired x = 0
left stuck x = x
left spent x = x

-- every value of an outcome: the bits are those in which the last frame differs from the received one, and rows and columns are
-- counted in the last frame
pub record PassRule (code : Code) (n a : ℕ) (f : Frame) (o : Outcome) : Type 0 where
  pub ends : Ends code n a f o.passes o.ending
  pub last_is : o.last ≡ after code n f o.passes
  pub bits_are : o.bits ≡ differences n f (after code n f o.passes)
  pub rows_are : o.rows ≡ left o.ending (bad_rows code n (after code n f o.passes))
  pub columns_are : o.columns ≡ left o.ending (bad_columns code n (after code n f o.passes))

pub record PassesPromise (code : Code) : Type 0 where
  -- each word of a pass by its own answer
  pub in_rows : (n : ℕ) (f : Frame) (i : ℕ) → i < n → row (pass_rows code n f) i ≡ mend code n (row f i)
  pub in_columns : (n : ℕ) (f : Frame) (j : ℕ) → j < n → row (transposed n (pass_columns code n f)) j ≡ mend code n (row (transposed n f) j)
  -- and there stay n rows of n bits
  pub square : (n : ℕ) (f : Frame) → Square n f → (p : ℕ) → Square n (after code n f p)
  pub holds : (n a : ℕ) (f : Frame) → 1 ≤ a → PassRule code n a f (decoded code n a f)
  pub only : (n a : ℕ) (f : Frame) (o : Outcome) → 1 ≤ a → PassRule code n a f o → o ≡ decoded code n a f

-- ---- One pass, and the tests

pass_after : (code : Code) (n : ℕ) (f : Frame) (p : ℕ) → pass code n (suc p) (after code n f p) ≡ after code n f (suc p)
unfolding pass after
pass_after code n f p = refl

after_none : (code : Code) (n : ℕ) (f : Frame) → f ≡ after code n f 0
unfolding after
after_none code n f = refl

after_square : (code : Code) (n : ℕ) (f : Frame) → Square n f → (p : ℕ) → Square n (after code n f p)
unfolding after
after_square code n f s zero = s
after_square code n f s (suc p) = go (is_odd (suc p)) (after_square code n f s p)
  where
    go : (b : Bool) → Square n (after code n f p) → Square n (cond b (pass_rows code n (after code n f p)) (pass_columns code n (after code n f p)))
    go true before = pass_rows-square code n (after code n f p) before
    go false before = pass_columns-square code n (after code n f p)

no_true : {b : Bool} → (¬ (b ≡ true)) ↔ (b ≡ false)
no_true = not-eq-not {b = false}

stuck_is : (p c : ℕ) → is_stuck p c ≡ true → (2 ≤ p) × (c ≡ 0)
stuck_is p c e = let h = (and-eq-true_iff (leb 2 p) (eqb c 0)).0 e in (leb-true 2 p h.0, eqb-true c 0 h.1)

is_stuck_lem : (p c : ℕ) → (2 ≤ p) × (c ≡ 0) → is_stuck p c ≡ true
is_stuck_lem p c h = ap₂ ◌&&◌ (le-leb 2 p h.0) (eq-eqb c 0 h.1)

-- ---- The rule holds

-- the numbers of an outcome, by its ending, passes, bits and frame
abbrev carried : Code → ℕ → Ending → ℕ → ℕ → Frame → Outcome
carried code n e p x g =
    record { ending = e; passes = p; bits = x; rows = left e (bad_rows code n g); columns = left e (bad_columns code n g); last = g }

rule :
    (code : Code) (n a : ℕ) (f : Frame) (e : Ending) (p x : ℕ) (g : Frame) → Ends code n a f p e → g ≡ after code n f p → x ≡ differences n f g
    → PassRule code n a f (carried code n e p x g)
rule code n a f e p x g h eg ex =
    let r = ap (λ y. left e (bad_rows code n y)) eg in
    let c = ap (λ y. left e (bad_columns code n y)) eg in
    record { ends = h; last_is = eg; bits_are = ex ∙ ap (differences n f) eg; rows_are = r; columns_are = c }

module _ (code : Code) (n a : ℕ) (f : Frame) (some : 1 ≤ a) (not_frame : is_frame code n f ≡ false) where
  -- no pass before pass p ended them
  abbrev Quiet : ℕ → Type 0
  Quiet p = (q : ℕ) → 1 ≤ q → q < p → (¬ WholeAfter code n f q) × (¬ Idle code n f q)

  one_more : (p : ℕ) → Quiet p → ¬ WholeAfter code n f p → ¬ Idle code n f p → Quiet (suc p)
  one_more p quiet w i q s l = go (dec_lt q p)
    where
      go : Dec (q < p) → (¬ WholeAfter code n f q) × (¬ Idle code n f q)
      go (yes h) = quiet q s h
      go (no h) = let e : q ≡ p = omega (arith, h) in rw e (w, i)

  -- one pass more, behind m of them that left the frame g
  module _ (m : ℕ) (g : Frame) (eg : g ≡ after code n f m) (quiet : Quiet (suc m)) where
    abbrev h : Frame
    h = pass code n (suc m) g

    abbrev changed : ℕ
    changed = changed_bits code n f (suc m - 1)

    frame_is : h ≡ after code n f (suc m)
    frame_is = ap (pass code n (suc m)) eg ∙ pass_after code n f m

    changed_is : changed ≡ differences n g h
    changed_is = let e : suc m - 1 ≡ m = omega arith in ap (changed_bits code n f) e ∙ sym (ap₂ (differences n) eg frame_is)

    step :
        (l : ℕ) → m + suc l ≡ a → (Quiet (suc (suc m)) → PassRule code n a f (passes_from code n f l (suc m) h))
        → PassRule code n a f (passes_from code n f (suc l) m g)
    step l s next =
        go (is_frame code n h) (is_stuck (suc m) (differences n g h)) (ap (is_frame code n) (sym frame_is)) refl (ap (is_stuck (suc m)) changed_is) refl
      where
        running : Running code n a f (suc m)
        running = record { not_frame = not_frame; some = omega arith; allowed = omega arith; before = quiet }

        go :
            (b c : Bool) → is_frame code n (after code n f (suc m)) ≡ b → is_frame code n h ≡ b → is_stuck (suc m) changed ≡ c
            → is_stuck (suc m) (differences n g h) ≡ c → PassRule code n a f (passes_from code n f (suc l) m g)
        go true c w w' t t' =
            rw (step_repaired code n f l m g w') (rule code n a f repaired (suc m) (counted n f h) h (running, w) frame_is refl)
        go false true w w' t t' =
            rw (step_stuck code n f l m g w' t')
            (rule code n a f stuck (suc m) (counted n f h) h (running, no_true.1 w, stuck_is (suc m) changed t) frame_is refl)
        go false false w w' t t' =
            rw (step_on code n f l m g w' t')
            (next (one_more (suc m) quiet (no_true.1 w) (λ i. no_true.1 t (is_stuck_lem (suc m) changed i))))

  -- the passes behind the first m, of which l are left
  runs : (l m : ℕ) (g : Frame) → m + l ≡ a → g ≡ after code n f m → Quiet (suc m) → PassRule code n a f (passes_from code n f l m g)
  runs zero m g s eg quiet =
      let here = quiet m (omega arith) (omega arith) in
      let running : Running code n a f m =
      record { not_frame = not_frame; some = omega arith; allowed = omega arith; before = λ q s l. quiet q s (omega arith) } in
      rw (step_spent code n f m g) (rule code n a f spent m (counted n f g) g (running, here.0, here.1, omega arith) eg refl)
  runs (suc l) m g s eg quiet =
      step m g eg quiet l s (runs l (suc m) (pass code n (suc m) g) (omega arith) (frame_is m g eg quiet))

holds_of : (code : Code) (n a : ℕ) (f : Frame) → 1 ≤ a → PassRule code n a f (decoded code n a f)
holds_of code n a f some = start (is_frame code n f) refl
  where
    start : (b : Bool) → is_frame code n f ≡ b → PassRule code n a f (decoded code n a f)
    start true w = rw (decoded_clean code n a f w) (rule code n a f clean 0 0 f (refl, w) (after_none code n f) (sym (differences_self n f)))
    start false w =
        rw (decoded_passes code n a f w)
        (runs code n a f some w a 0 f (omega arith) (after_none code n f) (λ q s l. absurd (omega arith)))

-- ---- Nothing else does

-- the ending, by the tests that the rule names
abbrev named : Bool → Bool → Bool → Ending
named true w t = clean
named false true t = repaired
named false false true = stuck
named false false false = spent

module _ (code : Code) (n a : ℕ) (f : Frame) where
  abbrev ending_at : ℕ → Ending
  ending_at p = named (is_frame code n f) (is_frame code n (after code n f p)) (is_stuck p (changed_bits code n f (p - 1)))

  ending_is : (p : ℕ) (e : Ending) → Ends code n a f p e → e ≡ ending_at p
  ending_is p clean h = λ i. named (sym h.1 i) (is_frame code n (after code n f p)) (is_stuck p (changed_bits code n f (p - 1)))
  ending_is p repaired h = λ i. named (sym h.0.not_frame i) (sym h.1 i) (is_stuck p (changed_bits code n f (p - 1)))
  ending_is p stuck h =
      λ i. named (sym h.0.not_frame i) (sym (no_true.0 h.1) i) (sym (is_stuck_lem p (changed_bits code n f (p - 1)) h.2) i)
  ending_is p spent h =
      let t = no_true.0 (λ t. h.2 (stuck_is p (changed_bits code n f (p - 1)) t)) in
      λ i. named (sym h.0.not_frame i) (sym (no_true.0 h.1) i) (sym t i)

  -- where p passes ended them, no more are made
  no_more : (p : ℕ) (e : Ending) → Ends code n a f p e → (q : ℕ) → Running code n a f q → ¬ (p < q)
  no_more p clean h q r l = no_true.1 r.not_frame h.1
  no_more p repaired h q r l = (r.before p h.0.some l).0 h.1
  no_more p stuck h q r l = (r.before p h.0.some l).1 h.2
  no_more p spent h q r l = omega (arith, r.allowed, h.3)

  at_most : (p q : ℕ) (e d : Ending) → Ends code n a f p e → Ends code n a f q d → q ≤ p
  at_most p q e clean g h = omega (arith, h.0)
  at_most p q e repaired g h = omega (arith, no_more p e g q h.0)
  at_most p q e stuck g h = omega (arith, no_more p e g q h.0)
  at_most p q e spent g h = omega (arith, no_more p e g q h.0)

  abbrev told : Ending → ℕ → Outcome
  told e p = carried code n e p (differences n f (after code n f p)) (after code n f p)

  told_is : (o : Outcome) → PassRule code n a f o → o ≡ told o.ending o.passes
  told_is o r =
      let record { ends = _; last_is = g; bits_are = x; rows_are = b; columns_are = c } = r in
      λ i. record { ending = o.ending; passes = o.passes; bits = x i; rows = b i; columns = c i; last = g i }

  one_outcome : (o o' : Outcome) → PassRule code n a f o → PassRule code n a f o' → o ≡ o'
  one_outcome o o' r r' =
      let le = at_most o.passes o'.passes o.ending o'.ending r.ends r'.ends in
      let ge = at_most o'.passes o.passes o'.ending o.ending r'.ends r.ends in
      let passes : o.passes ≡ o'.passes = omega arith in
      let e = ending_is o.passes o.ending r.ends in
      let e' = ending_is o'.passes o'.ending r'.ends in
      told_is o r ∙ ap₂ told (e ∙ ap ending_at passes ∙ sym e') passes ∙ sym (told_is o' r')

pub passes_promise : (code : Code) → PassesPromise code
passes_promise code = record {
  in_rows = pass_rows-row code;
  in_columns = pass_columns-row code;
  square = after_square code;
  holds = holds_of code;
  only = λ n a f o some r. one_outcome code n a f o (decoded code n a f) r (holds_of code n a f some);
}
