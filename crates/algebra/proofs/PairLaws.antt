-- The halves: of two exponents, one is found by the sum of the powers and the sum of the cubes alone.
-- Assumes nothing.
use mathlib.Core.Path.{◌≡◌, refl, sym, ap, ap₂, ◌∙◌}
use mathlib.Core.Logic.{◌≢◌, ◌⊎◌, inl, inr, ⊎_elim}
use mathlib.Core.Bool.{Bool, true, false, cond, ◌||◌}
use Prim.Native.Nat.{ℕ, zero, suc, ◌+◌, ◌*◌, ◌-◌, ◌%◌, ◌^◌, ◌<◌}
use native.Mathlib.Decide.{dec_lt}
use native.Mathlib.Omega.{arith}
use borrow.Author.Tests.{ne_eqb, eqb-true}
use lib.Dec.{eqb}
use Rattle.algebra.specs.Xor.{◌⊕◌}
use Rattle.algebra.specs.Register.{iter}
use Rattle.algebra.specs.Marking.{Marking, order, times_a, a_power, power_part, cube_part, powers_of, mark_at, log_at, half_at, slot_of, is_half, Reduced, Slot}
use Rattle.algebra.proofs.XorLaws.{⊕_self, ⊕_cancel, ⊕_zero→≡, ≡→⊕-zero, ⊕-lt}
use Rattle.algebra.proofs.LinearLaws.{additive_iter}
use Rattle.algebra.proofs.RegisterLaws.{turn_additive, iter-add, iter_comm, iter-lt, iter-zero, iter_nonzero, one-lt}
use Rattle.algebra.proofs.TableLaws.{below_each}
use Rattle.algebra.proofs.LogTableLaws.{tables_small, tables_odd, round, power_log, log_power, logs-lt, power_injective}
use Rattle.algebra.proofs.MarkLaws.{Fit, power_at, cube_at}

module _ (m : Marking) (fit : Fit m) where
  abbrev pow : ℕ → ℕ
  pow = a_power m

  abbrev step : ℕ → ℕ → ℕ
  step n = iter n (times_a m)

  abbrev size : ℕ
  size = 2 ^ suc m.top

  tap_small : m.tap < size
  tap_small = tables_small m.top m.tap (powers_of m) m.logs fit.tables

  tap_odd : m.tap % 2 ≡ 1
  tap_odd = tables_odd m.top m.tap (powers_of m) m.logs fit.tables

  step-add : (n x y : ℕ) → step n (x ⊕ y) ≡ step n x ⊕ step n y
  step-add n = additive_iter (times_a m) (turn_additive m.top m.tap) n

  pub pow_small : (e : ℕ) → pow e < size
  pow_small e = iter-lt m.top tap_small e 1 (one-lt m.top)

  pub pow-some : (e : ℕ) → pow e ≢ 0
  pow-some e z =
      let q : ◌≡◌ {A = ℕ} 1 0 = iter_nonzero m.top m.tap tap_small tap_odd e 1 (one-lt m.top) z in omega arith

  pub pow_same : (e f : ℕ) → e < order m → f < order m → pow e ≡ pow f → e ≡ f
  pow_same = power_injective m.top m.tap (powers_of m) m.logs fit.tables

  pub log_pow : (e : ℕ) → e < order m → log_at m (pow e) ≡ e
  log_pow = power_log m.top m.tap (powers_of m) m.logs fit.tables

  pub pow_log : (x : ℕ) → x ≢ 0 → x < size → pow (log_at m x) ≡ x
  pow_log x n h = log_power m.top m.tap (powers_of m) m.logs fit.tables x (omega (arith, n)) h

  pub log_small : (x : ℕ) → x ≢ 0 → x < size → log_at m x < order m
  log_small x n h = logs-lt m.top m.tap (powers_of m) m.logs fit.tables x (omega (arith, n)) h

  -- no number of steps makes two numbers one
  unstep : (n x y : ℕ) → x < size → y < size → step n x ≡ step n y → x ≡ y
  unstep n x y hx hy e =
      ⊕_zero→≡ (iter_nonzero m.top m.tap tap_small tap_odd n (x ⊕ y) (⊕-lt (suc m.top) hx hy) (step-add n x y ∙ ≡→⊕-zero e))

  -- ---- exponents that are reduced

  pow_more : (e : ℕ) → pow (e + order m) ≡ pow e
  pow_more e =
      iter-add e (order m) (times_a m) 1 ∙ ap (step e) (round m.top m.tap (powers_of m) m.logs fit.tables)

  pub pow_reduced : (x e : ℕ) → Reduced m x e → pow x ≡ pow e
  pow_reduced x e (inl q) = ap pow q
  pow_reduced x e (inr q) = ap pow q ∙ pow_more e

  cube_reduced : (x e : ℕ) → Reduced m x e → pow (3 * x) ≡ pow (3 * e)
  cube_reduced x e (inl q) = ap (λ n. pow (3 * n)) q
  cube_reduced x e (inr q) =
      let r : 3 * x ≡ 3 * e + order m + order m + order m = omega (arith, q) in
      ap pow r ∙ pow_more (3 * e + order m + order m) ∙ pow_more (3 * e + order m) ∙ pow_more (3 * e)

  -- each exponent is one that l was added to
  undone : (l f : ℕ) → l < order m → f < order m → (i : ℕ) × (i < order m) × Reduced m (l + i) f
  undone l f hl hf = go (dec_lt f l)
    where
      go : Dec (f < l) → (i : ℕ) × (i < order m) × Reduced m (l + i) f
      go (yes k) = (f + order m - l, omega (arith, k), inr (omega (arith, k)))
      go (no k) = (f - l, omega (arith, k), inl (omega (arith, k)))

  -- ---- the slot of a quotient: of the number that 3 l steps lead to s

  slot_log : (t : ℕ) → t ≢ 0 → slot_of m t ≡ log_at m t
  slot_log t n = ap (λ b. cond b (order m) (log_at m t)) (ne_eqb t 0 n)

  pub slot-zero : (l : ℕ) → Slot m l 0 (order m)
  slot-zero l t small e =
      let z : t ≡ 0 = iter_nonzero m.top m.tap tap_small tap_odd (3 * l) t small e in sym (ap (slot_of m) z)

  pub slot-some :
      (l s c k : ℕ) → l < order m → s ≢ 0 → s < size → c ≡ log_at m (cube_part m (mark_at m l)) → k < order m
      → Reduced m (log_at m s + (order m - c)) k → Slot m l s k
  slot-some l s c k hl ns hs qc hk r t small e =
      let nt : t ≢ 0 = λ z. ns (sym e ∙ ap (step (3 * l)) z ∙ iter-zero m.top m.tap (3 * l)) in
      let u : ℕ = log_at m t in
      let pu : pow u ≡ t = pow_log t nt small in
      let pc : pow c ≡ pow (3 * l) =
      ap (λ x. pow x) (qc ∙ ap (log_at m) (cube_at m fit l hl))
      ∙ pow_log (pow (3 * l)) (pow-some (3 * l)) (pow_small (3 * l)) in
      let hc : c < order m = rw (qc, cube_at m fit l hl) (log_small (pow (3 * l)) (pow-some (3 * l)) (pow_small (3 * l))) in
      let q : c + (log_at m s + (order m - c)) ≡ log_at m s + order m = omega arith in
      let there : step c (pow k) ≡ s =
      ap (step c) (sym (pow_reduced (log_at m s + (order m - c)) k r))
      ∙ sym (iter-add c (log_at m s + (order m - c)) (times_a m) 1) ∙ ap pow q ∙ pow_more (log_at m s) ∙ pow_log s ns hs in
      let also : step c t ≡ s =
      ap (step c) (sym pu) ∙ iter_comm c u (times_a m) 1 ∙ ap (step u) pc ∙ iter_comm u (3 * l) (times_a m) 1 ∙ ap (step (3 * l)) pu ∙ e in
      sym (slot_log t nt ∙ ap (log_at m) (sym (unstep c (pow k) t (pow_small k) small (there ∙ sym also))) ∙ log_pow k hk)

  -- ---- the half

  -- two that make 1: the table has one of them
  pub half_of_one :
      (i j : ℕ) → i < order m → j < order m → pow i ⊕ pow j ≡ 1
      → (half_at m (slot_of m (pow (3 * i) ⊕ pow (3 * j))) ≡ i) ⊎ (half_at m (slot_of m (pow (3 * i) ⊕ pow (3 * j))) ≡ j)
  unfolding is_half iter
  half_of_one zero j hi hj e =
      let z : pow j ≡ 0 = sym (⊕_cancel 1 (pow j)) ∙ ap (λ x. 1 ⊕ x) e ∙ ⊕_self 1 in absurd (pow-some j z)
  half_of_one (suc i) j hi hj e =
      let t = (below_each (order m - 1) (λ i. is_half m (suc i))).0 (T_true fit.pairs) i (omega arith) in
      let s : power_part m (mark_at m (suc i)) ⊕ 1 ≡ pow j =
      ap (λ x. x ⊕ 1) (power_at m fit (suc i) hi) ∙ ap (λ x. pow (suc i) ⊕ x) (sym e) ∙ ⊕_cancel (pow (suc i)) (pow j) in
      let l : log_at m (power_part m (mark_at m (suc i)) ⊕ 1) ≡ j = ap (log_at m) s ∙ log_pow j hj in
      either (rw (l, cube_at m fit (suc i) hi, cube_at m fit j hj) at t)
    where
      T_true : {b : Bool} → lib.Dec.T b → b ≡ true
      T_true {b = true} h = refl
      T_true {b = false} h = elim h [ ]

      either : {a x y : ℕ} → eqb a x || eqb a y ≡ true → (a ≡ x) ⊎ (a ≡ y)
      either {a} {x} {y} = go (eqb a x) refl
        where
          go : (b : Bool) → eqb a x ≡ b → b || eqb a y ≡ true → (a ≡ x) ⊎ (a ≡ y)
          go true q h = inl (eqb-true a x q)
          go false q h = inr (eqb-true a y h)

  -- any two
  pub half_found :
      (f g l k e : ℕ) → f < order m → g < order m → l < order m → e < order m → pow l ≡ pow f ⊕ pow g
      → Slot m l (pow (3 * f) ⊕ pow (3 * g)) k → Reduced m (half_at m k + l) e → (e ≡ f) ⊎ (e ≡ g)
  half_found f g l k e hf hg hl he s slot r = go (undone l f hl hf) (undone l g hl hg)
    where
      go :
          ((i : ℕ) × (i < order m) × Reduced m (l + i) f) → ((j : ℕ) × (j < order m) × Reduced m (l + j) g)
          → (e ≡ f) ⊎ (e ≡ g)
      go (i, hi, ri) (j, hj, rj) =
          let one : pow i ⊕ pow j ≡ 1 =
          unstep l (pow i ⊕ pow j) 1 (⊕-lt (suc m.top) (pow_small i) (pow_small j)) (one-lt m.top)
          (step-add l (pow i) (pow j)
          ∙ ap₂ ◌⊕◌ (sym (iter-add l i (times_a m) 1) ∙ pow_reduced (l + i) f ri) (sym (iter-add l j (times_a m) 1) ∙ pow_reduced (l + j) g rj)
          ∙ sym s) in
          let sums : step (3 * l) (pow (3 * i) ⊕ pow (3 * j)) ≡ pow (3 * f) ⊕ pow (3 * g) =
          step-add (3 * l) (pow (3 * i)) (pow (3 * j)) ∙ ap₂ ◌⊕◌ (cubed i f ri) (cubed j g rj) in
          let q : k ≡ slot_of m (pow (3 * i) ⊕ pow (3 * j)) =
          slot (pow (3 * i) ⊕ pow (3 * j)) (⊕-lt (suc m.top) (pow_small (3 * i)) (pow_small (3 * j))) sums in
          ⊎_elim (λ h. inl (same i f hf ri h)) (λ h. inr (same j g hg rj h)) (rw (← q) at (half_of_one i j hi hj one))
        where
          cubed : (i f : ℕ) → Reduced m (l + i) f → step (3 * l) (pow (3 * i)) ≡ pow (3 * f)
          cubed i f ri =
              let d : 3 * l + 3 * i ≡ 3 * (l + i) = omega arith in
              sym (iter-add (3 * l) (3 * i) (times_a m) 1) ∙ ap pow d ∙ cube_reduced (l + i) f ri

          same : (i f : ℕ) → f < order m → Reduced m (l + i) f → half_at m k ≡ i → e ≡ f
          same i f hf ri h =
              let d : half_at m k + l ≡ l + i = omega (arith, h) in
              pow_same e f he hf (sym (pow_reduced (half_at m k + l) e r) ∙ ap pow d ∙ pow_reduced (l + i) f ri)
