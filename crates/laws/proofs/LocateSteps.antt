-- The steps of the program that locates, over any marking: the mark of a remainder bit by bit, no place by its mark, and two.
-- Assumes nothing.
use mathlib.Core.Path.{◌≡◌, sym, ap, ap₂, subst, ◌∙◌}
use mathlib.Core.Logic.{◌≢◌, ⊎_elim}
use Prim.Native.Nat.{ℕ, zero, suc, ◌+◌, ◌*◌, ◌/◌, ◌%◌, ◌^◌, ◌≤◌, ◌<◌, max, min}
use native.Mathlib.Decide.{ℕ_discrete}
use native.Mathlib.Nat.{mod-lt, div-one}
use native.Mathlib.Numerals.{add-one}
use native.Mathlib.Omega.{arith}
use lib.Pow.{pow_pos, shr-shr}
use Rattle.std.specs.List.{fold, range_with_len}
use Rattle.algebra.specs.Xor.{◌⊕◌}
use Rattle.algebra.specs.Linear.{Additive, lin}
use Rattle.algebra.specs.Tables.{tab, tab_from}
use Rattle.algebra.specs.Marking.{Marking, order, a_power, power_part, cube_part, mark_at, log_at, half_at, mark_of, Reduced, Slot}
use Rattle.algebra.proofs.XorLaws.{⊕_self, ⊕-zero, zero-⊕, ⊕_assoc, ⊕_comm, ⊕_cancel, ⊕_zero→≡}
use Rattle.algebra.proofs.LinearLaws.{additive_zero}
use Rattle.algebra.proofs.MarkLaws.{Fit, power_additive, cube_additive, power_at, cube_at}
use Rattle.algebra.proofs.PairLaws.{pow-some, pow_same, log_pow, log_small, pow_log, half_found}
use Rattle.laws.specs.Search.{NoLone, Lone, NoPair, Pair, EitherOf}

-- ---- the mark of a remainder, from the lowest bit up

module _ (m : Marking) (x : ℕ) where
  -- w, and what the ones of x add from z^i on
  added : (i k w : ℕ) → fold (λ v j. v ⊕ x / 2 ^ j % 2 * mark_at m j) w (range_with_len i k) ≡ w ⊕ lin (tab_from i k (mark_at m)) (x / 2 ^ i)
  unfolding lin tab_from
  added i zero w = sym (⊕-zero w)
  added i (suc k) w =
      let b : ℕ = x / 2 ^ i % 2 * mark_at m i in
      added (i + 1) k (w ⊕ b) ∙ ⊕_assoc w b (lin (tab_from (i + 1) k (mark_at m)) (x / 2 ^ (i + 1)))
      ∙ ap₂ (λ e y. w ⊕ (b ⊕ lin (tab_from e k (mark_at m)) y)) (add-one i) (sym (shr-shr x i 1))

  pub all_added : fold (λ v j. v ⊕ x / 2 ^ j % 2 * mark_at m j) 0 (range_with_len 0 (suc m.last)) ≡ mark_of m x
  unfolding mark_of tab
  all_added = added 0 (suc m.last) 0 ∙ zero-⊕ _ ∙ ap (lin (tab_from 0 (suc m.last) (mark_at m))) (div-one x)

module _ (m : Marking) (fit : Fit m) where
  -- ---- no place: its exponent would be the logarithm of the power

  module _ (bound w : ℕ) (small : bound ≤ order m) where
    power_of_lem : (e : ℕ) → e < bound → w ≡ mark_at m e → power_part m w ≡ a_power m e
    power_of_lem e h q = ap (power_part m) q ∙ power_at m fit e (omega arith)

    pub lone-zero : power_part m w ≡ 0 → NoLone m bound w
    lone-zero z e h q = pow-some m fit e (sym (power_of_lem e h q) ∙ z)

    module _ (s e : ℕ) (qs : s ≡ power_part m w) (qe : e ≡ log_at m s) where
      lone_is : (f : ℕ) → f < bound → w ≡ mark_at m f → e ≡ f
      lone_is f h q = qe ∙ ap (log_at m) (qs ∙ power_of_lem f h q) ∙ log_pow m fit f (omega arith)

      pub lone_far : bound ≤ e → NoLone m bound w
      lone_far k f h q = omega (arith, lone_is f h q)

      pub lone_other : mark_at m e ≢ w → NoLone m bound w
      lone_other k f h q = k (ap (mark_at m) (lone_is f h q) ∙ sym q)

  -- ---- one of two places: by the half at the slot of the quotient

  module _ (w : ℕ) where
    -- a part that goes by ⊕, of two marks
    part_of_two :
        (part at : ℕ → ℕ) → Additive part → ((e : ℕ) → e < order m → part (mark_at m e) ≡ at e) → (f g : ℕ) → g < f → f < order m
        → w ≡ mark_at m f ⊕ mark_at m g → part w ≡ at f ⊕ at g
    part_of_two part at add is f g l h q = ap part q ∙ add (mark_at m f) (mark_at m g) ∙ ap₂ ◌⊕◌ (is f h) (is g (omega arith))

    power_of_two : (f g : ℕ) → g < f → f < order m → w ≡ mark_at m f ⊕ mark_at m g → power_part m w ≡ a_power m f ⊕ a_power m g
    power_of_two = part_of_two (power_part m) (a_power m) (power_additive m) (power_at m fit)

    cube_of_two : (f g : ℕ) → g < f → f < order m → w ≡ mark_at m f ⊕ mark_at m g → cube_part m w ≡ a_power m (3 * f) ⊕ a_power m (3 * g)
    cube_of_two = part_of_two (cube_part m) (λ e. a_power m (3 * e)) (cube_additive m) (cube_at m fit)

    pub no_power : power_part m w ≡ 0 → NoPair m (order m) w
    no_power z f g h l q =
        let k = pow_same m fit f g l (omega arith) (⊕_zero→≡ (sym (power_of_two f g h l q) ∙ z)) in omega (arith, k)

    pub half_one :
        (s l c k e : ℕ) → s ≡ power_part m w → s ≢ 0 → l ≡ log_at m s → c ≡ cube_part m w → Slot m l c k → e < order m
        → Reduced m (half_at m k + l) e → EitherOf m w e
    half_one s l c k e qs ns ql qc slot he r =
        let hs : s < 2 ^ suc m.top = rw qs (mod-lt (w / 2 ^ suc m.last) (pow_pos (suc m.top))) in
        record {
          below = he;
          apart = λ z. ns (qs ∙ z);
          either = λ f g o h q.
              half_found m fit f g l k e h (omega arith) (rw ql (log_small m fit s ns hs)) he
              (ap (a_power m) ql ∙ pow_log m fit s ns hs ∙ qs ∙ power_of_two f g o h q)
              (subst (λ x. Slot m l x k) (qc ∙ cube_of_two f g o h q) slot) r;
        }

  -- ---- two places: one of them, and the other by the mark that is left

  module _ (bound w e : ℕ) (small : bound ≤ order m) (one : EitherOf m w e) where
    module _ (v : ℕ) (qv : v ≡ mark_at m e) where
      -- what is left of two marks is the other
      left_of : (x y : ℕ) → e ≡ x → w ≡ mark_at m x ⊕ mark_at m y → w ⊕ v ≡ mark_at m y
      left_of x y s q =
          ap₂ ◌⊕◌ q (qv ∙ ap (mark_at m) s) ∙ ⊕_comm (mark_at m x ⊕ mark_at m y) (mark_at m x) ∙ ⊕_cancel (mark_at m x) (mark_at m y)

      pub pair_alone : NoLone m bound (w ⊕ v) → NoPair m bound w
      pair_alone none i j l b q =
          ⊎_elim (λ s. none j (omega arith) (left_of i j s q))
          (λ s. none i b (left_of j i s (q ∙ ⊕_comm (mark_at m i) (mark_at m j)))) (one.either i j l (omega arith) q)

      module _ (f : ℕ) (lone : Lone m bound (w ⊕ v) f) where
        both : w ≡ mark_at m e ⊕ mark_at m f
        both = sym (⊕_cancel v w) ∙ ap (λ x. v ⊕ x) (⊕_comm v w ∙ lone.found) ∙ ap (λ x. x ⊕ mark_at m f) qv

        -- were they the same, nothing would be left
        not_same : e ≢ f
        not_same s =
            let z : w ≡ 0 = both ∙ ap (λ x. mark_at m e ⊕ mark_at m x) (sym s) ∙ ⊕_self (mark_at m e) in
            one.apart (ap (power_part m) z ∙ additive_zero (power_part m) (power_additive m))

        pub pair_found : (high low : ℕ) → e < bound → high ≡ max e f → low ≡ min e f → Pair m bound w high low
        pair_found high low h p q =
            record {
              below = omega (arith, lone.below);
              apart = omega (arith, not_same);
              found = both ∙ in_order (ℕ_discrete e high);
            }
          where
            in_order : Dec (e ≡ high) → mark_at m e ⊕ mark_at m f ≡ mark_at m high ⊕ mark_at m low
            in_order (yes d) = ap₂ (λ x y. mark_at m x ⊕ mark_at m y) d (omega arith)
            in_order (no d) = ⊕_comm (mark_at m e) (mark_at m f) ∙ ap₂ (λ x y. mark_at m x ⊕ mark_at m y) (omega arith) (omega arith)
