-- Marks that pass the tests: of each exponent and of each remainder they are what they say, and they go by ⊕.
-- Assumes nothing.
use mathlib.Core.Path.{◌≡◌, refl, sym, ap, ap₂, ◌∙◌}
use mathlib.Core.Logic.{◌↔◌}
use mathlib.Core.List.{List, [], ◌∷◌, map}
use Prim.Native.Nat.{ℕ, zero, suc, ◌+◌, ◌*◌, ◌-◌, ◌/◌, ◌%◌, ◌^◌, ◌<◌}
use native.Mathlib.Nat.{one-mul}
use native.Mathlib.Omega.{arith}
use lib.Dec.{T, eqb, eqb→eq, ltb, ltb→lt}
use lib.ListN.{length, get_or, length-map}
use lib.Pow.{split}
use Rattle.algebra.specs.Xor.{◌⊕◌}
use Rattle.algebra.specs.Register.{iter}
use Rattle.algebra.specs.Linear.{Additive}
use Rattle.algebra.specs.Tables.{tab, all_below}
use Rattle.algebra.specs.LogTables.{follows, Tables}
use Rattle.algebra.specs.Marking.{Marking, order, times_a, times_z, a_power, z_power, remainder_part, power_part, cube_part, powers_of, mark_at, mark_of, is_half}
use Rattle.algebra.proofs.XorLaws.{⊕-div, ⊕-mod}
use Rattle.algebra.proofs.LinearLaws.{lin_additive, additive_compose, additive_id, agree, agrees, agrees→}
use Rattle.algebra.proofs.RegisterLaws.{iter-mul, iter-lt, one-lt, carry_tested}
use Rattle.algebra.proofs.LogTableLaws.{follows_at, count_powers}

-- what makes the lists of a marking its tables: tests that compute
pub record Fit (m : Marking) : Type 0 where
  -- the powers and their logarithms
  pub tables : Tables m.top m.tap (powers_of m) m.logs
  -- the other two parts of the marks
  pub narrow : T (ltb m.low (2 ^ suc m.last))
  pub remainders : T (follows (times_z m) 1 (map (remainder_part m) m.marks))
  pub cubes : T (follows (iter 3 (times_a m)) 1 (map (cube_part m) m.marks))
  -- the mark of a remainder begins with the mark of z^0, gives it back, and takes 'times z' to 'times a' and 'times a^3'
  pub unit : T (eqb (mark_of m 1) (mark_at m 0))
  pub back : T (agrees (suc m.last) (λ x. remainder_part m (mark_of m x)) (λ x. x))
  pub power_carried :
      T (agrees (suc m.last) (λ x. power_part m (mark_of m (times_z m x))) (λ x. iter 1 (times_a m) (power_part m (mark_of m x))))
  pub cube_carried :
      T (agrees (suc m.last) (λ x. cube_part m (mark_of m (times_z m x))) (λ x. iter 3 (times_a m) (cube_part m (mark_of m x))))
  -- the halves
  pub pairs : T (all_below (order m - 1) (λ i. is_half m (suc i)))

map_at : (f : ℕ → ℕ) (xs : List ℕ) (i : ℕ) → i < length xs → get_or (map f xs) i 0 ≡ f (get_or xs i 0)
map_at f [] i h = absurd (omega arith)
map_at f (x ∷ xs) zero h = refl
map_at f (x ∷ xs) (suc i) h = map_at f xs i (omega arith)

by_parts : (k a b : ℕ) → a / 2 ^ k ≡ b / 2 ^ k → a % 2 ^ k ≡ b % 2 ^ k → a ≡ b
by_parts k a b e d = sym (split a k) ∙ ap₂ (λ q r. q * 2 ^ k + r) e d ∙ split b k

-- ---- Any marking

module _ (m : Marking) where
  pub mark_additive : Additive (mark_of m)
  unfolding mark_of
  mark_additive = lin_additive (tab (suc m.last) (mark_at m))

  pub remainder_additive : Additive (remainder_part m)
  remainder_additive a b = ⊕-mod (suc m.last) a b

  pub power_additive : Additive (power_part m)
  power_additive a b =
      ap (λ x. x % 2 ^ suc m.top) (⊕-div (suc m.last) a b) ∙ ⊕-mod (suc m.top) (a / 2 ^ suc m.last) (b / 2 ^ suc m.last)

  pub cube_additive : Additive (cube_part m)
  cube_additive a b =
      ap (λ x. x / 2 ^ suc m.top) (⊕-div (suc m.last) a b) ∙ ⊕-div (suc m.top) (a / 2 ^ suc m.last) (b / 2 ^ suc m.last)

  -- a number is known by its three parts
  parts_same : (w v : ℕ) → remainder_part m w ≡ remainder_part m v → power_part m w ≡ power_part m v → cube_part m w ≡ cube_part m v → w ≡ v
  parts_same w v e₀ e₁ e₃ =
      by_parts (suc m.last) w v (by_parts (suc m.top) (w / 2 ^ suc m.last) (v / 2 ^ suc m.last) e₃ e₁) e₀

  -- the sums that a remainder tells of the places of its word: number 0 is that of a^e, number 1 that of a^3e
  abbrev pub sum_of : ℕ → ℕ → ℕ
  sum_of zero = λ x. power_part m (mark_of m x)
  sum_of (suc r) = λ x. cube_part m (mark_of m x)

  pub sum_additive : (r : ℕ) → r < 2 → Additive (sum_of r)
  sum_additive zero h = additive_compose (power_part m) (mark_of m) power_additive mark_additive
  sum_additive (suc r) h = additive_compose (cube_part m) (mark_of m) cube_additive mark_additive

-- ---- Marks that pass the tests

module _ (m : Marking) (fit : Fit m) where
  low_small : m.low < 2 ^ suc m.last
  low_small = ltb→lt m.low (2 ^ suc m.last) fit.narrow

  marks_count : length m.marks ≡ order m
  marks_count = omega (arith, length-map m.marks (power_part m), count_powers m.top m.tap (powers_of m) m.logs fit.tables)

  -- there is a power
  some : 0 < order m
  some = omega (arith, one-lt m.top)

  module _ (e : ℕ) (h : e < order m) where
    -- a part of the marks that follows a step is, at e, that many steps from 1
    part_at : (part step : ℕ → ℕ) → T (follows step 1 (map part m.marks)) → part (mark_at m e) ≡ iter e step 1
    part_at part step t =
        sym (map_at part m.marks e (omega (arith, marks_count)))
        ∙ follows_at step 1 (map part m.marks) t e (omega (arith, marks_count, length-map m.marks part))

    pub remainder_at : remainder_part m (mark_at m e) ≡ z_power m e
    remainder_at = part_at (remainder_part m) (times_z m) fit.remainders

    pub power_at : power_part m (mark_at m e) ≡ a_power m e
    power_at = part_at (power_part m) (times_a m) fit.tables.chain

    pub cube_at : cube_part m (mark_at m e) ≡ a_power m (3 * e)
    cube_at = part_at (cube_part m) (iter 3 (times_a m)) fit.cubes ∙ sym (iter-mul 3 e (times_a m) 1)

  -- a remainder's mark has the remainder
  pub remainder_back : (x : ℕ) → x < 2 ^ suc m.last → remainder_part m (mark_of m x) ≡ x
  remainder_back =
      agree (suc m.last) (λ x. remainder_part m (mark_of m x)) (λ x. x)
      (additive_compose (remainder_part m) (mark_of m) (remainder_additive m) (mark_additive m)) additive_id
      (agrees→ (suc m.last) (λ x. remainder_part m (mark_of m x)) (λ x. x) fit.back)

  mark_one : mark_of m 1 ≡ mark_at m 0
  mark_one = eqb→eq (mark_of m 1) (mark_at m 0) fit.unit

  -- z^e goes to a^e, and to a^3e
  pub sum-carried : (r : ℕ) → r < 2 → (e : ℕ) → sum_of m r (z_power m e) ≡ a_power m ((2 * r + 1) * e)
  unfolding iter
  sum-carried zero h =
      carry_tested m.last m.low m.top m.tap 1 (sum_of m 0) low_small (sum_additive m 0 h)
      (ap (power_part m) mark_one ∙ power_at 0 some) fit.power_carried
  sum-carried (suc zero) h =
      carry_tested m.last m.low m.top m.tap 3 (sum_of m 1) low_small (sum_additive m 1 h)
      (ap (cube_part m) mark_one ∙ cube_at 0 some) fit.cube_carried
  sum-carried (suc (suc r)) h = absurd (omega arith)

  -- so the mark of the remainder of z^e is the mark of e
  pub mark_is : (e : ℕ) → e < order m → mark_of m (z_power m e) ≡ mark_at m e
  mark_is e h =
      parts_same m (mark_of m (z_power m e)) (mark_at m e)
      (remainder_back (z_power m e) (iter-lt m.last low_small e 1 (one-lt m.last)) ∙ sym (remainder_at e h))
      (sum-carried 0 (omega arith) e ∙ ap (a_power m) (one-mul e) ∙ sym (power_at e h))
      (sum-carried 1 (omega arith) e ∙ sym (cube_at e h))

  -- and what has the mark of one place, or of two, is the remainder of it, or of them
  pub one_marked : (x e : ℕ) → x < 2 ^ suc m.last → e < order m → (mark_of m x ≡ mark_at m e) ↔ (x ≡ z_power m e)
  one_marked x e hx he = (
    λ q. sym (remainder_back x hx) ∙ ap (remainder_part m) q ∙ remainder_at e he,
    λ q. ap (mark_of m) q ∙ mark_is e he,
  )

  pub two_marked :
      (x e f : ℕ) → x < 2 ^ suc m.last → e < order m → f < order m
      → (mark_of m x ≡ mark_at m e ⊕ mark_at m f) ↔ (x ≡ z_power m e ⊕ z_power m f)
  two_marked x e f hx he hf = (
    λ q.
        sym (remainder_back x hx) ∙ ap (remainder_part m) q ∙ remainder_additive m (mark_at m e) (mark_at m f)
        ∙ ap₂ ◌⊕◌ (remainder_at e he) (remainder_at f hf),
    λ q. ap (mark_of m) q ∙ mark_additive m (z_power m e) (z_power m f) ∙ ap₂ ◌⊕◌ (mark_is e he) (mark_is f hf),
  )
