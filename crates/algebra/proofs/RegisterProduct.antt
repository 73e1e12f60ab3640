-- The product of numbers that a register makes of its steps is that of the register's field.
-- Assumes nothing.
use mathlib.Core.Path.{◌≡◌, refl, sym, ap, ap₂, ◌∙◌}
use mathlib.Core.Logic.{◌≢◌, ◌⊎◌, inl, inr}
use mathlib.Core.List.{List, [], ◌∷◌}
use Prim.Native.Nat.{ℕ, zero, suc, ◌+◌, ◌*◌, ◌-◌, ◌/◌, ◌%◌, ◌^◌, ◌≤◌, ◌<◌, Fin}
use native.Mathlib.Nat.{mul-zero, one-mul, zero-mul, pow-suc, mod-eq_of_lt, div-eq_of_lt}
use native.Mathlib.Omega.{arith}
use lib.ListN.{length, get_or}
use lib.Pow.{pow-lt}
use Rattle.algebra.specs.Xor.{◌⊕◌}
use Rattle.algebra.specs.Register.{iter, turn}
use Rattle.algebra.specs.Linear.{lin}
use Rattle.algebra.specs.Tables.{tab}
use Rattle.algebra.specs.LogTables.{Tables}
use Rattle.algebra.proofs.XorLaws.{⊕-zero, zero-⊕}
use Rattle.algebra.proofs.LinearLaws.{lin_additive, additive_zero, additive_iter, agree}
use Rattle.algebra.proofs.RegisterLaws.{turn_additive, iter-add, iter_comm, iter-lt, iter-zero, one-lt}
use Rattle.algebra.proofs.TableLaws.{tab-zero, tab-suc, tab-length, tab_at, tab_ext}
use Rattle.algebra.proofs.LogTableLaws.{tables_small, log_power, logs-lt, round}
use Rattle.algebra.proofs.Field.{Field2}
use Rattle.algebra.proofs.RegisterField.{number_sums, register_field, zero_value, place, place_value_lem, find_log, steps_value, none_value}

-- x times y: y is the sum of the a^i at its ones, so the product is the sum of x a^i at them
unfoldable pub multiply : ℕ → ℕ → ℕ → ℕ → ℕ
multiply k c x y = lin (tab (suc k) (λ i. iter i (turn k c) x)) y

-- a map by its columns takes 2^m to column m
lin_column : (cs : List ℕ) (m : ℕ) → m < length cs → lin cs (2 ^ m) ≡ get_or cs m 0
unfolding lin
lin_column [] m h = absurd (omega arith)
lin_column (c ∷ cs) zero h = ap₂ ◌⊕◌ (one-mul c) (additive_zero (lin cs) (lin_additive cs)) ∙ ⊕-zero c
lin_column (c ∷ cs) (suc m) h =
    let d : 2 ^ suc m % 2 ≡ 0 = omega (arith, pow-suc 2 m) in
    let q : 2 ^ suc m / 2 ≡ 2 ^ m = omega (arith, pow-suc 2 m) in
    ap₂ ◌⊕◌ (ap (λ b. b * c) d ∙ zero-mul c) (ap (lin cs) q ∙ lin_column cs m (omega arith)) ∙ zero-⊕ (get_or cs m 0)

lin-none : (n y : ℕ) → lin (tab n (λ _. 0)) y ≡ 0
unfolding lin
lin-none zero y = ap (λ cs. lin cs y) (tab-zero (λ _. 0))
lin-none (suc n) y =
    ap (λ cs. lin cs y) (tab-suc n (λ _. 0)) ∙ ap₂ ◌⊕◌ (mul-zero (y % 2)) (lin-none n (y / 2)) ∙ ⊕-zero 0

module _ (k c : ℕ) where
  -- as long as nothing falls out, a step moves the one digit up
  low_power : (m : ℕ) → m < suc k → iter m (turn k c) 1 ≡ 2 ^ m
  unfolding iter turn
  low_power zero h = refl
  low_power (suc m) h =
      let top : 2 ^ m < 2 ^ k = pow-lt (omega arith) in
      let e₁ : 2 * 2 ^ m % 2 ^ suc k ≡ 2 * 2 ^ m = mod-eq_of_lt (omega (arith, pow-suc 2 k)) in
      let e₂ : 2 ^ m / 2 ^ k ≡ 0 = div-eq_of_lt top in
      ap (turn k c) (low_power m (omega arith)) ∙ rw (e₁, e₂, zero-mul, ⊕-zero) (omega (arith, pow-suc 2 m))

  -- the product with a^i is i steps
  pub multiply_steps : (i y : ℕ) → y < 2 ^ suc k → multiply k c (iter i (turn k c) 1) y ≡ iter i (turn k c) y
  unfolding multiply
  multiply_steps i =
      let f : ℕ → ℕ = λ m. iter m (turn k c) (iter i (turn k c) 1) in
      agree (suc k) (lin (tab (suc k) f)) (iter i (turn k c)) (lin_additive (tab (suc k) f))
      (additive_iter (turn k c) (turn_additive k c) i)
      (λ m h.
      lin_column (tab (suc k) f) m (omega (arith, tab-length (suc k) f)) ∙ tab_at (suc k) f m 0 h
      ∙ iter_comm m i (turn k c) 1 ∙ ap (iter i (turn k c)) (low_power m h))

  pub zero-multiply : (y : ℕ) → multiply k c 0 y ≡ 0
  unfolding multiply
  zero-multiply y =
      ap (λ cs. lin cs y) (tab_ext (suc k) (λ i. iter i (turn k c) 0) (λ _. 0) (λ i h. iter-zero k c i)) ∙ lin-none (suc k) y

  pub multiply-zero : (x : ℕ) → multiply k c x 0 ≡ 0
  unfolding multiply
  multiply-zero x = let cs : List ℕ = tab (suc k) (λ i. iter i (turn k c) x) in additive_zero (lin cs) (lin_additive cs)

  pub multiply-⊕ : (x y z : ℕ) → multiply k c x (y ⊕ z) ≡ multiply k c x y ⊕ multiply k c x z
  unfolding multiply
  multiply-⊕ x = lin_additive (tab (suc k) (λ i. iter i (turn k c) x))

  pub one_multiply : (y : ℕ) → y < 2 ^ suc k → multiply k c 1 y ≡ y
  unfolding iter
  one_multiply = multiply_steps 0

  -- a product of powers adds exponents
  pub multiply_powers :
      c < 2 ^ suc k → (i j : ℕ)
      → multiply k c (iter i (turn k c) 1) (iter j (turn k c) 1) ≡ iter (i + j) (turn k c) 1
  multiply_powers small i j =
      multiply_steps i (iter j (turn k c) 1) (iter-lt k small j 1 (one-lt k)) ∙ sym (iter-add i j (turn k c) 1)

module _ (k c : ℕ) (powers logs : List ℕ) (t : Tables k c powers logs) where
  abbrev F : Type 0
  F = Fin (2 ^ suc k)

  abbrev K : Field2 F
  K = register_field k c powers logs t

  multiply_value : (x y : F) → multiply k c x.0 y.0 ≡ (K.◌⊠◌ x y).0
  multiply_value x y = go (find_log k c powers logs t x)
    where
      go : (x ≡ (number_sums (suc k)).𝟘) ⊎ ((i : ℕ) × (x ≡ place k c powers logs t i)) → multiply k c x.0 y.0 ≡ (K.◌⊠◌ x y).0
      go (inl e) =
          ap (λ (m : F). multiply k c m.0 y.0) e ∙ zero-multiply k c y.0 ∙ sym (none_value k c powers logs t x y e)
      go (inr p) =
          ap (λ (m : ℕ). multiply k c m y.0) (ap (λ (m : F). m.0) p.1 ∙ place_value_lem k c powers logs t p.0)
          ∙ multiply_steps k c p.0 y.0 y.1 ∙ sym (steps_value k c powers logs t p.0 x y p.1)

  value : {x y : F} → x ≡ y → x.0 ≡ y.0
  value e = ap (λ (z : F). z.0) e

  pub multiply-lt : (x y : ℕ) → x < 2 ^ suc k → y < 2 ^ suc k → multiply k c x y < 2 ^ suc k
  multiply-lt x y hx hy = rw (multiply_value (x, hx) (y, hy)) (K.◌⊠◌ (x, hx) (y, hy)).1

  pub multiply_comm : (x y : ℕ) → x < 2 ^ suc k → y < 2 ^ suc k → multiply k c x y ≡ multiply k c y x
  multiply_comm x y hx hy =
      multiply_value (x, hx) (y, hy) ∙ value (K.⊠_comm (x, hx) (y, hy)) ∙ sym (multiply_value (y, hy) (x, hx))

  pub multiply_assoc :
      (x y z : ℕ) → x < 2 ^ suc k → y < 2 ^ suc k → z < 2 ^ suc k
      → multiply k c (multiply k c x y) z ≡ multiply k c x (multiply k c y z)
  multiply_assoc x y z hx hy hz =
      let u : F = (x, hx) in
      let v : F = (y, hy) in
      let w : F = (z, hz) in
      ap (λ m. multiply k c m z) (multiply_value u v) ∙ multiply_value (K.◌⊠◌ u v) w ∙ value (K.⊠_assoc u v w)
      ∙ sym (ap (multiply k c x) (multiply_value v w) ∙ multiply_value u (K.◌⊠◌ v w))

  pub multiply-none :
      (x y : ℕ) → x < 2 ^ suc k → y < 2 ^ suc k → multiply k c x y ≡ 0 → x ≢ 0 → y ≡ 0
  multiply-none x y hx hy e n =
      let z : F = K.𝟘 in
      let o : z.0 ≡ 0 = zero_value k c powers logs t in
      value
      (K.no_divisors (x, hx) (y, hy) (native.Mathlib.Fin.val_path (sym (multiply_value (x, hx) (y, hy)) ∙ e ∙ sym o))
      (λ q. n (value q ∙ o)))
      ∙ o

  -- a^i has the inverse a^(order - i)
  pub multiply_inverse :
      (x : ℕ) → x ≢ 0 → x < 2 ^ suc k → (y : ℕ) × (y < 2 ^ suc k) × (multiply k c x y ≡ 1)
  multiply_inverse x n h =
      let lo : 1 ≤ x = omega (arith, n) in
      let i : ℕ = get_or logs x 0 in
      let j : ℕ = 2 ^ suc k - 1 - i in
      let s : i + j ≡ 2 ^ suc k - 1 = omega (arith, logs-lt k c powers logs t x lo h) in (
        iter j (turn k c) 1,
        iter-lt k (tables_small k c powers logs t) j 1 (one-lt k),
        ap (λ m. multiply k c m (iter j (turn k c) 1)) (sym (log_power k c powers logs t x lo h))
            ∙ multiply_powers k c (tables_small k c powers logs t) i j ∙ ap (λ m. iter m (turn k c) 1) s
            ∙ round k c powers logs t,
      )
