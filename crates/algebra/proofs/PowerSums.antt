-- 2 * t or fewer different places, and at least one, never have their first t odd power sums all zero.
-- Assumes nothing.
use mathlib.Core.Path.{◌≡◌, refl, sym, ap, ap₂, ◌∙◌, fun_ext}
use mathlib.Core.Logic.{◌≢◌}
use mathlib.Core.List.{List, [], ◌∷◌}
use Prim.Native.Nat.{ℕ, zero, suc, ◌+◌, ◌*◌, ◌/◌, ◌%◌, ◌≤◌, ◌<◌}
use native.Mathlib.Nat.{zero-add, suc-add}
use native.Mathlib.Decide.{ℕ_discrete}
use native.Mathlib.Omega.{arith}
use lib.ListN.{length}
use Rattle.algebra.specs.Sums.{All, Distinct}
use Rattle.algebra.proofs.Field.{Field2, power_of}
use Rattle.algebra.proofs.Vandermonde.{field_sum, ⊠-𝟘, ⊞-⊠, ⊞_swap, vandermonde}

-- the m-th power sum
abbrev pub power_sum : {A F : Type 0} → Field2 F → (A → F) → ℕ → List A → F
power_sum K x m ps = field_sum K (λ p. power_of K (x p) m) ps

module _ {F : Type 0} (K : Field2 F) where
  infixl 65 ◌⊞◌
  infixl 70 ◌⊠◌
  open K use {𝟘, 𝟙, ◌⊞◌, ◌⊠◌, ⊞_comm, ⊞_𝟘, ⊞_self, ⊠_comm, ⊠_assoc, 𝟙_⊠, ⊠_⊞}

  -- squaring is additive: the two mixed products cancel
  pub square-⊞ : (a b : F) → (a ⊞ b) ⊠ (a ⊞ b) ≡ a ⊠ a ⊞ b ⊠ b
  square-⊞ a b =
      ⊞-⊠ K a b (a ⊞ b)
      ∙ ap₂ ◌⊞◌ (⊠_⊞ a a b) (⊠_⊞ b a b ∙ ⊞_comm (b ⊠ a) (b ⊠ b) ∙ ap (λ (w : F). b ⊠ b ⊞ w) (⊠_comm b a))
      ∙ ⊞_swap K (a ⊠ a) (a ⊠ b) (b ⊠ b) (a ⊠ b) ∙ ap (λ (w : F). a ⊠ a ⊞ b ⊠ b ⊞ w) (⊞_self (a ⊠ b)) ∙ ⊞_𝟘 (a ⊠ a ⊞ b ⊠ b)

  pub power-add : (x : F) (m n : ℕ) → power_of K x (m + n) ≡ power_of K x m ⊠ power_of K x n
  unfolding power_of
  power-add x zero n = ap (power_of K x) (zero-add n) ∙ sym (𝟙_⊠ (power_of K x n))
  power-add x (suc m) n =
      ap (power_of K x) (suc-add m n) ∙ ap (λ (w : F). x ⊠ w) (power-add x m n) ∙ sym (⊠_assoc x (power_of K x m) (power_of K x n))

  module _ {A : Type 0} where
    pub field_sum-square : (f : A → F) (ps : List A) → field_sum K f ps ⊠ field_sum K f ps ≡ field_sum K (λ p. f p ⊠ f p) ps
    unfolding field_sum
    field_sum-square f [] = ⊠-𝟘 K 𝟘
    field_sum-square f (p ∷ ps) = square-⊞ (f p) (field_sum K f ps) ∙ ap (λ (w : F). f p ⊠ f p ⊞ w) (field_sum-square f ps)

    -- the sum of the 2m-th powers is the square of the sum of the m-th
    pub sum_double : (x : A → F) (m : ℕ) (ps : List A) → power_sum K x (m + m) ps ≡ power_sum K x m ps ⊠ power_sum K x m ps
    sum_double x m ps =
        ap (λ (f : A → F). field_sum K f ps) (fun_ext (λ p. power-add (x p) m m))
        ∙ sym (field_sum-square (λ p. power_of K (x p) m) ps)

    module _ (t : ℕ) (x : A → F) (ps : List A) (odd : (r : ℕ) → r < t → power_sum K x (2 * r + 1) ps ≡ 𝟘) where
      -- an even one is the square of the half's, so all the first 2 * t vanish with the odd ones
      all_vanish : (n m : ℕ) → m ≤ n → 1 ≤ m → m ≤ 2 * t → power_sum K x m ps ≡ 𝟘
      all_vanish zero m hn h1 h2 = absurd (omega arith)
      all_vanish (suc n) m hn h1 h2 = go (ℕ_discrete (m % 2) 0) (all_vanish n (m / 2))
        where
          go : Dec (m % 2 ≡ 0) → (m / 2 ≤ n → 1 ≤ m / 2 → m / 2 ≤ 2 * t → power_sum K x (m / 2) ps ≡ 𝟘) → power_sum K x m ps ≡ 𝟘
          go (yes e) ih =
              let z : power_sum K x (m / 2) ps ≡ 𝟘 = ih (omega arith) (omega arith) (omega arith) in
              let d : m ≡ m / 2 + m / 2 = omega arith in
              ap (λ (j : ℕ). power_sum K x j ps) d ∙ sum_double x (m / 2) ps
              ∙ ap₂ ◌⊠◌ z z ∙ ⊠-𝟘 K 𝟘
          go (no ne) ih =
              let d : m ≡ 2 * (m / 2) + 1 = omega arith in
              ap (λ (j : ℕ). power_sum K x j ps) d ∙ odd (m / 2) (omega arith)

      -- no 2 * t or fewer different places other than zero have all their first t odd power sums zero
      pub few : Distinct x ps → All (λ p. x p ≢ 𝟘) ps → length ps ≤ 2 * t → ps ≡ []
      unfolding power_of
      few d n h = none ps n (vandermonde K x ps d x sums)
        where
          sums : (m : ℕ) → m < length ps → field_sum K (λ p. power_of K (x p) m ⊠ x p) ps ≡ 𝟘
          sums m hm =
              ap (λ (f : A → F). field_sum K f ps) (fun_ext (λ p. ⊠_comm (power_of K (x p) m) (x p)))
              ∙ all_vanish (suc m) (suc m) (omega arith) (omega arith) (omega arith)

          none : (qs : List A) → All (λ p. x p ≢ 𝟘) qs → All (λ p. x p ≡ 𝟘) qs → qs ≡ []
          none [] a b = refl
          none (q ∷ qs) a b = absurd (a.0 b.0)
