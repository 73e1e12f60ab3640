-- What holds of 0 and of 1 holds of every binary digit.
-- Assumes nothing.
use mathlib.Core.Path.{◌≡◌, refl}
use mathlib.Core.Bool.{Bool, true, false}
use Prim.Native.Nat.{ℕ, zero, suc, ◌%◌, ◌≤◌, ◌<◌}
use native.Mathlib.Omega.{arith}
use lib.Dec.{eqb}
use Rattle.algebra.specs.Tables.{num}
use Rattle.algebra.specs.Remainder.{is_odd}

pub digit_case : (P : ℕ → Type 0) → P 0 → P 1 → (x : ℕ) → x < 2 → P x
digit_case P p₀ p₁ zero h = p₀
digit_case P p₀ p₁ (suc zero) h = p₁
digit_case P p₀ p₁ (suc (suc x)) h = absurd (omega arith)

pub digits_case : (P : ℕ → ℕ → Type 0) → P 0 0 → P 0 1 → P 1 0 → P 1 1 → (x y : ℕ) → x < 2 → y < 2 → P x y
digits_case P p₀₀ p₀₁ p₁₀ p₁₁ x y hx hy =
    digit_case (λ x. P x y) (digit_case (λ y. P 0 y) p₀₀ p₀₁ y hy) (digit_case (λ y. P 1 y) p₁₀ p₁₁ y hy) x hx

pub num-le : (b : Bool) → num b ≤ 1
num-le true = omega arith
num-le false = omega arith

pub num_odd : (x : ℕ) → num (is_odd x) ≡ x % 2
num_odd x = digit_case (λ r. num (eqb r 1) ≡ r) refl refl (x % 2) (omega arith)
