-- The search for one place or two, by their marks. A place goes by its exponent, which lies below a bound.
use Rattle.std.specs.Prelude.{◌≡◌, ◌≢◌, ◌⊎◌, ℕ, ◌<◌}
use Rattle.algebra.specs.Xor.{◌⊕◌}
use Rattle.algebra.specs.Marking.{Marking, order, power_part, mark_at}

-- e is the place that has the mark w
pub record Lone (m : Marking) (bound w e : ℕ) : Type 0 where
  pub below : e < bound
  pub found : w ≡ mark_at m e

-- no place has the mark w
abbrev pub NoLone : Marking → ℕ → ℕ → Type 0
NoLone m bound w = (e : ℕ) → e < bound → w ≢ mark_at m e

-- high and low are two places whose marks ⊕ to w
pub record Pair (m : Marking) (bound w high low : ℕ) : Type 0 where
  pub below : high < bound
  pub apart : low < high
  pub found : w ≡ mark_at m high ⊕ mark_at m low

-- no two places have marks that ⊕ to w
abbrev pub NoPair : Marking → ℕ → ℕ → Type 0
NoPair m bound w = (e f : ℕ) → f < e → e < bound → w ≢ mark_at m e ⊕ mark_at m f

-- w has a power, and where two places have marks that ⊕ to w, e is one of them
pub record EitherOf (m : Marking) (w e : ℕ) : Type 0 where
  pub below : e < order m
  pub apart : power_part m w ≢ 0
  pub either : (f g : ℕ) → g < f → f < order m → w ≡ mark_at m f ⊕ mark_at m g → (e ≡ f) ⊎ (e ≡ g)
