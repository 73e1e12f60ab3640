-- Fields of characteristic two, and how "times a" alone makes one where every element but zero is a power of a.
-- Assumes nothing.
use mathlib.Core.Path.{◌≡◌, refl, sym, ap, ap₂, ◌∙◌}
use mathlib.Core.Logic.{◌≢◌, ◌⊎◌, inl, inr}
use Prim.Native.Nat.{ℕ, zero, suc, ◌+◌, ◌*◌}
use native.Mathlib.Nat.{zero-mul, suc-mul, add_comm}
use Rattle.algebra.specs.Register.{iter}
use Rattle.algebra.proofs.RegisterLaws.{iter-add, iter_comm}

-- sums in which every element is its own opposite
pub record Sums2 (F : Type 0) : Type 0 where
  infixl 65 ◌⊞◌
  pub 𝟘 : F
  pub ◌⊞◌ : F → F → F
  pub ⊞_comm : (x y : F) → x ⊞ y ≡ y ⊞ x
  pub ⊞_assoc : (x y z : F) → x ⊞ y ⊞ z ≡ x ⊞ (y ⊞ z)
  pub ⊞_𝟘 : (x : F) → x ⊞ 𝟘 ≡ x
  pub ⊞_self : (x : F) → x ⊞ x ≡ 𝟘

pub record Field2 (F : Type 0) : Type 0 where
  infixl 65 ◌⊞◌
  infixl 70 ◌⊠◌
  pub 𝟘 : F
  pub 𝟙 : F
  pub ◌⊞◌ : F → F → F
  pub ◌⊠◌ : F → F → F
  pub ⊞_comm : (x y : F) → x ⊞ y ≡ y ⊞ x
  pub ⊞_assoc : (x y z : F) → x ⊞ y ⊞ z ≡ x ⊞ (y ⊞ z)
  pub ⊞_𝟘 : (x : F) → x ⊞ 𝟘 ≡ x
  pub ⊞_self : (x : F) → x ⊞ x ≡ 𝟘
  pub ⊠_comm : (x y : F) → x ⊠ y ≡ y ⊠ x
  pub ⊠_assoc : (x y z : F) → x ⊠ y ⊠ z ≡ x ⊠ (y ⊠ z)
  pub 𝟙_⊠ : (x : F) → 𝟙 ⊠ x ≡ x
  pub ⊠_⊞ : (x y z : F) → x ⊠ (y ⊞ z) ≡ x ⊠ y ⊞ x ⊠ z
  pub no_divisors : (x y : F) → x ⊠ y ≡ 𝟘 → x ≢ 𝟘 → y ≡ 𝟘
  pub 𝟙≢𝟘 : 𝟙 ≢ 𝟘

-- x to the m
unfoldable pub power_of : {F : Type 0} → Field2 F → F → ℕ → F
power_of K x zero = K.𝟙
power_of K x (suc m) = K.◌⊠◌ x (power_of K x m)

module _
    {F : Type 0} (S : Sums2 F) (unit : F) (next : F → F)
    (next-⊞ : (x y : F) → next (S.◌⊞◌ x y) ≡ S.◌⊞◌ (next x) (next y))
    (next-𝟘 : (x : F) → next x ≡ S.𝟘 → x ≡ S.𝟘)
    (unit≢ : unit ≢ S.𝟘)
    (logs : (x : F) → (x ≡ S.𝟘) ⊎ ((i : ℕ) × (x ≡ iter i next unit)))
  where
    infixl 65 ◌⊞◌
    open S use {𝟘, ◌⊞◌, ⊞_comm, ⊞_assoc, ⊞_𝟘, ⊞_self}

    -- x is zero or a power of a
    abbrev Log : F → Type 0
    Log x = (x ≡ 𝟘) ⊎ ((i : ℕ) × (x ≡ iter i next unit))

    steps_⊞ : (i : ℕ) (x y : F) → iter i next (x ⊞ y) ≡ iter i next x ⊞ iter i next y
    unfolding iter
    steps_⊞ zero x y = refl
    steps_⊞ (suc i) x y = ap next (steps_⊞ i x y) ∙ next-⊞ (iter i next x) (iter i next y)

    steps_𝟘 : (i : ℕ) → iter i next 𝟘 ≡ 𝟘
    steps_𝟘 i = ap (iter i next) (sym (⊞_self 𝟘)) ∙ steps_⊞ i 𝟘 𝟘 ∙ ⊞_self (iter i next 𝟘)

    steps_nonzero : (i : ℕ) (x : F) → iter i next x ≡ 𝟘 → x ≡ 𝟘
    unfolding iter
    steps_nonzero zero x e = e
    steps_nonzero (suc i) x e = steps_nonzero i x (next-𝟘 (iter i next x) e)

    -- equal powers of a move every element alike, as it is zero or itself a power
    steps_same : (i j : ℕ) → iter i next unit ≡ iter j next unit → (y : F) → iter i next y ≡ iter j next y
    steps_same i j e y = go (logs y)
      where
        go : Log y → iter i next y ≡ iter j next y
        go (inl z) = ap (iter i next) z ∙ steps_𝟘 i ∙ sym (steps_𝟘 j) ∙ ap (iter j next) (sym z)
        go (inr p) =
            ap (iter i next) p.1 ∙ iter_comm i p.0 next unit ∙ ap (iter p.0 next) e ∙ iter_comm p.0 j next unit
            ∙ ap (iter j next) (sym p.1)

    pick : {x : F} → Log x → F → F
    pick (inl z) y = 𝟘
    pick (inr p) y = iter p.0 next y

    -- the product: as many steps from y as lead from 1 to x
    pub product : F → F → F
    product x y = pick (logs x) y

    -- any i with x the i-th power will do, not only the one that logs found
    pub times_power : (i : ℕ) (x y : F) → x ≡ iter i next unit → product x y ≡ iter i next y
    unfolding product pick
    times_power i x y e = go (logs x)
      where
        go : (l : Log x) → pick l y ≡ iter i next y
        go (inl z) = absurd (unit≢ (steps_nonzero i unit (sym e ∙ z)))
        go (inr p) = steps_same p.0 i (sym p.1 ∙ e) y

    pub zero-times : (x y : F) → x ≡ 𝟘 → product x y ≡ 𝟘
    unfolding product pick
    zero-times x y e = go (logs x)
      where
        go : (l : Log x) → pick l y ≡ 𝟘
        go (inl z) = refl
        go (inr p) = absurd (unit≢ (steps_nonzero p.0 unit (sym p.1 ∙ e)))

    times_zero : (x y : F) → y ≡ 𝟘 → product x y ≡ 𝟘
    times_zero x y e = go (logs x)
      where
        go : Log x → product x y ≡ 𝟘
        go (inl z) = zero-times x y z
        go (inr p) = times_power p.0 x y p.1 ∙ ap (iter p.0 next) e ∙ steps_𝟘 p.0

    pub product_comm : (x y : F) → product x y ≡ product y x
    product_comm x y = go (logs x) (logs y)
      where
        go : Log x → Log y → product x y ≡ product y x
        go (inl z) m = zero-times x y z ∙ sym (times_zero y x z)
        go (inr p) (inl z) = times_zero x y z ∙ sym (zero-times y x z)
        go (inr p) (inr q) =
            times_power p.0 x y p.1 ∙ ap (iter p.0 next) q.1 ∙ iter_comm p.0 q.0 next unit
            ∙ ap (iter q.0 next) (sym p.1) ∙ sym (times_power q.0 y x q.1)

    pub product_assoc : (x y z : F) → product (product x y) z ≡ product x (product y z)
    product_assoc x y z = go (logs x) (logs y)
      where
        go : Log x → Log y → product (product x y) z ≡ product x (product y z)
        go (inl e) m = zero-times (product x y) z (zero-times x y e) ∙ sym (zero-times x (product y z) e)
        go (inr p) (inl e) =
            zero-times (product x y) z (times_zero x y e) ∙ sym (times_zero x (product y z) (zero-times y z e))
        go (inr p) (inr q) =
            times_power (p.0 + q.0) (product x y) z
            (times_power p.0 x y p.1 ∙ ap (iter p.0 next) q.1 ∙ sym (iter-add p.0 q.0 next unit))
            ∙ iter-add p.0 q.0 next z
            ∙ sym (times_power p.0 x (product y z) p.1 ∙ ap (iter p.0 next) (times_power q.0 y z q.1))

    pub product-⊞ : (x y z : F) → product x (y ⊞ z) ≡ product x y ⊞ product x z
    product-⊞ x y z = go (logs x)
      where
        go : Log x → product x (y ⊞ z) ≡ product x y ⊞ product x z
        go (inl e) =
            zero-times x (y ⊞ z) e ∙ sym (⊞_self 𝟘) ∙ ap₂ ◌⊞◌ (sym (zero-times x y e)) (sym (zero-times x z e))
        go (inr p) =
            times_power p.0 x (y ⊞ z) p.1 ∙ steps_⊞ p.0 y z
            ∙ ap₂ ◌⊞◌ (sym (times_power p.0 x y p.1)) (sym (times_power p.0 x z p.1))

    pub product_nonzero : (x y : F) → product x y ≡ 𝟘 → x ≢ 𝟘 → y ≡ 𝟘
    product_nonzero x y e n = go (logs x)
      where
        go : Log x → y ≡ 𝟘
        go (inl z) = absurd (n z)
        go (inr p) = steps_nonzero p.0 y (sym (times_power p.0 x y p.1) ∙ e)

    pub unit_product : (x : F) → product unit x ≡ x
    unfolding iter
    unit_product x = times_power 0 unit x refl

    -- the field
    unfoldable pub made : Field2 F
    made =
        record {
          𝟘 = 𝟘;
          𝟙 = unit;
          ◌⊞◌ = ◌⊞◌;
          ◌⊠◌ = product;
          ⊞_comm = ⊞_comm;
          ⊞_assoc = ⊞_assoc;
          ⊞_𝟘 = ⊞_𝟘;
          ⊞_self = ⊞_self;
          ⊠_comm = product_comm;
          ⊠_assoc = product_assoc;
          𝟙_⊠ = unit_product;
          ⊠_⊞ = product-⊞;
          no_divisors = product_nonzero;
          𝟙≢𝟘 = unit≢;
        }

    -- the powers of a power of a
    pub power_step : (i m : ℕ) → power_of made (iter i next unit) m ≡ iter (m * i) next unit
    unfolding power_of made iter
    power_step i zero = ap (λ (j : ℕ). iter j next unit) (sym (zero-mul i))
    power_step i (suc m) =
        times_power i (iter i next unit) (power_of made (iter i next unit) m) refl ∙ ap (iter i next) (power_step i m)
        ∙ sym (iter-add i (m * i) next unit) ∙ ap (λ (j : ℕ). iter j next unit) (add_comm i (m * i) ∙ sym (suc-mul m i))
