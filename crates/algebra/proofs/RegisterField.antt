-- The field of 2 ^ (k + 1) elements that a register with tables makes, and the way back from it to numbers.
-- Assumes nothing.
use mathlib.Core.Path.{◌≡◌, refl, sym, ap, ◌∙◌}
use mathlib.Core.Logic.{◌≢◌, ◌⊎◌, inl, inr}
use mathlib.Core.List.{List}
use Prim.Native.Nat.{ℕ, zero, suc, ◌*◌, ◌^◌, ◌<◌, Fin}
use native.Mathlib.Decide.{ℕ_discrete}
use native.Mathlib.Omega.{arith}
use lib.ListN.{get_or}
use lib.Pow.{pow_pos}
use Rattle.algebra.specs.Xor.{◌⊕◌}
use Rattle.algebra.specs.Register.{iter, turn}
use Rattle.algebra.specs.LogTables.{Tables}
use Rattle.algebra.proofs.XorLaws.{⊕_comm, ⊕_assoc, ⊕-zero, ⊕_self, ⊕-lt}
use Rattle.algebra.proofs.RegisterLaws.{turn_additive, turn-lt, turn_nonzero, one-lt}
use Rattle.algebra.proofs.Field.{Sums2, Field2, made, power_of, power_step, times_power, zero-times}
use Rattle.algebra.proofs.LogTableLaws.{tables_small, tables_odd, log_power}

-- the numbers of n digits under ⊕
abbrev pub number_sums : (n : ℕ) → Sums2 (Fin (2 ^ n))
number_sums n =
    record {
      𝟘 = (0, pow_pos n);
      ◌⊞◌ = λ x y. (x.0 ⊕ y.0, ⊕-lt n x.1 y.1);
      ⊞_comm = λ x y. native.Mathlib.Fin.val_path (⊕_comm x.0 y.0);
      ⊞_assoc = λ x y z. native.Mathlib.Fin.val_path (⊕_assoc x.0 y.0 z.0);
      ⊞_𝟘 = λ x. native.Mathlib.Fin.val_path (⊕-zero x.0);
      ⊞_self = λ x. native.Mathlib.Fin.val_path (⊕_self x.0);
    }

abbrev pub unit : (k : ℕ) → Fin (2 ^ suc k)
unit k = (1, one-lt k)

abbrev pub next : (k c : ℕ) → c < 2 ^ suc k → Fin (2 ^ suc k) → Fin (2 ^ suc k)
next k c h x = (turn k c x.0, turn-lt k h x.0)

-- steps in the field are steps of the register
pub next_value : (k c : ℕ) (h : c < 2 ^ suc k) (i : ℕ) (x : Fin (2 ^ suc k)) → (iter i (next k c h) x).0 ≡ iter i (turn k c) x.0
unfolding iter
next_value k c h zero x = refl
next_value k c h (suc i) x = ap (turn k c) (next_value k c h i x)

module _ (k c : ℕ) (powers logs : List ℕ) (t : Tables k c powers logs) where
  abbrev F : Type 0
  F = Fin (2 ^ suc k)

  abbrev times : F → F
  times = next k c (tables_small k c powers logs t)

  -- what a field from "times a" asks for, read from the tables
  pub find_log : (x : F) → (x ≡ (number_sums (suc k)).𝟘) ⊎ ((i : ℕ) × (x ≡ iter i times (unit k)))
  find_log x = go (ℕ_discrete x.0 0)
    where
      go : Dec (x.0 ≡ 0) → (x ≡ (number_sums (suc k)).𝟘) ⊎ ((i : ℕ) × (x ≡ iter i times (unit k)))
      go (yes e) = inl (native.Mathlib.Fin.val_path e)
      go (no n) =
          inr (
            get_or logs x.0 0,
            native.Mathlib.Fin.val_path
                (sym (log_power k c powers logs t x.0 (omega arith) x.1)
                ∙ sym (next_value k c (tables_small k c powers logs t) (get_or logs x.0 0) (unit k))),
          )

  unit≢ : unit k ≢ (number_sums (suc k)).𝟘
  unit≢ e =
      let z : ◌≡◌ {A = ℕ} 1 0 = ap (λ (x : F). x.0) e in
      omega arith

  times-⊞ : (x y : F) → times ((number_sums (suc k)).◌⊞◌ x y) ≡ (number_sums (suc k)).◌⊞◌ (times x) (times y)
  times-⊞ x y = native.Mathlib.Fin.val_path (turn_additive k c x.0 y.0)

  times-𝟘 : (x : F) → times x ≡ (number_sums (suc k)).𝟘 → x ≡ (number_sums (suc k)).𝟘
  times-𝟘 x e =
      native.Mathlib.Fin.val_path (turn_nonzero k c (tables_odd k c powers logs t) x.1 (ap (λ (y : F). y.0) e))

  pub register_field : Field2 F
  register_field = made (number_sums (suc k)) (unit k) times times-⊞ times-𝟘 unit≢ find_log

  -- the number of a sum
  pub sum_value : (x y : F) → (register_field.◌⊞◌ x y).0 ≡ x.0 ⊕ y.0
  unfolding register_field made
  sum_value x y = refl

  -- the number of zero
  pub zero_value : register_field.𝟘.0 ≡ 0
  unfolding register_field made
  zero_value = refl

  -- the e-th power of a, and the number of its m-th power
  abbrev pub place : ℕ → F
  place e = iter e times (unit k)

  pub place_value_lem : (e : ℕ) → (place e).0 ≡ iter e (turn k c) 1
  place_value_lem e = next_value k c (tables_small k c powers logs t) e (unit k)

  pub power_value : (m e : ℕ) → (power_of register_field (place e) m).0 ≡ iter (m * e) (turn k c) 1
  unfolding register_field
  power_value m e =
      ap (λ (x : F). x.0) (power_step (number_sums (suc k)) (unit k) times times-⊞ times-𝟘 unit≢ find_log e m)
      ∙ place_value_lem (m * e)

  -- the product with a power of a is that many steps, with zero it is zero
  pub steps_value : (i : ℕ) (x y : F) → x ≡ place i → (register_field.◌⊠◌ x y).0 ≡ iter i (turn k c) y.0
  unfolding register_field made
  steps_value i x y e =
      ap (λ (z : F). z.0) (times_power (number_sums (suc k)) (unit k) times times-⊞ times-𝟘 unit≢ find_log i x y e)
      ∙ next_value k c (tables_small k c powers logs t) i y

  pub none_value : (x y : F) → x ≡ (number_sums (suc k)).𝟘 → (register_field.◌⊠◌ x y).0 ≡ 0
  unfolding register_field made
  none_value x y e = ap (λ (z : F). z.0) (zero-times (number_sums (suc k)) (unit k) times times-⊞ times-𝟘 unit≢ find_log x y e)
