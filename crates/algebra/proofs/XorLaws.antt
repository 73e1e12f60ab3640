-- ⊕ is a group of exponent two on all numbers, and goes by digits.
-- Assumes nothing.
use mathlib.Core.Path.{◌≡◌, refl, sym, ap, ◌∙◌}
use mathlib.Core.Bool.{xor}
use Prim.Native.Nat.{ℕ, ◌/◌, ◌%◌, ◌^◌, ◌<◌}
use native.Mathlib.Omega.{arith}
use lib.Dec.{eqb}
use lib.Bits.{xor_comm, xor_self, xor_zero_l, xor_zero_r, xor_lt, xor_shr, xor_mod}
use lib.Arith.{bin_ind}
use Rattle.algebra.specs.Xor.{◌⊕◌}
use Rattle.algebra.specs.Remainder.{is_odd}
use Rattle.algebra.proofs.Digits.{digit_case, digits_case}

pub ⊕_comm : (a b : ℕ) → a ⊕ b ≡ b ⊕ a
unfolding ◌⊕◌
⊕_comm a b = xor_comm a b

pub ⊕_self : (a : ℕ) → a ⊕ a ≡ 0
unfolding ◌⊕◌
⊕_self a = xor_self a

pub ⊕-zero : (a : ℕ) → a ⊕ 0 ≡ a
unfolding ◌⊕◌
⊕-zero a = xor_zero_r a

pub zero-⊕ : (a : ℕ) → 0 ⊕ a ≡ a
unfolding ◌⊕◌
zero-⊕ a = xor_zero_l a

pub ⊕-lt : (k : ℕ) {a b : ℕ} → a < 2 ^ k → b < 2 ^ k → a ⊕ b < 2 ^ k
unfolding ◌⊕◌
⊕-lt k {a} {b} ha hb = xor_lt k a b ha hb

pub ⊕-div : (k a b : ℕ) → (a ⊕ b) / 2 ^ k ≡ a / 2 ^ k ⊕ b / 2 ^ k
unfolding ◌⊕◌
⊕-div k a b = xor_shr a b k

pub ⊕-mod : (k a b : ℕ) → (a ⊕ b) % 2 ^ k ≡ a % 2 ^ k ⊕ b % 2 ^ k
unfolding ◌⊕◌
⊕-mod k a b = xor_mod a b k

pub ⊕-half : (a b : ℕ) → (a ⊕ b) / 2 ≡ a / 2 ⊕ b / 2
⊕-half a b = ⊕-div 1 a b

pub ⊕_digit : (a b : ℕ) → (a ⊕ b) % 2 ≡ a % 2 ⊕ b % 2
⊕_digit a b = ⊕-mod 1 a b

odd_⊕ : (x y : ℕ) → is_odd (x ⊕ y) ≡ xor (is_odd x) (is_odd y)
unfolding ◌⊕◌ xor
odd_⊕ x y =
    ap (λ m. eqb m 1) (⊕_digit x y)
    ∙ digits_case (λ p q. eqb (p ⊕ q) 1 ≡ xor (eqb p 1) (eqb q 1)) refl refl refl refl (x % 2) (y % 2) (omega arith) (omega arith)

-- each binary digit by itself
pub ⊕-bit : (k x y : ℕ) → is_odd ((x ⊕ y) / 2 ^ k) ≡ xor (is_odd (x / 2 ^ k)) (is_odd (y / 2 ^ k))
⊕-bit k x y = ap is_odd (⊕-div k x y) ∙ odd_⊕ (x / 2 ^ k) (y / 2 ^ k)

-- two numbers with equal halves and equal last digits are equal
pub by_digit : {a b : ℕ} → a / 2 ≡ b / 2 → a % 2 ≡ b % 2 → a ≡ b
by_digit h d = omega arith

digit_assoc : (x y z : ℕ) → x < 2 → y < 2 → z < 2 → x ⊕ y ⊕ z ≡ x ⊕ (y ⊕ z)
unfolding ◌⊕◌
digit_assoc x y z hx hy hz =
    digit_case (λ z. x ⊕ y ⊕ z ≡ x ⊕ (y ⊕ z))
    (digits_case (λ x y. x ⊕ y ⊕ 0 ≡ x ⊕ (y ⊕ 0)) refl refl refl refl x y hx hy)
    (digits_case (λ x y. x ⊕ y ⊕ 1 ≡ x ⊕ (y ⊕ 1)) refl refl refl refl x y hx hy) z hz

pub ⊕_assoc : (a b c : ℕ) → a ⊕ b ⊕ c ≡ a ⊕ (b ⊕ c)
⊕_assoc a = bin_ind (λ (a : ℕ). (b c : ℕ) → a ⊕ b ⊕ c ≡ a ⊕ (b ⊕ c)) base step a
  where
    base : (b c : ℕ) → 0 ⊕ b ⊕ c ≡ 0 ⊕ (b ⊕ c)
    base b c = simp zero-⊕

    step : (a : ℕ) → ((b c : ℕ) → a / 2 ⊕ b ⊕ c ≡ a / 2 ⊕ (b ⊕ c)) → (b c : ℕ) → a ⊕ b ⊕ c ≡ a ⊕ (b ⊕ c)
    step a ih b c =
        by_digit
        (simp ⊕-half (ih (b / 2) (c / 2)))
        (simp ⊕_digit (digit_assoc (a % 2) (b % 2) (c % 2) (omega arith) (omega arith) (omega arith)))

pub ⊕-left_comm : (a b c : ℕ) → a ⊕ (b ⊕ c) ≡ b ⊕ (a ⊕ c)
⊕-left_comm a b c = sym (⊕_assoc a b c) ∙ ap (λ (m : ℕ). m ⊕ c) (⊕_comm a b) ∙ ⊕_assoc b a c

pub ⊕_cancel : (a b : ℕ) → a ⊕ (a ⊕ b) ≡ b
⊕_cancel a b = sym (⊕_assoc a a b) ∙ ap (λ (m : ℕ). m ⊕ b) (⊕_self a) ∙ zero-⊕ b

-- decides equations of ⊕
pub ruleset xors = (⊕_assoc, ⊕_comm, ⊕-left_comm, ⊕_self, ⊕-zero, zero-⊕, ⊕_cancel)

pub ⊕_zero→≡ : {a b : ℕ} → a ⊕ b ≡ 0 → a ≡ b
⊕_zero→≡ {a} {b} h =
    let e : a ⊕ b ⊕ b ≡ a = simp xors in
    sym e ∙ ap (λ (m : ℕ). m ⊕ b) h ∙ zero-⊕ b

pub ≡→⊕-zero : {a b : ℕ} → a ≡ b → a ⊕ b ≡ 0
≡→⊕-zero {a} {b} h = rw h (⊕_self b)

-- (a ⊕ b) ⊕ (c ⊕ d) with the inner two changed over
pub ⊕_swap : (a b c d : ℕ) → a ⊕ b ⊕ (c ⊕ d) ≡ a ⊕ c ⊕ (b ⊕ d)
⊕_swap a b c d = simp (⊕_assoc, ⊕-left_comm b c d)
