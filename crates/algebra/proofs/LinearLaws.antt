-- Additive maps: they compose, and two that agree at the powers of two agree.
-- Assumes nothing.
use mathlib.Core.Path.{◌≡◌, refl, sym, ap, ap₂, ◌∙◌}
use mathlib.Core.List.{List, [], ◌∷◌}
use mathlib.Core.Bool.{Bool, true, false, ◌&&◌}
use Prim.Native.Nat.{ℕ, zero, suc, ◌+◌, ◌*◌, ◌-◌, ◌/◌, ◌%◌, ◌^◌, ◌<◌}
use native.Mathlib.Nat.{zero-mul, one-mul, pow-suc}
use native.Mathlib.Decide.{dec_lt}
use native.Mathlib.Omega.{arith}
use lib.Bits.{xor_shifted}
use lib.Dec.{T, eqb, eqb→eq}
use Rattle.algebra.specs.Xor.{◌⊕◌}
use Rattle.algebra.specs.Register.{iter}
use Rattle.algebra.specs.Linear.{Additive, lin}
use Rattle.algebra.proofs.Digits.{digits_case}
use Rattle.algebra.proofs.XorLaws.{⊕-zero, zero-⊕, ⊕_self, ⊕_swap, ⊕-half, ⊕_digit}

-- digits scale a number additively
pub digit_scale : (c x y : ℕ) → x < 2 → y < 2 → (x ⊕ y) * c ≡ x * c ⊕ y * c
digit_scale c =
    digits_case (λ x y. (x ⊕ y) * c ≡ x * c ⊕ y * c) (simp (zero-⊕, zero-mul)) (simp (zero-⊕, zero-mul)) (simp (⊕-zero, zero-mul))
    (simp (⊕_self, zero-mul))

-- a map given by its columns is additive, whatever the columns
pub lin_additive : (cs : List ℕ) → Additive (lin cs)
unfolding lin
lin_additive [] a b = sym (⊕_self 0)
lin_additive (c ∷ cs) a b =
    ap₂ ◌⊕◌
    (ap (λ (m : ℕ). m * c) (⊕_digit a b) ∙ digit_scale c (a % 2) (b % 2) (omega arith) (omega arith))
    (ap (lin cs) (⊕-half a b) ∙ lin_additive cs (a / 2) (b / 2))
    ∙ ⊕_swap (a % 2 * c) (b % 2 * c) (lin cs (a / 2)) (lin cs (b / 2))

pub additive_zero : (f : ℕ → ℕ) → Additive f → f 0 ≡ 0
additive_zero f h =
    let e : f 0 ≡ f 0 ⊕ f 0 = ap f (sym (⊕_self 0)) ∙ h 0 0 in
    e ∙ ⊕_self (f 0)

pub additive_id : Additive (λ x. x)
additive_id a b = refl

pub additive_compose : (f g : ℕ → ℕ) → Additive f → Additive g → Additive (λ x. f (g x))
additive_compose f g hf hg a b = ap f (hg a b) ∙ hf (g a) (g b)

pub additive_iter : (f : ℕ → ℕ) → Additive f → (n : ℕ) → Additive (iter n f)
unfolding iter
additive_iter f hf zero a b = refl
additive_iter f hf (suc n) a b = ap f (additive_iter f hf n a b) ∙ hf (iter n f a) (iter n f b)

pub additive_add : (f g : ℕ → ℕ) → Additive f → Additive g → Additive (λ x. f x ⊕ g x)
additive_add f g hf hg a b = ap₂ ◌⊕◌ (hf a b) (hg a b) ∙ ⊕_swap (f a) (f b) (g a) (g b)

-- a top digit beside a shorter number
pub ⊕-top : (k : ℕ) {r : ℕ} → r < 2 ^ k → 2 ^ k ⊕ r ≡ 2 ^ k + r
unfolding ◌⊕◌
⊕-top k {r} h = rw one-mul at (xor_shifted 1 k r h)

-- the basis lemma
pub agree :
    (k : ℕ) (f g : ℕ → ℕ) → Additive f → Additive g → ((i : ℕ) → i < k → f (2 ^ i) ≡ g (2 ^ i)) → (x : ℕ) → x < 2 ^ k
    → f x ≡ g x
agree zero f g hf hg e x h =
    let z : x ≡ 0 = omega arith in
    ap f z ∙ additive_zero f hf ∙ sym (additive_zero g hg) ∙ ap g (sym z)
agree (suc k) f g hf hg e x h = go (dec_lt x (2 ^ k)) (agree k f g hf hg (λ i hi. e i (omega arith)))
  where
    go : Dec (x < 2 ^ k) → ((y : ℕ) → y < 2 ^ k → f y ≡ g y) → f x ≡ g x
    go (yes s) ih = ih x s
    go (no n) ih =
        let r : x - 2 ^ k < 2 ^ k = omega (arith, pow-suc 2 k) in
        let q : x ≡ 2 ^ k + (x - 2 ^ k) = omega arith in
        let p : x ≡ 2 ^ k ⊕ (x - 2 ^ k) = q ∙ sym (⊕-top k r) in
        ap f p ∙ hf (2 ^ k) (x - 2 ^ k) ∙ ap₂ ◌⊕◌ (e k (omega arith)) (ih (x - 2 ^ k) r)
        ∙ sym (hg (2 ^ k) (x - 2 ^ k)) ∙ ap g (sym p)

-- a test that passed as a whole passed in each half
pub T_left : (a b : Bool) → T (a && b) → T a
T_left true b h = tt
T_left false b h = elim h [ ]

pub T_right : (a b : Bool) → T (a && b) → T b
T_right true b h = h
T_right false b h = elim h [ ]

-- the basis lemma's premise, as a test to be computed
unfoldable pub agrees : ℕ → (ℕ → ℕ) → (ℕ → ℕ) → Bool
agrees zero f g = true
agrees (suc k) f g = eqb (f (2 ^ k)) (g (2 ^ k)) && agrees k f g

-- what the test says
pub agrees→ : (k : ℕ) (f g : ℕ → ℕ) → T (agrees k f g) → (i : ℕ) → i < k → f (2 ^ i) ≡ g (2 ^ i)
unfolding agrees
agrees→ zero f g h i hi = absurd (omega arith)
agrees→ (suc k) f g h i hi =
    go (dec_lt i k) (agrees→ k f g (T_right (eqb (f (2 ^ k)) (g (2 ^ k))) (agrees k f g) h) i)
  where
    go : Dec (i < k) → (i < k → f (2 ^ i) ≡ g (2 ^ i)) → f (2 ^ i) ≡ g (2 ^ i)
    go (yes s) ih = ih s
    go (no n) ih =
        let p : i ≡ k = omega arith in
        rw p (eqb→eq (f (2 ^ k)) (g (2 ^ k)) (T_left (eqb (f (2 ^ k)) (g (2 ^ k))) (agrees k f g) h))
