-- A shift register's step is additive and loses nothing; steps made many times; a register carried by an additive map.
-- Assumes nothing.
use mathlib.Core.Path.{◌≡◌, refl, sym, ap, ap₂, ◌∙◌}
use Prim.Native.Nat.{ℕ, zero, suc, ◌+◌, ◌*◌, ◌/◌, ◌%◌, ◌^◌, ◌≤◌, ◌<◌}
use native.Mathlib.Nat.{mod-lt, zero-mul, one-mul, zero-add, suc-add, add_comm, mul-zero, mul-suc, pow-suc, mod-eq_of_lt, div-eq_of_lt}
use native.Mathlib.Omega.{arith}
use lib.Arith.{mod-mul}
use lib.Pow.{pow_pos, pow-lt, split, shr_lt}
use lib.Dec.{T, lit<}
use Rattle.algebra.specs.Xor.{◌⊕◌}
use Rattle.algebra.specs.Register.{iter, turn}
use Rattle.algebra.specs.Linear.{Additive}
use Rattle.algebra.proofs.Digits.{digit_case}
use Rattle.algebra.proofs.XorLaws.{⊕-zero, zero-⊕, ⊕_swap, ⊕-half, ⊕_digit, ⊕-div, ⊕-mod, ⊕-lt, by_digit}
use Rattle.algebra.proofs.LinearLaws.{digit_scale, additive_zero, additive_compose, additive_iter, agree, agrees, agrees→}

pub ⊕_double : (a b : ℕ) → 2 * (a ⊕ b) ≡ 2 * a ⊕ 2 * b
⊕_double a b = by_digit halves digits
  where
    half : (x : ℕ) → 2 * x / 2 ≡ x
    half x = omega arith

    even : (x : ℕ) → 2 * x % 2 ≡ 0
    even x = omega arith

    halves : 2 * (a ⊕ b) / 2 ≡ (2 * a ⊕ 2 * b) / 2
    halves = simp (⊕-half, half)

    digits : 2 * (a ⊕ b) % 2 ≡ (2 * a ⊕ 2 * b) % 2
    digits = simp (⊕_digit, even, ⊕-zero)

-- for every width and every c, odd or not
pub turn_additive : (k c : ℕ) → Additive (turn k c)
unfolding turn
turn_additive k c a b =
    ap₂ ◌⊕◌
    (ap (λ (m : ℕ). m % 2 ^ suc k) (⊕_double a b) ∙ ⊕-mod (suc k) (2 * a) (2 * b))
    (ap (λ (m : ℕ). m % 2 * c) (⊕-div k a b) ∙ ap (λ (m : ℕ). m * c) (⊕_digit (a / 2 ^ k) (b / 2 ^ k))
    ∙ digit_scale c (a / 2 ^ k % 2) (b / 2 ^ k % 2) (omega arith) (omega arith))
    ∙ ⊕_swap (2 * a % 2 ^ suc k) (2 * b % 2 ^ suc k) (a / 2 ^ k % 2 * c) (b / 2 ^ k % 2 * c)

pub digit_lt : (d : ℕ) {c n : ℕ} → d < 2 → c < n → d * c < n
digit_lt d {c} {n} h hc = digit_case (λ d. d * c < n) (rw zero-mul (omega arith)) (rw one-mul hc) d h

pub turn-lt : (k : ℕ) {c : ℕ} → c < 2 ^ suc k → (x : ℕ) → turn k c x < 2 ^ suc k
unfolding turn
turn-lt k h x = ⊕-lt (suc k) (mod-lt (2 * x) (pow_pos (suc k))) (digit_lt (x / 2 ^ k % 2) (omega arith) h)

-- an odd number keeps the digit that scales it
digit_odd : (d c : ℕ) → c % 2 ≡ 1 → d < 2 → d * c % 2 ≡ d
digit_odd d c h hd = digit_case (λ d. d * c % 2 ≡ d) (rw zero-mul) (rw one-mul h) d hd

-- the shift drops the top digit and nothing else
double_mod : (k x : ℕ) → 2 * x % 2 ^ suc k ≡ x % 2 ^ k * 2
double_mod k x =
    let h : 2 * x / 2 ≡ x = omega arith in
    let e : 2 * x % (2 ^ k * 2) ≡ 2 * x / 2 % 2 ^ k * 2 + 2 * x % 2 = mod-mul (2 * x) (pow_pos k) (lit< tt) in
    let e' : 2 * x % (2 ^ k * 2) ≡ x % 2 ^ k * 2 + 2 * x % 2 = e ∙ ap (λ (m : ℕ). m % 2 ^ k * 2 + 2 * x % 2) h in
    ap (λ (m : ℕ). 2 * x % m) (pow-suc 2 k) ∙ e' ∙ omega arith

-- what falls out at the top comes in again at the bottom, as c is odd
pub turn_nonzero : (k c : ℕ) → c % 2 ≡ 1 → {x : ℕ} → x < 2 ^ suc k → turn k c x ≡ 0 → x ≡ 0
unfolding turn
turn_nonzero k c odd {x} h e =
    let d : ℕ = x / 2 ^ k % 2 in
    let p : (x % 2 ^ k * 2) ⊕ d * c ≡ 0 = ap (λ (m : ℕ). m ⊕ d * c) (sym (double_mod k x)) ∙ e in
    let even : x % 2 ^ k * 2 % 2 ≡ 0 = omega arith in
    let q : d ≡ 0 =
    sym (digit_odd d c odd (omega arith)) ∙ sym (zero-⊕ (d * c % 2)) ∙ ap (λ (m : ℕ). m ⊕ d * c % 2) (sym even)
    ∙ sym (⊕_digit (x % 2 ^ k * 2) (d * c)) ∙ ap (λ (m : ℕ). m % 2) p in
    let z : x % 2 ^ k * 2 ≡ 0 =
    sym (⊕-zero (x % 2 ^ k * 2)) ∙ ap (λ (m : ℕ). x % 2 ^ k * 2 ⊕ m) (sym (ap (λ (m : ℕ). m * c) q ∙ zero-mul c)) ∙ p in
    let o : 1 + k ≡ suc k = omega arith in
    let s : x / 2 ^ k < 2 = shr_lt 1 k (rw o h) in
    let t : x / 2 ^ k ≡ 0 = omega arith in
    sym (split x k) ∙ ap (λ (m : ℕ). m * 2 ^ k + x % 2 ^ k) t ∙ ap (λ (m : ℕ). m + x % 2 ^ k) (zero-mul (2 ^ k)) ∙ omega arith

module _ {ℓ} {A : Type ℓ} where
  pub iter-add : (m n : ℕ) (f : A → A) (x : A) → iter (m + n) f x ≡ iter m f (iter n f x)
  unfolding iter
  iter-add zero n f x = ap (λ (j : ℕ). iter j f x) (zero-add n)
  iter-add (suc m) n f x = ap (λ (j : ℕ). iter j f x) (suc-add m n) ∙ ap f (iter-add m n f x)

  -- the first step set apart, where the definition sets the last apart
  pub iter-suc : (n : ℕ) (f : A → A) (x : A) → iter (suc n) f x ≡ iter n f (f x)
  unfolding iter
  iter-suc zero f x = refl
  iter-suc (suc n) f x = ap f (iter-suc n f x)

  pub iter_comm : (m n : ℕ) (f : A → A) (x : A) → iter m f (iter n f x) ≡ iter n f (iter m f x)
  iter_comm m n f x = sym (iter-add m n f x) ∙ ap (λ (j : ℕ). iter j f x) (add_comm m n) ∙ iter-add n m f x

  -- e rounds of r steps
  pub iter-mul : (r e : ℕ) (f : A → A) (x : A) → iter (r * e) f x ≡ iter e (iter r f) x
  unfolding iter
  iter-mul r zero f x = ap (λ (j : ℕ). iter j f x) (mul-zero r)
  iter-mul r (suc e) f x =
      ap (λ (j : ℕ). iter j f x) (mul-suc r e ∙ add_comm (r * e) r) ∙ iter-add r (r * e) f x ∙ ap (iter r f) (iter-mul r e f x)

  -- what f keeps, iter keeps
  pub iter_keeps :
      (P : A → Type 0) (f : A → A) → ((x : A) → P x → P (f x)) → (n : ℕ) (x : A) → P x → P (iter n f x)
  unfolding iter
  iter_keeps P f h zero x p = p
  iter_keeps P f h (suc n) x p = h (iter n f x) (iter_keeps P f h n x p)

pub iter-lt : (k : ℕ) {c : ℕ} → c < 2 ^ suc k → (n x : ℕ) → x < 2 ^ suc k → iter n (turn k c) x < 2 ^ suc k
iter-lt k {c} h = iter_keeps (λ (x : ℕ). x < 2 ^ suc k) (turn k c) (λ x p. turn-lt k h x)

pub one-lt : (k : ℕ) → 1 < 2 ^ suc k
one-lt k = omega (arith, pow-suc 2 k, pow_pos k)

pub iter-zero : (k c n : ℕ) → iter n (turn k c) 0 ≡ 0
iter-zero k c n = additive_zero (iter n (turn k c)) (additive_iter (turn k c) (turn_additive k c) n)

-- as long as no digit falls out, a step doubles
pub iter_doubles : (k c m : ℕ) → m ≤ k → iter m (turn k c) 1 ≡ 2 ^ m
unfolding iter turn
iter_doubles k c zero h = refl
iter_doubles k c (suc m) h =
    let top : 2 ^ m < 2 ^ k = pow-lt {j = k} h in
    let e₁ : 2 * 2 ^ m % 2 ^ suc k ≡ 2 * 2 ^ m = mod-eq_of_lt (omega (arith, pow-suc 2 k)) in
    let e₂ : 2 ^ m / 2 ^ k ≡ 0 = div-eq_of_lt top in
    ap (turn k c) (iter_doubles k c m (omega arith)) ∙ rw (e₁, e₂, zero-mul, ⊕-zero) (omega (arith, pow-suc 2 m))

-- no number of steps leads to 0, but from 0
pub iter_nonzero :
    (k c : ℕ) → c < 2 ^ suc k → c % 2 ≡ 1 → (n x : ℕ) → x < 2 ^ suc k → iter n (turn k c) x ≡ 0 → x ≡ 0
unfolding iter
iter_nonzero k c small odd zero x h e = e
iter_nonzero k c small odd (suc n) x h e =
    iter_nonzero k c small odd n x h (turn_nonzero k c odd (iter-lt k small n x h) e)

-- An additive map that carries one step of a register to r steps of another carries e steps to r * e: so the r-th power
-- sum is an additive function of a remainder.
module _
    (k c k' c' r : ℕ) (f : ℕ → ℕ) (small : c < 2 ^ suc k) (add : Additive f) (unit : f 1 ≡ 1)
    (step : (i : ℕ) → i < suc k → f (turn k c (2 ^ i)) ≡ iter r (turn k' c') (f (2 ^ i)))
  where
    pub carry_step : (x : ℕ) → x < 2 ^ suc k → f (turn k c x) ≡ iter r (turn k' c') (f x)
    carry_step =
        agree (suc k) (λ x. f (turn k c x)) (λ x. iter r (turn k' c') (f x))
        (additive_compose f (turn k c) add (turn_additive k c))
        (additive_compose (iter r (turn k' c')) f (additive_iter (turn k' c') (turn_additive k' c') r) add)
        step

    pub carry : (e : ℕ) → f (iter e (turn k c) 1) ≡ iter (r * e) (turn k' c') 1
    unfolding iter
    carry zero = unit ∙ ap (λ (j : ℕ). iter j (turn k' c') 1) (sym (mul-zero r))
    carry (suc e) =
        carry_step (iter e (turn k c) 1) (iter-lt k small e 1 (one-lt k)) ∙ ap (iter r (turn k' c')) (carry e)
        ∙ sym (iter-add r (r * e) (turn k' c') 1) ∙ ap (λ (j : ℕ). iter j (turn k' c') 1) (add_comm r (r * e) ∙ sym (mul-suc r e))

-- the same, the step by a test of k + 1 values
pub carry_tested :
    (k c k' c' r : ℕ) (f : ℕ → ℕ) → c < 2 ^ suc k → Additive f → f 1 ≡ 1
    → T (agrees (suc k) (λ x. f (turn k c x)) (λ x. iter r (turn k' c') (f x)))
    → (e : ℕ) → f (iter e (turn k c) 1) ≡ iter (r * e) (turn k' c') 1
carry_tested k c k' c' r f small add unit t =
    carry k c k' c' r f small add unit (agrees→ (suc k) (λ x. f (turn k c x)) (λ x. iter r (turn k' c') (f x)) t)
