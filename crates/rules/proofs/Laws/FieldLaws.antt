-- RULES 1: a power below 255 has one logarithm, and the product of two powers adds their exponents.
-- Assumes nothing.
use mathlib.Core.Path.{◌≡◌, refl, sym, ap, ap₂, ◌∙◌}
use mathlib.Core.Logic.{◌≢◌}
use mathlib.Core.Bool.{Bool, true, false}
use Prim.Native.Nat.{ℕ, zero, suc, ◌+◌, ◌*◌, ◌/◌, ◌%◌, ◌≤◌, ◌<◌}
use native.Mathlib.Omega.{arith}
use borrow.Author.Tests.{eqb-true, eqb-false}
use lib.Dec.{eqb, lit<}
use lib.ListN.{get_or}
use Rattle.algebra.specs.Register.{iter, turn}
use Rattle.algebra.specs.Marking.{power_part, mark_at}
use Rattle.algebra.specs.Field256.{logs, small_marking}
use Rattle.algebra.proofs.RegisterLaws.{iter-add, iter-mul, iter_keeps, iter_nonzero}
use Rattle.algebra.proofs.RegisterProduct.{multiply, multiply_powers, zero-multiply, multiply-zero}
use Rattle.algebra.proofs.MarkLaws.{power_at}
use Rattle.algebra.proofs.Field256Laws.{fit256, powers256_at, round256, powers256_logs, logs256_lt, power256_injective}
use Rattle.rules.specs.Field.{poly, times_a, power, exponent, logarithm, product}

-- ---- powers

pub power_is : (e : ℕ) → power e ≡ iter e (turn 7 29) 1
unfolding power times_a poly
power_is e = refl

pub power-some : (e : ℕ) → power e ≢ 0
power-some e z =
    let q : ◌≡◌ {A = ℕ} 1 0 = iter_nonzero 7 29 (lit< tt) refl e 1 (lit< tt) (sym (power_is e) ∙ z) in
    omega arith

-- a^255 = 1, so 255 steps more lead to the same power
pub power_wrap : (e : ℕ) → power (e % 255) ≡ power e
power_wrap e =
    let s : e ≡ e % 255 + 255 * (e / 255) = omega arith in
    let rounds : iter (255 * (e / 255)) (turn 7 29) 1 ≡ 1 =
    iter-mul 255 (e / 255) (turn 7 29) 1
    ∙ iter_keeps (λ x. x ≡ 1) (iter 255 (turn 7 29)) (λ x p. ap (iter 255 (turn 7 29)) p ∙ round256) (e / 255) 1 refl in
    power_is (e % 255) ∙ ap (iter (e % 255) (turn 7 29)) (sym rounds)
    ∙ sym (iter-add (e % 255) (255 * (e / 255)) (turn 7 29) 1) ∙ sym (power_is (e % 255 + 255 * (e / 255))) ∙ ap power (sym s)

pub power_same : (i j : ℕ) → i < 255 → j < 255 → power i ≡ power j → i ≡ j
power_same i j hi hj e = power256_injective i j hi hj (sym (power_is i) ∙ e ∙ power_is j)

-- ---- logarithms

exponent_small : (left e x : ℕ) → e + left ≤ 255 → exponent left e x < 255
unfolding exponent
exponent_small zero e x h = lit< tt
exponent_small (suc left) e x h = go (eqb (power e) x) (exponent_small left (suc e) x (omega arith))
  where
    go :
        (b : Bool) → exponent left (suc e) x < 255
        → elim b [ true ↦ e | false ↦ exponent left (suc e) x ] < 255
    go true later = omega arith
    go false later = later

-- the search ends at a power that is x, if it passes one
exponent_finds :
    (left e x i : ℕ) → e ≤ i → i < e + left → power i ≡ x → power (exponent left e x) ≡ x
unfolding exponent
exponent_finds zero e x i lo hi p = absurd (omega arith)
exponent_finds (suc left) e x i lo hi p = go (eqb (power e) x) refl (λ n. exponent_finds left (suc e) x i n (omega arith) p)
  where
    go :
        (b : Bool) → eqb (power e) x ≡ b → (suc e ≤ i → power (exponent left (suc e) x) ≡ x)
        → power (elim b [ true ↦ e | false ↦ exponent left (suc e) x ]) ≡ x
    go true q later = eqb-true (power e) x q
    go false q later =
        let other : e ≢ i = λ s. eqb-false (power e) x q (ap power s ∙ p) in
        later (omega arith)

pub logarithm_small : (x : ℕ) → logarithm x < 255
unfolding logarithm
logarithm_small x = exponent_small 255 0 x (omega arith)

table_power : (x : ℕ) → 1 ≤ x → x < 256 → power (get_or logs x 0) ≡ x
table_power x lo hi =
    power_is (get_or logs x 0) ∙ sym (powers256_at (get_or logs x 0) (logs256_lt x lo hi)) ∙ powers256_logs x lo hi

power_logarithm_at : (x i : ℕ) → i < 255 → power i ≡ x → power (logarithm x) ≡ x
unfolding logarithm
power_logarithm_at x i h p = exponent_finds 255 0 x i (omega arith) (omega arith) p

pub power_logarithm : (x : ℕ) → x ≢ 0 → x < 256 → power (logarithm x) ≡ x
power_logarithm x n h =
    let lo : 1 ≤ x = omega (arith, n) in
    power_logarithm_at x (get_or logs x 0) (logs256_lt x lo h) (table_power x lo h)

-- the search for 0 finds nothing
exponent-none : (left e : ℕ) → exponent left e 0 ≡ 0
unfolding exponent
exponent-none zero e = refl
exponent-none (suc left) e = go (eqb (power e) 0) refl (exponent-none left (suc e))
  where
    go :
        (b : Bool) → eqb (power e) 0 ≡ b → exponent left (suc e) 0 ≡ 0
        → ◌≡◌ {A = ℕ} (elim b [ true ↦ e | false ↦ exponent left (suc e) 0 ]) 0
    go true q later = absurd (power-some e (eqb-true (power e) 0 q))
    go false q later = later

pub logarithm-zero : logarithm 0 ≡ 0
unfolding logarithm
logarithm-zero = exponent-none 255 0

pub logarithm_power : (e : ℕ) → e < 255 → logarithm (power e) ≡ e
logarithm_power e h =
    power_same (logarithm (power e)) e (logarithm_small (power e)) h (power_logarithm_at (power e) e h refl)

-- ---- the product

-- the product that the register of 'times a' makes
product_is : (x y : ℕ) → product x y ≡ multiply 7 29 x y
unfolding product multiply times_a poly
product_is x y = refl

pub product_powers : (i j : ℕ) → product (power i) (power j) ≡ power (i + j)
product_powers i j =
    product_is (power i) (power j) ∙ ap₂ (multiply 7 29) (power_is i) (power_is j)
    ∙ multiply_powers 7 29 (lit< tt) i j ∙ sym (power_is (i + j))

pub product-zero-left : (y : ℕ) → product 0 y ≡ 0
product-zero-left y = product_is 0 y ∙ zero-multiply 7 29 y

pub product-zero_right : (x : ℕ) → product x 0 ≡ 0
product-zero_right x = product_is x 0 ∙ multiply-zero 7 29 x

-- ---- the tables

pub marks_power : (e : ℕ) → power_part small_marking (mark_at small_marking (e % 255)) ≡ power e
marks_power e = power_at small_marking fit256 (e % 255) (omega arith) ∙ sym (power_is (e % 255)) ∙ power_wrap e

pub logs_logarithm : (x : ℕ) → x < 256 → get_or logs x 0 ≡ logarithm x
unfolding logs
logs_logarithm zero h = sym logarithm-zero
logs_logarithm (suc x) h =
    let l : get_or logs (suc x) 0 < 255 = logs256_lt (suc x) (omega arith) h in
    sym (logarithm_power (get_or logs (suc x) 0) l) ∙ ap logarithm (table_power (suc x) (omega arith) h)
