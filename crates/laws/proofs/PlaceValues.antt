-- The values of a word's places in the small code: z^e mod g with a parity of one, and 1 for the last; and what two of them ⊕ to.
-- Assumes nothing.
use mathlib.Core.Path.{◌≡◌, refl, sym, ap, ap₂, ◌∙◌}
use mathlib.Core.Bool.{true}
use mathlib.Core.List.{List, [], ◌∷◌}
use Prim.Native.Nat.{ℕ, zero, suc, ◌+◌, ◌*◌, ◌-◌, ◌^◌}
use native.Mathlib.Nat.{zero-add}
use native.Mathlib.Omega.{arith}
use lib.ListN.{get_or}
use Rattle.algebra.specs.Xor.{◌⊕◌}
use Rattle.algebra.specs.Sums.{xsum}
use Rattle.algebra.specs.Remainder.{powers_down, descend}
use Rattle.algebra.specs.Marking.{z_power}
use Rattle.algebra.specs.Field256.{small_marking}
use Rattle.algebra.proofs.XorLaws.{⊕-zero, xors}
use Rattle.algebra.proofs.RegisterLaws.{⊕_double}
use Rattle.algebra.proofs.RemainderLaws.{beside, powers_down-suc}
use Rattle.rules.specs.Codes.{small_code}
use Rattle.rules.specs.Words.{placed, values}
use Rattle.rules.proofs.Laws.SmallCode.{low, low_small, g_low}
use Rattle.laws.proofs.PlaceLaws.{place_value}

-- the values of m places, and that of the last
abbrev values_of : ℕ → List ℕ
values_of m = placed true (powers_down 16 (2 ^ 16 + low) m)

front_at : (p e m : ℕ) → p + suc e ≡ m → get_or (values_of m) p 0 ≡ 2 * z_power small_marking e + 1
front_at zero e m q =
    ap (λ l. get_or (placed true l) 0 0)
    (ap (powers_down 16 (2 ^ 16 + low)) (sym q ∙ zero-add (suc e)) ∙ powers_down-suc 15 low low_small e)
front_at (suc p) e zero q = absurd (omega arith)
front_at (suc p) e (suc m) q =
    ap (λ l. get_or (placed true l) (suc p) 0) (powers_down-suc 15 low low_small m) ∙ front_at p e m (omega arith)

last_at : (m : ℕ) → get_or (values_of m) m 0 ≡ 1
unfolding descend
last_at zero = refl
last_at (suc m) =
    ap (λ l. get_or (placed true l) (suc m) 0) (powers_down-suc 15 low low_small m) ∙ last_at m

values_low : (n : ℕ) → values small_code n ≡ values_of (n - 1)
unfolding values
values_low n = ap (λ p. placed true (powers_down 16 p (n - 1))) g_low

value_front : (n p e : ℕ) → p + e + 2 ≡ n → place_value small_code n p ≡ 2 * z_power small_marking e + 1
value_front n p e q = ap (λ l. get_or l p 0) (values_low n) ∙ front_at p e (n - 1) (omega arith)

value_last : (n p : ℕ) → p + 1 ≡ n → place_value small_code n p ≡ 1
value_last n p q =
    let r : n - 1 ≡ p = omega arith in
    ap (λ l. get_or l p 0) (values_low n)
    ∙ ap (λ m. get_or (values_of m) p 0) r ∙ last_at p

-- two parities of one cancel
both_odd : (x y : ℕ) → (2 * x + 1) ⊕ (2 * y + 1) ≡ 2 * (x ⊕ y)
both_odd x y =
    ap₂ ◌⊕◌ (sym (beside x true)) (sym (beside y true)) ∙ (let e : 2 * x ⊕ 1 ⊕ (2 * y ⊕ 1) ≡ 2 * x ⊕ 2 * y = simp xors in e)
    ∙ sym (⊕_double x y)

-- ---- what one place or two ⊕ to, e and f being below n − 1

one-sum : (n p v : ℕ) → place_value small_code n p ≡ v → xsum (place_value small_code n) (p ∷ []) ≡ v
unfolding xsum
one-sum n p v q = ⊕-zero (place_value small_code n p) ∙ q

two-sum :
    (n p q v u : ℕ) → place_value small_code n p ≡ 2 * v + 1 → place_value small_code n q ≡ 2 * u + 1
    → xsum (place_value small_code n) (p ∷ q ∷ []) ≡ 2 * (v ⊕ u)
unfolding xsum
two-sum n p q v u a b = ap₂ ◌⊕◌ a (⊕-zero (place_value small_code n q) ∙ b) ∙ both_odd v u

pub last_sum : (n p : ℕ) → p + 1 ≡ n → xsum (place_value small_code n) (p ∷ []) ≡ 1
last_sum n p h = one-sum n p 1 (value_last n p h)

pub front-sum : (n p e : ℕ) → p + e + 2 ≡ n → xsum (place_value small_code n) (p ∷ []) ≡ 2 * z_power small_marking e + 1
front-sum n p e h = one-sum n p (2 * z_power small_marking e + 1) (value_front n p e h)

pub with_last_sum :
    (n p q e : ℕ) → p + e + 2 ≡ n → q + 1 ≡ n → xsum (place_value small_code n) (p ∷ q ∷ []) ≡ 2 * z_power small_marking e
with_last_sum n p q e h k =
    two-sum n p q (z_power small_marking e) 0 (value_front n p e h) (value_last n q k) ∙ ap (λ x. 2 * x) (⊕-zero (z_power small_marking e))

pub fronts_sum :
    (n p q e f : ℕ) → p + e + 2 ≡ n → q + f + 2 ≡ n
    → xsum (place_value small_code n) (p ∷ q ∷ []) ≡ 2 * (z_power small_marking e ⊕ z_power small_marking f)
fronts_sum n p q e f h k =
    two-sum n p q (z_power small_marking e) (z_power small_marking f) (value_front n p e h) (value_front n q f k)
