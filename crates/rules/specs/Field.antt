-- RULES 1: the field.
use Rattle.std.specs.Prelude.{true, false, List, [], ◌∷◌, ℕ, zero, suc, ◌+◌, ◌*◌, ◌^◌, eqb}
use Rattle.algebra.specs.Register.{iter, turn}
use Rattle.algebra.specs.Linear.{lin}
use Rattle.algebra.specs.Tables.{tab}
use Rattle.algebra.specs.Sums.{xsum}

-- the polynomial with these exponents: its coefficients are the number's binary digits
unfoldable pub poly : List ℕ → ℕ
poly [] = 0
poly (e ∷ es) = 2 ^ e + poly es

-- the minimal polynomial of a
unfoldable pub minimal₁ : List ℕ
minimal₁ = 8 ∷ 4 ∷ 3 ∷ 2 ∷ 0 ∷ []

-- that of a^3
unfoldable pub minimal₃ : List ℕ
minimal₃ = 8 ∷ 6 ∷ 5 ∷ 4 ∷ 2 ∷ 1 ∷ 0 ∷ []

-- a byte times a: bit i, which stands for a^i, moves up by one, and a^8 is a^4 + a^3 + a^2 + 1
unfoldable pub times_a : ℕ → ℕ
times_a x = turn 7 (poly (4 ∷ 3 ∷ 2 ∷ 0 ∷ [])) x

-- a^e
unfoldable pub power : ℕ → ℕ
power e = iter e times_a 1

-- the least exponent from e on whose power is x, among the next `left`; 0 where there is none
unfoldable pub exponent : ℕ → ℕ → ℕ → ℕ
exponent zero e x = 0
exponent (suc left) e x = elim (eqb (power e) x) [ true ↦ e | false ↦ exponent left (suc e) x ]

-- the exponent below 255 of which x is the power: the powers come round at 255. For 0, which is none of them, it gives 0
unfoldable pub logarithm : ℕ → ℕ
logarithm x = exponent 255 0 x

-- x times y: y is the sum of the a^i at its ones, so the product is the sum of x a^i at them
unfoldable pub product : ℕ → ℕ → ℕ
product x y = lin (tab 8 (λ i. iter i times_a x)) y

-- the value at a^r of the polynomial with these exponents
unfoldable pub value_at : ℕ → List ℕ → ℕ
value_at r es = xsum (λ e. power (r * e)) es
