-- Remainders by a polynomial of degree d, in a shift register. A polynomial is the number with its coefficients as digits.
use Rattle.std.specs.Prelude.{◌≡◌, Bool, false, cond, List, [], ◌∷◌, ◌++◌, ℕ, zero, suc, ◌+◌, ◌*◌, ◌/◌, ◌%◌, ◌^◌, ltb, eqb, replicate}
use Rattle.algebra.specs.Xor.{◌⊕◌}
use Rattle.algebra.specs.Tables.{num}
use Rattle.algebra.specs.Words.{Word, kept}

-- one more coefficient: 2 r + b, and g taken off where that reached 2^d
unfoldable pub shift : ℕ → ℕ → ℕ → Bool → ℕ
shift d g r b = let x : ℕ = 2 * r + num b in cond (ltb x (2 ^ d)) x (x ⊕ g)

-- the remainder of r followed by the coefficients w, the highest first
unfoldable pub register : ℕ → ℕ → ℕ → Word → ℕ
register d g r [] = r
register d g r (b ∷ w) = register d g (shift d g r b) w

-- r z^(m−1), .., r z, r, each modulo g, before the list behind
unfoldable pub descend : ℕ → ℕ → ℕ → ℕ → List ℕ → List ℕ
descend d g zero r behind = behind
descend d g (suc m) r behind = descend d g m (shift d g r false) (r ∷ behind)

-- z^(m−1), .., z, 1, each modulo g
abbrev pub powers_down : ℕ → ℕ → ℕ → List ℕ
powers_down d g m = descend d g m 1 []

-- is the number odd
abbrev pub is_odd : ℕ → Bool
is_odd x = eqb (x % 2) 1

-- the last m binary digits of a number, the highest first
unfoldable pub binary : ℕ → ℕ → Word
binary zero x = []
binary (suc m) x = is_odd (x / 2 ^ m) ∷ binary m x

-- the coefficients w, then the d that make the whole divisible by g
unfoldable pub systematic : ℕ → ℕ → Word → Word
systematic d g w = w ++ binary d (register d g 0 (w ++ replicate d false))

-- a polynomial's coefficients w, behind those of r, as a number: 2 r + b for each
unfoldable pub from_coefficients : ℕ → Word → ℕ
from_coefficients r [] = r
from_coefficients r (b ∷ w) = from_coefficients (2 * r + num b) w

-- g times the polynomial with the coefficients q, by Horner's rule: twice what is there, and g where the coefficient is one
unfoldable pub times : ℕ → ℕ → Word → ℕ
times g a [] = a
times g a (b ∷ q) = times g (2 * a ⊕ kept b g) q

-- x is g times some polynomial
abbrev pub Multiple : ℕ → ℕ → Type 0
Multiple g x = (q : Word) × (x ≡ times g 0 q)
