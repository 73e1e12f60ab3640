-- Additive maps from which a number can be put together again tell any two numbers apart.
-- Assumes nothing.
use mathlib.Core.Path.{◌≡◌, refl, sym, ap, ap₂, ◌∙◌}
use mathlib.Core.List.{List, [], ◌∷◌}
use Prim.Native.Nat.{ℕ, ◌^◌, ◌<◌}
use lib.Dec.{T}
use Rattle.algebra.specs.Xor.{◌⊕◌}
use Rattle.algebra.specs.Linear.{Additive}
use Rattle.algebra.specs.Sums.{All}
use Rattle.algebra.proofs.XorLaws.{⊕_self}
use Rattle.algebra.proofs.LinearLaws.{additive_id, additive_compose, additive_add, agree, agrees, agrees→}

-- the sum of j (f x) over the pairs f, j
unfoldable pub rebuilt : List ((ℕ → ℕ) × (ℕ → ℕ)) → ℕ → ℕ
rebuilt [] x = 0
rebuilt (p ∷ ps) x = p.1 (p.0 x) ⊕ rebuilt ps x

abbrev pub AllAdditive : List ((ℕ → ℕ) × (ℕ → ℕ)) → Type 0
AllAdditive ps = All (λ p. Additive p.0 × Additive p.1) ps

pub rebuilt_additive : (ps : List ((ℕ → ℕ) × (ℕ → ℕ))) → AllAdditive ps → Additive (rebuilt ps)
unfolding rebuilt
rebuilt_additive [] h a b = sym (⊕_self 0)
rebuilt_additive (p ∷ ps) h a b =
    additive_add (λ x. p.1 (p.0 x)) (rebuilt ps) (additive_compose p.1 p.0 h.0.1 h.0.0) (rebuilt_additive ps h.1) a b

rebuilt_same :
    (ps : List ((ℕ → ℕ) × (ℕ → ℕ))) (x y : ℕ) → All (λ p. p.0 x ≡ p.0 y) ps → rebuilt ps x ≡ rebuilt ps y
unfolding rebuilt
rebuilt_same [] x y h = refl
rebuilt_same (p ∷ ps) x y h = ap₂ ◌⊕◌ (ap p.1 h.0) (rebuilt_same ps x y h.1)

-- two numbers with the same images are equal, if the images give back each power of two
pub inverse :
    (k : ℕ) (ps : List ((ℕ → ℕ) × (ℕ → ℕ))) → AllAdditive ps → ((i : ℕ) → i < k → rebuilt ps (2 ^ i) ≡ 2 ^ i)
    → {x y : ℕ} → x < 2 ^ k → y < 2 ^ k → All (λ p. p.0 x ≡ p.0 y) ps → x ≡ y
inverse k ps add basis {x} {y} hx hy h = sym (back x hx) ∙ rebuilt_same ps x y h ∙ back y hy
  where
    back : (z : ℕ) → z < 2 ^ k → rebuilt ps z ≡ z
    back = agree k (rebuilt ps) (λ z. z) (rebuilt_additive ps add) additive_id basis

-- the same, the basis by a test of k values
pub inverse_tested :
    (k : ℕ) (ps : List ((ℕ → ℕ) × (ℕ → ℕ))) → AllAdditive ps → T (agrees k (rebuilt ps) (λ z. z))
    → {x y : ℕ} → x < 2 ^ k → y < 2 ^ k → All (λ p. p.0 x ≡ p.0 y) ps → x ≡ y
inverse_tested k ps add t = inverse k ps add (agrees→ k (rebuilt ps) (λ z. z) t)
