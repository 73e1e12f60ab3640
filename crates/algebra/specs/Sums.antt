-- Sums by ⊕ over a list, and statements about all elements of a list.
use Rattle.std.specs.Prelude.{◌≢◌, List, [], ◌∷◌, ℕ}
use Rattle.algebra.specs.Xor.{◌⊕◌}

-- P of each element
abbrev pub All : {A : Type 0} → (A → Type 0) → List A → Type 0
All P [] = Unit {0}
All P (a ∷ ps) = P a × All P ps

-- x takes different values at the elements
abbrev pub Distinct : {A F : Type 0} → (A → F) → List A → Type 0
Distinct x [] = Unit {0}
Distinct x (a ∷ ps) = All (λ b. x b ≢ x a) ps × Distinct x ps

abbrev pub AllN : (ℕ → Type 0) → List ℕ → Type 0
AllN P es = All P es

-- no number stands twice in the list
abbrev pub Different : List ℕ → Type 0
Different [] = Unit {0}
Different (e ∷ es) = AllN (λ e'. e' ≢ e) es × Different es

unfoldable pub xsum : (ℕ → ℕ) → List ℕ → ℕ
xsum f [] = 0
xsum f (e ∷ es) = f e ⊕ xsum f es
