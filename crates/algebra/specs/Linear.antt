-- Maps of numbers that carry ⊕ to ⊕.
use Rattle.std.specs.Prelude.{◌≡◌, List, [], ◌∷◌, ℕ, ◌*◌, ◌/◌, ◌%◌}
use Rattle.algebra.specs.Xor.{◌⊕◌}

abbrev pub Additive : (ℕ → ℕ) → Type 0
Additive f = (a b : ℕ) → f (a ⊕ b) ≡ f a ⊕ f b

-- the additive map whose values at 1, 2, 4, .. are the columns
unfoldable pub lin : List ℕ → ℕ → ℕ
lin [] x = 0
lin (c ∷ cs) x = x % 2 * c ⊕ lin cs (x / 2)
