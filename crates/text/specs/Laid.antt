-- RULES 9: a text laid into a buffer.
use Rattle.std.specs.Prelude.{◌≡◌, List, ◌++◌, ℕ, ◌+◌, ◌≤◌, length, take, drop}
use Rattle.textrules.specs.Text.{Text}

-- the buffer s with the text t from place `at` on; all else as it was
unfoldable pub laid : List ℕ → ℕ → Text → List ℕ
laid s at t = take at s ++ (t ++ drop (at + length t) s)

-- a call that lays t into the lent buffer, where it fits, and returns the place after it
abbrev pub Lays : List ℕ → ℕ → Text → ℕ → List ℕ → Type 0
Lays s at t r exit = (r ≡ at + length t) × (r ≤ length s) × (exit ≡ laid s at t)
