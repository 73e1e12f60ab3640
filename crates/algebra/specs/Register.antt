-- A shift register over the digits of a number, and a step made many times.
use Rattle.std.specs.Prelude.{ℕ, zero, suc, ◌*◌, ◌/◌, ◌%◌, ◌^◌}
use Rattle.algebra.specs.Xor.{◌⊕◌}

-- f made n times
unfoldable pub iter {ℓ} : {A : Type ℓ} → ℕ → (A → A) → A → A
iter zero f x = x
iter (suc n) f x = f (iter n f x)

-- one step of a register of k + 1 digits: twice x, and c added where the top digit falls out
unfoldable pub turn : ℕ → ℕ → ℕ → ℕ
turn k c x = 2 * x % 2 ^ suc k ⊕ x / 2 ^ k % 2 * c
