-- What makes two lists the tables of powers and logarithms of a field made by a register: tests that compute.
use Rattle.std.specs.Prelude.{List, [], ◌∷◌, Bool, true, ◌&&◌, ℕ, suc, ◌%◌, ◌^◌, T, eqb, ltb, length, get_or, drop}
use Rattle.algebra.specs.Register.{iter, turn}

-- the list is x, step x, step (step x), ..
unfoldable pub follows : (ℕ → ℕ) → ℕ → List ℕ → Bool
follows step x [] = true
follows step x (p ∷ ps) = eqb x p && follows step (step p) ps

-- what xs holds at the first number of the list is n, at the second n + 1, ..
unfoldable pub inverts : List ℕ → ℕ → List ℕ → Bool
inverts xs n [] = true
inverts xs n (l ∷ ls) = eqb (get_or xs l 0) n && inverts xs (suc n) ls

-- every number but 0 of k + 1 digits is a power; entry 0 of the logarithms is unused
pub record Tables (k c : ℕ) (powers logs : List ℕ) : Type 0 where
  pub small : T (ltb c (2 ^ suc k))
  pub odd : T (eqb (c % 2) 1)
  pub count : T (eqb (suc (length powers)) (2 ^ suc k))
  pub count_logs : T (eqb (length logs) (2 ^ suc k))
  pub chain : T (follows (turn k c) 1 powers)
  pub closes : T (eqb (iter (length powers) (turn k c) 1) 1)
  pub power_of_log : T (inverts powers 1 (drop 1 logs))
  pub log_of_power : T (inverts logs 0 powers)
