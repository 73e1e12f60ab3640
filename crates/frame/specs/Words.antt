-- Where the words of a frame lie in its bytes.
use Rattle.std.specs.Prelude.{Bool, ℕ}
use Rattle.laws.specs.Turns.{start_of, step_of}
use Rattle.word.specs.declared.at.WordAt.{WordAt}

-- word k in a direction
abbrev pub lies : ℕ → Bool → ℕ → WordAt
lies n columns k = record { n = n; start = start_of n columns k; step = step_of n columns }
