-- A word's answer by its checks alone.
use Rattle.std.specs.Prelude.{List, ℕ, ◌^◌}
use Rattle.std.proofs.Math.Option.{Option}
use Rattle.rules.specs.Codes.{Code, radius, check_bits}
use Rattle.rules.specs.Words.{values, within}

-- every remainder lies below the first of these, and all checks below the second
abbrev pub remainders_end : Code → ℕ
remainders_end code = 2 ^ code.degree

abbrev pub checks_end : Code → ℕ
checks_end code = 2 ^ check_bits code

-- the fewest places, at most the radius, whose values ⊕ to c; so `answer code n w` is `located code n (checks code n w)`
unfoldable pub located : Code → ℕ → ℕ → Option (List ℕ)
located code n c = within (radius code) (values code n) c
