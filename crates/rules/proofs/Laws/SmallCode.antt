-- The small code is a code by remainders.
-- Assumes nothing.
use mathlib.Core.Path.{◌≡◌, refl}
use Prim.Native.Nat.{ℕ, ◌+◌, ◌^◌, ◌<◌}
use native.Mathlib.Omega.{arith}
use lib.Dec.{lit<, lit≤}
use Rattle.algebra.specs.Field256.{small_marking}
use Rattle.rules.specs.Field.{poly}
use Rattle.rules.specs.Codes.{g, small_code}
use Rattle.rules.proofs.Laws.CodeLaws.{Sound}

-- g without its highest term, as the marks have it
abbrev pub low : ℕ
low = small_marking.low

pub low_small : low < 2 ^ 16
low_small = lit< tt

pub g_low : g ≡ 2 ^ 16 + low
unfolding g poly
g_low = refl

pub sound_small : Sound small_code
unfolding g poly
sound_small =
    record {
      some_degree = omega arith;
      leads = lit≤ tt;
      no_higher = lit< tt;
      room = omega arith;
      not_long_lem = omega arith;
      not_wide = omega arith;
    }
