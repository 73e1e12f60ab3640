-- The tables of the 256-element field are what they say, and what follows for numbers.
-- Assumes nothing.
use mathlib.Core.Path.{◌≡◌}
use Prim.Native.Nat.{ℕ, zero, suc, ◌≤◌, ◌<◌}
use native.Mathlib.Omega.{arith}
use lib.Dec.{lit<}
use lib.ListN.{get_or}
use Rattle.algebra.specs.Xor.{◌⊕◌}
use Rattle.algebra.specs.Register.{iter, turn}
use Rattle.algebra.specs.LogTables.{follows, inverts, Tables}
use Rattle.algebra.specs.Tables.{tab, tab_from, all_below}
use Rattle.algebra.specs.Linear.{lin}
use Rattle.algebra.specs.Marking.{log_at, mark_of, is_half}
use Rattle.algebra.specs.Field256.{marks, logs, halves, small_marking, powers}
use Rattle.algebra.proofs.LinearLaws.{agrees}
use Rattle.algebra.proofs.MarkLaws.{Fit}
use Rattle.algebra.proofs.LogTableLaws.{powers_at, round, powers_logs, logs-lt, power_injective}

-- the one place where the tests are computed
pub fit256 : Fit small_marking
unfolding marks logs halves follows inverts iter turn lin tab tab_from all_below agrees mark_of is_half ◌⊕◌
fit256 =
    record {
      tables = record { small = tt; odd = tt; count = tt; count_logs = tt; chain = tt; closes = tt; power_of_log = tt; log_of_power = tt };
      narrow = tt;
      remainders = tt;
      cubes = tt;
      unit = tt;
      back = tt;
      power_carried = tt;
      cube_carried = tt;
      pairs = tt;
    }

abbrev pub tables256 : Tables 7 29 powers logs
tables256 = fit256.tables

pub powers256_at : (i : ℕ) → i < 255 → get_or powers i 0 ≡ iter i (turn 7 29) 1
powers256_at = powers_at 7 29 powers logs tables256

pub round256 : iter 255 (turn 7 29) 1 ≡ 1
round256 = round 7 29 powers logs tables256

pub powers256_logs : (x : ℕ) → 1 ≤ x → x < 256 → get_or powers (get_or logs x 0) 0 ≡ x
powers256_logs = powers_logs 7 29 powers logs tables256

pub logs256_lt : (x : ℕ) → 1 ≤ x → x < 256 → get_or logs x 0 < 255
logs256_lt = logs-lt 7 29 powers logs tables256

pub power256_injective : (i j : ℕ) → i < 255 → j < 255 → iter i (turn 7 29) 1 ≡ iter j (turn 7 29) 1 → i ≡ j
power256_injective = power_injective 7 29 powers logs tables256

-- entry 0, which is unused, among them
pub log256_small : (x : ℕ) → x < 256 → log_at small_marking x < 255
unfolding logs
log256_small zero h = lit< tt
log256_small (suc x) h = logs256_lt (suc x) (omega arith) h
