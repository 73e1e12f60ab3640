-- The checks that every entry point begins with, in the program's order: the number that each gives where it applies.
-- Assumes nothing.
use mathlib.Core.Path.{◌≡◌, refl, ◌∙◌}
use mathlib.Core.Logic.{◌≢◌}
use mathlib.Core.Bool.{true, false}
use mathlib.Core.List.{List, [], ◌∷◌, ◌++◌}
use Prim.Native.Nat.{ℕ, zero, suc, ◌≤◌}
use native.Mathlib.Omega.{arith}
use lib.ListN.{length, take, drop}
use Rattle.rules.specs.Codes.{Code, length_limit}
use Rattle.rules.specs.Numbers.{outside, not_long, RefusalList, first, size_refusals}
use Rattle.rules.proofs.Laws.CodeLaws.{Sound}
use Rattle.rules.proofs.Laws.NumberLaws.{Sized, range_test}

-- ---- The first i of some checks

-- one of them is met: its number stays, whatever comes after
pub first_met : (checks : RefusalList) (i k : ℕ) → k ≢ 0 → k ≡ first (take i checks) → k ≡ first checks
first_met [] zero k some e = e
first_met [] (suc i) k some e = e
first_met (check ∷ checks) zero k some e = absurd (some e)
first_met ((true, j) ∷ checks) (suc i) k some e = e
first_met ((false, j) ∷ checks) (suc i) k some e = first_met checks i k some e

-- no check gives the number 0
abbrev pub Numbered : RefusalList → Type 0
Numbered [] = Unit {0}
Numbered (check ∷ later) = (1 ≤ check.1) × Numbered later

-- none of them is met: those after them decide
pub first_passed : (checks : RefusalList) (i : ℕ) → Numbered (take i checks) → 0 ≡ first (take i checks) → first (drop i checks) ≡ first checks
first_passed [] zero n e = refl
first_passed [] (suc i) n e = refl
first_passed (check ∷ checks) zero n e = refl
first_passed ((true, j) ∷ checks) (suc i) n e = absurd (omega (arith, n.0, e))
first_passed ((false, j) ∷ checks) (suc i) n e = first_passed checks i n.1 e

-- ---- The checks of sizes

pub inside : (code : Code) (n : ℕ) → outside code n ≡ false → (code.shortest ≤ n) × (n ≤ code.longest)
inside code n h = (range_test code.shortest code.longest n).0 h

-- and no longer than the longest word of all codes
pub not_longer : (code : Code) (ok : Sound code) (n : ℕ) → outside code n ≡ false → n ≤ length_limit
not_longer code ok n h = omega (arith, (inside code n h).1, ok.not_long_lem)

module _ (code : Code) (n : ℕ) (input : List ℕ) (takes : ℕ) (output : List ℕ) (gives : ℕ) where
  -- none of them applies
  pub sized : outside code n ≡ false → length input ≡ takes → length output ≡ gives → Sized code n input takes output gives
  sized h a b = let i = inside code n h in record { from = i.0; up_to = i.1; taken = a; lent = b }

  -- what is checked of n alone, and of the two lengths
  abbrev pub of_n : RefusalList
  of_n = (outside code n, 1) ∷ []

  abbrev pub of_lengths : RefusalList
  of_lengths = (not_long input takes, 2) ∷ (not_long output gives, 3) ∷ []

  module _ (later : RefusalList) where
    pub n_met : (k : ℕ) → k ≢ 0 → k ≡ first of_n → k ≡ first (size_refusals code n input takes output gives later)
    n_met = first_met (size_refusals code n input takes output gives later) 1

    module _ (of_n_passed : 0 ≡ first of_n) where
      pub lengths_met : (k : ℕ) → k ≢ 0 → k ≡ first of_lengths → k ≡ first (size_refusals code n input takes output gives later)
      lengths_met k some e =
          first_met (of_lengths ++ later) 2 k some e
          ∙ first_passed (size_refusals code n input takes output gives later) 1 (omega arith, tt) of_n_passed

      pub sizes_passed : 0 ≡ first of_lengths → first later ≡ first (size_refusals code n input takes output gives later)
      sizes_passed e =
          first_passed (of_lengths ++ later) 2 (omega arith, (omega arith, tt)) e
          ∙ first_passed (size_refusals code n input takes output gives later) 1 (omega arith, tt) of_n_passed
