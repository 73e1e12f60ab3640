-- The bound of PowerSums, for numbers: 2 * t or fewer different exponents with all t odd sums zero are none.
-- Assumes nothing.
use mathlib.Core.Path.{◌≡◌, sym, ap, ap₂, ◌∙◌}
use mathlib.Core.Logic.{◌≢◌}
use mathlib.Core.List.{List, [], ◌∷◌}
use Prim.Native.Nat.{ℕ, suc, ◌+◌, ◌*◌, ◌-◌, ◌^◌, ◌≤◌, ◌<◌, Fin}
use native.Mathlib.Omega.{arith}
use lib.ListN.{length}
use Rattle.algebra.specs.Xor.{◌⊕◌}
use Rattle.algebra.specs.Register.{iter, turn}
use Rattle.algebra.specs.Sums.{Distinct, AllN, Different, xsum}
use Rattle.algebra.specs.LogTables.{Tables}
use Rattle.algebra.proofs.RegisterLaws.{iter_nonzero, one-lt}
use Rattle.algebra.proofs.LogTableLaws.{tables_small, tables_odd, power_injective}
use Rattle.algebra.proofs.Field.{Field2, power_of}
use Rattle.algebra.proofs.RegisterField.{register_field, place, place_value_lem, power_value, sum_value, zero_value}
use Rattle.algebra.proofs.Vandermonde.{field_sum, all_map, all_both}
use Rattle.algebra.proofs.PowerSums.{power_sum, few}

module _ (k c : ℕ) (powers logs : List ℕ) (tables : Tables k c powers logs) where
  abbrev F : Type 0
  F = Fin (2 ^ suc k)

  abbrev K : Field2 F
  K = register_field k c powers logs tables

  abbrev a^ : ℕ → F
  a^ = place k c powers logs tables

  value : (e : ℕ) → (a^ e).0 ≡ iter e (turn k c) 1
  value = place_value_lem k c powers logs tables

  -- different exponents below the order are different powers
  distinct : (es : List ℕ) → Different es → AllN (λ e. e < 2 ^ suc k - 1) es → Distinct a^ es
  distinct [] d h = tt
  distinct (e ∷ es) d h = (
    all_both
        (λ b n l p.
        n (power_injective k c powers logs tables b e l h.0 (sym (value b) ∙ ap (λ (x : F). x.0) p ∙ value e)))
        es d.0 h.1,
    distinct es d.1 h.1,
  )

  nonzero : (e : ℕ) → a^ e ≢ K.𝟘
  nonzero e p =
      let z : iter e (turn k c) 1 ≡ 0 =
      sym (value e) ∙ ap (λ (x : F). x.0) p ∙ zero_value k c powers logs tables in
      let o : ◌≡◌ {A = ℕ} 1 0 =
      iter_nonzero k c (tables_small k c powers logs tables) (tables_odd k c powers logs tables) e 1 (one-lt k) z in
      omega arith

  -- a power sum of the field is a sum of register states
  sums : (m : ℕ) (es : List ℕ) → (power_sum K a^ m es).0 ≡ xsum (λ e. iter (m * e) (turn k c) 1) es
  unfolding field_sum xsum
  sums m [] = zero_value k c powers logs tables
  sums m (e ∷ es) =
      sum_value k c powers logs tables (power_of K (a^ e) m) (power_sum K a^ m es)
      ∙ ap₂ ◌⊕◌ (power_value k c powers logs tables m e) (sums m es)

  -- no caller sees the field: exponents, register states and ⊕ alone
  pub places_independent :
      (t : ℕ) (es : List ℕ) → Different es → AllN (λ e. e < 2 ^ suc k - 1) es → length es ≤ 2 * t
      → ((r : ℕ) → r < t → xsum (λ e. iter ((2 * r + 1) * e) (turn k c) 1) es ≡ 0) → es ≡ []
  places_independent t es d h l s =
      few K t a^ es (λ r hr. native.Mathlib.Fin.val_path (sums (2 * r + 1) es ∙ s r hr ∙ sym (zero_value k c powers logs tables)))
      (distinct es d h) (all_map (λ e b. nonzero e) es h) l
