-- The powers at few ones of a word never ⊕ to zero: the bound of a code with t odd power sums, over the register, the field and t.
-- Assumes nothing.
use mathlib.Core.Path.{◌≡◌, refl, sym, ap, ap₂, ◌∙◌}
use mathlib.Core.Bool.{true, false}
use mathlib.Core.List.{List, [], ◌∷◌}
use Prim.Native.Nat.{ℕ, suc, ◌+◌, ◌*◌, ◌-◌, ◌^◌, ◌≤◌, ◌<◌}
use native.Mathlib.Omega.{arith}
use lib.ListN.{length}
use Rattle.algebra.specs.Xor.{◌⊕◌}
use Rattle.algebra.specs.Register.{iter, turn}
use Rattle.algebra.specs.Linear.{Additive}
use Rattle.algebra.specs.Tables.{ones}
use Rattle.algebra.specs.Words.{Word, dot}
use Rattle.algebra.specs.Remainder.{powers_down, descend}
use Rattle.algebra.specs.Sums.{AllN, Different, xsum}
use Rattle.algebra.specs.LogTables.{Tables}
use Rattle.algebra.proofs.XorLaws.{zero-⊕}
use Rattle.algebra.proofs.LinearLaws.{additive_zero}
use Rattle.algebra.proofs.Vandermonde.{all_map}
use Rattle.algebra.proofs.RemainderLaws.{powers_down-suc}
use Rattle.algebra.proofs.PlacesIndependent.{places_independent}

-- the exponents of a word's ones, the highest first
unfoldable pub degrees : Word → List ℕ
degrees [] = []
degrees (true ∷ w) = length w ∷ degrees w
degrees (false ∷ w) = degrees w

pub degrees-length : (w : Word) → length (degrees w) ≡ ones w
unfolding degrees ones
degrees-length [] = refl
degrees-length (true ∷ w) = ap suc (degrees-length w) ∙ (let e : suc (ones w) ≡ 1 + ones w = omega arith in e)
degrees-length (false ∷ w) = degrees-length w ∙ (let e : ones w ≡ 0 + ones w = omega arith in e)

pub degrees-lt : (w : Word) → AllN (λ e. e < length w) (degrees w)
unfolding degrees
degrees-lt [] = tt
degrees-lt (true ∷ w) = (omega arith, all_map (λ e h. let l : e < suc (length w) = omega arith in l) (degrees w) (degrees-lt w))
degrees-lt (false ∷ w) = all_map (λ e h. let l : e < suc (length w) = omega arith in l) (degrees w) (degrees-lt w)

pub degrees_different : (w : Word) → Different (degrees w)
unfolding degrees
degrees_different [] = tt
degrees_different (true ∷ w) =
    (all_map (λ e h q. let l : e < length w = h in omega (arith, q)) (degrees w) (degrees-lt w), degrees_different w)
degrees_different (false ∷ w) = degrees_different w

xsum_ext : (f h : ℕ → ℕ) → ((e : ℕ) → f e ≡ h e) → (es : List ℕ) → xsum f es ≡ xsum h es
unfolding xsum
xsum_ext f h q [] = refl
xsum_ext f h q (e ∷ es) = ap₂ ◌⊕◌ (q e) (xsum_ext f h q es)

-- an additive map goes under a sum
xsum_additive : (p f : ℕ → ℕ) → Additive p → (es : List ℕ) → p (xsum f es) ≡ xsum (λ e. p (f e)) es
unfolding xsum
xsum_additive p f add [] = additive_zero p add
xsum_additive p f add (e ∷ es) = add (f e) (xsum f es) ∙ ap (λ m. p (f e) ⊕ m) (xsum_additive p f add es)

module _ (k c : ℕ) (small : c < 2 ^ suc k) where
  dot_degrees : (w : Word) → dot (powers_down (suc k) (2 ^ suc k + c) (length w)) w ≡ xsum (λ e. iter e (turn k c) 1) (degrees w)
  unfolding dot degrees xsum descend
  dot_degrees [] = refl
  dot_degrees (true ∷ w) =
      ap (λ vs. dot vs (true ∷ w)) (powers_down-suc k c small (length w))
      ∙ ap (λ m. iter (length w) (turn k c) 1 ⊕ m) (dot_degrees w)
  dot_degrees (false ∷ w) =
      ap (λ vs. dot vs (false ∷ w)) (powers_down-suc k c small (length w))
      ∙ zero-⊕ (dot (powers_down (suc k) (2 ^ suc k + c) (length w)) w) ∙ dot_degrees w

  -- `part r` takes z^e mod g to a^((2r+1) e)
  module _
      (k' c' : ℕ) (powers logs : List ℕ) (tables : Tables k' c' powers logs) (t : ℕ) (part : ℕ → ℕ → ℕ)
      (additive : (r : ℕ) → r < t → Additive (part r))
      (carried : (r : ℕ) → r < t → (e : ℕ) → part r (iter e (turn k c) 1) ≡ iter ((2 * r + 1) * e) (turn k' c') 1)
    where
      pub independent :
          (w : Word) → length w ≤ 2 ^ suc k' - 1 → ones w ≤ 2 * t → dot (powers_down (suc k) (2 ^ suc k + c) (length w)) w ≡ 0
          → ones w ≡ 0
      independent w long few zero-sum =
          let es : List ℕ = degrees w in
          let s : xsum (λ e. iter e (turn k c) 1) es ≡ 0 = sym (dot_degrees w) ∙ zero-sum in
          let none : es ≡ [] =
          places_independent k' c' powers logs tables t es (degrees_different w)
          (all_map (λ e h. let l : e < length w = h in let m : e < 2 ^ suc k' - 1 = omega arith in m) es (degrees-lt w))
          (omega (arith, degrees-length w))
          (λ r hr.
          sym (xsum_ext (λ e. part r (iter e (turn k c) 1)) (λ e. iter ((2 * r + 1) * e) (turn k' c') 1) (carried r hr) es)
          ∙ sym (xsum_additive (part r) (λ e. iter e (turn k c) 1) (additive r hr) es)
          ∙ ap (part r) s ∙ additive_zero (part r) (additive r hr)) in
          sym (degrees-length w) ∙ ap length none
