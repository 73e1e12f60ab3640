-- Patterns of ones and rising lists of places are one thing; changing the places is ⊻ with the pattern.
-- Assumes nothing.
use mathlib.Core.Path.{◌≡◌, refl, sym, ap, ap₂, subst, ◌∙◌}
use mathlib.Core.Bool.{true, false, xor, ◌||◌}
use mathlib.Core.List.{List, [], ◌∷◌}
use Prim.Native.Nat.{ℕ, zero, suc, ◌+◌, ◌≤◌, ◌<◌}
use native.Mathlib.Nat.{add-zero, add-suc, suc-add, zero-add}
use native.Mathlib.Decide.{ℕ_discrete}
use native.Mathlib.Omega.{arith}
use borrow.Author.Tests.{eq-eqb, ne_eqb}
use lib.ListN.{length}
use Rattle.algebra.specs.Words.{Word, bit, ◌⊻◌}
use Rattle.algebra.proofs.TableLaws.{tab-length}
use Rattle.algebra.proofs.WordLaws.{⊻-length, ⊻-bit, xor_comm}
use Rattle.rules.specs.Words.{is_in, changed}
use Rattle.rules.proofs.Laws.Shape.{word_ext, bit_tab}
use Rattle.rules.proofs.Laws.SearchLaws.{places_from}

-- rising places from p on, below n
abbrev pub Rising : ℕ → ℕ → List ℕ → Type 0
Rising p n [] = Unit {0}
Rising p n (x ∷ xs) = (p ≤ x) × (x < n) × Rising (suc x) n xs

rising_later : (p n : ℕ) (xs : List ℕ) → Rising (suc p) n xs → Rising p n xs
rising_later p n [] h = tt
rising_later p n (x ∷ xs) h = (omega (arith, h.0), h.1, h.2)

pub places_rising : (p : ℕ) (w : Word) → Rising p (p + length w) (places_from p w)
unfolding places_from
places_rising p [] = tt
places_rising p (true ∷ w) =
    (omega arith, omega arith, subst (λ n. Rising (suc p) n (places_from (suc p) w)) (suc-add p (length w) ∙ sym (add-suc p (length w))) (places_rising (suc p) w))
places_rising p (false ∷ w) =
    rising_later p (p + suc (length w)) (places_from (suc p) w)
    (subst (λ n. Rising (suc p) n (places_from (suc p) w)) (suc-add p (length w) ∙ sym (add-suc p (length w))) (places_rising (suc p) w))

-- the pattern of a rising list
pub pattern : (n p : ℕ) (ps : List ℕ) → Rising p (p + n) ps → (w : Word) × (length w ≡ n) × (places_from p w ≡ ps)
unfolding places_from
pattern zero p [] h = ([], refl, refl)
pattern zero p (x ∷ xs) h = absurd (omega (arith, h.0, h.1, add-zero p))
pattern (suc n) p [] h =
    let r = pattern n (suc p) [] tt in (false ∷ r.0, ap suc r.1, r.2)
pattern (suc n) p (x ∷ xs) h = go (ℕ_discrete x p) (λ ys r. pattern n (suc p) ys r)
  where
    bound : p + suc n ≡ suc p + n
    bound = omega arith

    rest : Rising (suc x) (suc p + n) xs
    rest = subst (λ b. Rising (suc x) b xs) bound h.2

    go :
        Dec (x ≡ p)
        → ((ys : List ℕ) → Rising (suc p) (suc p + n) ys → (w : Word) × (length w ≡ n) × (places_from (suc p) w ≡ ys))
        → (w : Word) × (length w ≡ suc n) × (places_from p w ≡ x ∷ xs)
    go (yes q) later =
        let r = later xs (subst (λ y. Rising (suc y) (suc p + n) xs) q rest) in
        (true ∷ r.0, ap suc r.1, ap₂ ◌∷◌ (sym q) r.2)
    go (no q) later =
        let r = later (x ∷ xs) (omega (arith, h.0, q), omega (arith, h.1), rest) in
        (false ∷ r.0, ap suc r.1, r.2)

-- ---- which places a pattern names

is_in_before : (p : ℕ) (w : Word) (j : ℕ) → j < p → is_in j (places_from p w) ≡ false
unfolding is_in places_from
is_in_before p [] j h = refl
is_in_before p (true ∷ w) j h =
    ap₂ ◌||◌ (ne_eqb j p (λ q. omega (arith, q))) (is_in_before (suc p) w j (omega arith))
is_in_before p (false ∷ w) j h = is_in_before (suc p) w j (omega arith)

is_in-places : (p : ℕ) (w : Word) (j : ℕ) → is_in (p + j) (places_from p w) ≡ bit w j
unfolding is_in places_from bit
is_in-places p [] j = refl
is_in-places p (true ∷ w) zero = ap (λ b. b || is_in (p + 0) (places_from (suc p) w)) (eq-eqb (p + 0) p (add-zero p))
is_in-places p (true ∷ w) (suc j) =
    ap₂ ◌||◌ (ne_eqb (p + suc j) p (λ q. omega (arith, q)))
    (ap (λ x. is_in x (places_from (suc p) w)) (add-suc p j ∙ sym (suc-add p j)) ∙ is_in-places (suc p) w j)
is_in-places p (false ∷ w) zero = is_in_before (suc p) w (p + 0) (omega arith)
is_in-places p (false ∷ w) (suc j) =
    ap (λ x. is_in x (places_from (suc p) w)) (add-suc p j ∙ sym (suc-add p j)) ∙ is_in-places (suc p) w j

pub changed-length : (ps : List ℕ) (w : Word) → length (changed ps w) ≡ length w
unfolding changed
changed-length ps w = tab-length (length w) (λ j. xor (is_in j ps) (bit w j))

pub changed_bit : (ps : List ℕ) (w : Word) (j : ℕ) → j < length w → bit (changed ps w) j ≡ xor (is_in j ps) (bit w j)
unfolding changed
changed_bit ps w j h = bit_tab (length w) (λ j. xor (is_in j ps) (bit w j)) j h

-- changing a pattern's places is ⊻ with it
pub changed_pattern : (w e : Word) → length e ≡ length w → changed (places_from 0 e) w ≡ w ⊻ e
changed_pattern w e h =
    word_ext (length w) (changed (places_from 0 e) w) (w ⊻ e) (changed-length (places_from 0 e) w) (⊻-length w e (sym h))
    (λ j l. changed_bit (places_from 0 e) w j l ∙ ap (λ b. xor b (bit w j)) (named j) ∙ xor_comm (bit e j) (bit w j) ∙ sym (⊻-bit w e (sym h) j))
  where
    named : (j : ℕ) → is_in j (places_from 0 e) ≡ bit e j
    named j = ap (λ x. is_in x (places_from 0 e)) (sym (zero-add j)) ∙ is_in-places 0 e j
