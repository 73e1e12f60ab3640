-- A word's values with one digit more, the parity of its ones.
-- Assumes nothing.
use mathlib.Core.Path.{◌≡◌, refl, sym, ap, ap₂, ◌∙◌}
use mathlib.Core.Bool.{Bool, true, false}
use mathlib.Core.List.{List, [], ◌∷◌, map}
use Prim.Native.Nat.{ℕ, ◌+◌, ◌*◌, ◌/◌, ◌%◌, ◌<◌}
use native.Mathlib.Omega.{arith}
use lib.ListN.{length}
use Rattle.algebra.specs.Xor.{◌⊕◌}
use Rattle.algebra.specs.Tables.{num, ones}
use Rattle.algebra.specs.Words.{Word, kept, dot}
use Rattle.algebra.proofs.Digits.{digits_case}
use Rattle.algebra.proofs.XorLaws.{⊕-half, ⊕_digit, ⊕-lt, by_digit}

pub parity_add : (m n : ℕ) → (m + n) % 2 ≡ m % 2 ⊕ n % 2
unfolding ◌⊕◌
parity_add m n =
    (let e : (m + n) % 2 ≡ (m % 2 + n % 2) % 2 = omega arith in e)
    ∙ digits_case (λ p q. (p + q) % 2 ≡ p ⊕ q) refl refl refl refl (m % 2) (n % 2) (omega arith) (omega arith)

-- halves and last digits apart
pub pairs : (x y p q : ℕ) → p < 2 → q < 2 → (2 * x + p) ⊕ (2 * y + q) ≡ 2 * (x ⊕ y) + (p ⊕ q)
pairs x y p q hp hq =
    let hpq : p ⊕ q < 2 = ⊕-lt 1 hp hq in
    let h₁ : (2 * x + p) / 2 ≡ x = omega arith in
    let h₂ : (2 * y + q) / 2 ≡ y = omega arith in
    let h₃ : (2 * (x ⊕ y) + (p ⊕ q)) / 2 ≡ x ⊕ y = omega arith in
    let d₁ : (2 * x + p) % 2 ≡ p = omega arith in
    let d₂ : (2 * y + q) % 2 ≡ q = omega arith in
    let d₃ : (2 * (x ⊕ y) + (p ⊕ q)) % 2 ≡ p ⊕ q = omega arith in
    by_digit
    (⊕-half (2 * x + p) (2 * y + q) ∙ ap₂ ◌⊕◌ h₁ h₂ ∙ sym h₃)
    (⊕_digit (2 * x + p) (2 * y + q) ∙ ap₂ ◌⊕◌ d₁ d₂ ∙ sym d₃)

-- every value doubled and one more: the sum doubled, and the parity of the ones
pub dot_parity :
    (vs : List ℕ) (w : Word) → length w ≡ length vs → dot (map (λ r. 2 * r + 1) vs) w ≡ 2 * dot vs w + ones w % 2
unfolding dot ones
dot_parity [] [] h = refl
dot_parity [] (b ∷ w) h = absurd (omega arith)
dot_parity (v ∷ vs) [] h = absurd (omega arith)
dot_parity (v ∷ vs) (b ∷ w) h =
    ap₂ ◌⊕◌ (first b) (dot_parity vs w (omega arith))
    ∙ pairs (kept b v) (dot vs w) (num b % 2) (ones w % 2) (omega arith) (omega arith)
    ∙ ap (λ m. 2 * (kept b v ⊕ dot vs w) + m) (sym (parity_add (num b) (ones w)))
  where
    first : (b : Bool) → kept b (2 * v + 1) ≡ 2 * kept b v + num b % 2
    first true = refl
    first false = refl
