-- Bytes written in hex: one digit, and the two of each byte laid one after the other.
-- Assumes nothing.
use mathlib.Core.Path.{◌≡◌, refl, sym, ap, ◌∙◌}
use mathlib.Core.List.{List, [], ◌∷◌}
use Prim.Native.Nat.{ℕ, zero, suc, ◌+◌, ◌*◌, ◌-◌, ◌/◌, ◌%◌, ◌≤◌, ◌<◌}
use native.Mathlib.Omega.{arith}
use lib.Dec.{eqb}
use lib.ListN.{length, get_or, set, length-set}
use borrow.Author.Tests.{eqb-true}
use Rattle.algebra.specs.Tables.{all_below}
use Rattle.algebra.proofs.TableLaws.{below_each}
use Rattle.textrules.proofs.Laws.DigitFormLaws.{hex_length}
use Rattle.textrules.specs.Text.{hex_digit, hex_text}
use Rattle.text.specs.Laid.{Lays}
use Rattle.text.proofs.LaidLaws.{Laying, laying_none, laying_next, laying_all}

-- ---- one digit

pub figure_is : {h : ℕ} → h < 10 → 48 + h ≡ hex_digit h
unfolding all_below
figure_is {h} l = eqb-true (48 + h) (hex_digit h) ((below_each 10 (λ h. eqb (48 + h) (hex_digit h))).0 refl h l)

pub letter_is : {h : ℕ} → 10 ≤ h → h < 16 → 65 + (h - 10) ≡ hex_digit h
unfolding all_below
letter_is {h} m l =
    let e : 10 + (h - 10) ≡ h = omega arith in
    eqb-true (65 + (h - 10)) (hex_digit (10 + (h - 10)))
    ((below_each 6 (λ j. eqb (65 + j) (hex_digit (10 + j)))).0 refl (h - 10) (omega arith))
    ∙ ap (λ (k : ℕ). hex_digit k) e

-- ---- the digits of bytes

-- those of byte i
hex_text_at :
    (b : List ℕ) (i : ℕ) → i < length b
    → (get_or (hex_text b) (2 * i) 0 ≡ hex_digit (get_or b i 0 / 16)) × (get_or (hex_text b) (2 * i + 1) 0 ≡ hex_digit (get_or b i 0 % 16))
unfolding hex_text
hex_text_at [] i h = absurd (omega arith)
hex_text_at (x ∷ b) zero h = (refl, refl)
hex_text_at (x ∷ b) (suc i) h =
    let e : 2 * suc i ≡ suc (suc (2 * i)) = omega arith in
    let f : 2 * suc i + 1 ≡ suc (suc (2 * i + 1)) = omega arith in
    let k = hex_text_at b i (omega arith) in
    (ap (λ (j : ℕ). get_or (hex_text (x ∷ b)) j 0) e ∙ k.0, ap (λ (j : ℕ). get_or (hex_text (x ∷ b)) j 0) f ∙ k.1)

-- ---- a loop that lays them

-- the first i bytes are laid
abbrev pub HexLaying : List ℕ → ℕ → List ℕ → ℕ → ℕ → List ℕ → Type 0
HexLaying s₀ at b end i s = (end ≡ length b) × Laying s₀ at (hex_text b) (2 * end) (2 * i) s

pub hex_none : (s : List ℕ) (at : ℕ) (b : List ℕ) → at + 2 * length b ≤ length s → HexLaying s at b (length b) 0 s
hex_none s at b h = (refl, laying_none (sym (hex_length b)) (omega (arith, hex_length b)))

module _ {s₀ s : List ℕ} {at end i : ℕ} (b : List ℕ) (g : HexLaying s₀ at b end i s) where
  -- the second digit has room too
  pub hex_room : (x : ℕ) → i < end → at + 2 * i + 1 < length (set s (at + 2 * i) x)
  hex_room x h = omega (arith, length-set s (at + 2 * i) x, g.1.long, g.1.room, g.1.ends)

  pub hex_next :
      {x y : ℕ} → i < end → x ≡ hex_digit (get_or b i 0 / 16) → y ≡ hex_digit (get_or b i 0 % 16)
      → HexLaying s₀ at b end (i + 1) (set (set s (at + 2 * i) x) (at + 2 * i + 1) y)
  hex_next {x} {y} h p q =
      let d = hex_text_at b i (omega (arith, g.0)) in
      let u : get_or (hex_text b) (2 * i) 0 ≡ x = d.0 ∙ sym p in
      let v : get_or (hex_text b) (2 * i + 1) 0 ≡ y = d.1 ∙ sym q in
      let next : 2 * i + 1 + 1 ≡ 2 * (i + 1) = omega arith in
      let place : at + (2 * i + 1) ≡ at + 2 * i + 1 = omega arith in
      let two = laying_next (laying_next g.1 (omega arith)) (omega arith) in
      (g.0, rw (← next) (rw (← place) (rw (← u) (rw (← v) two))))

  pub hex_all : end ≤ i → Lays s₀ at (hex_text b) (at + 2 * length b) s
  hex_all h = (omega (arith, hex_length b), omega (arith, hex_length b, g.1.room), laying_all g.1 (omega arith))
