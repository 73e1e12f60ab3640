-- The checks of a word are the ⊕ of the values at its ones: what everything about words goes by.
-- Assumes nothing.
use mathlib.Core.Path.{◌≡◌, sym, ap, ap₂, ◌∙◌}
use mathlib.Core.Bool.{Bool, true, false}
use mathlib.Core.List.{List, [], ◌∷◌, ◌++◌, map}
use Prim.Native.Nat.{ℕ, zero, suc, ◌+◌, ◌*◌, ◌%◌, ◌≤◌, ◌<◌}
use native.Mathlib.Nat.{add-zero, zero-add}
use native.Mathlib.Omega.{arith}
use borrow.Author.Tests.{eqb-true, eq-eqb}
use lib.Dec.{eqb}
use lib.ListN.{length, take, get_or, replicate, length-append, length-map}
use lib.Seq.{take-suc, take-length, length-take-le}
use Rattle.algebra.specs.Xor.{◌⊕◌}
use Rattle.algebra.specs.Tables.{tab, num, ones}
use Rattle.algebra.specs.Words.{Word, bit, ◌⊻◌, dot}
use Rattle.algebra.specs.Remainder.{register, powers_down}
use Rattle.algebra.proofs.Digits.{num-le}
use Rattle.algebra.proofs.XorLaws.{⊕-zero}
use Rattle.algebra.proofs.TableLaws.{tab-length}
use Rattle.algebra.proofs.WordLaws.{dot_one, dot-⊻, dot-++, ones-++, ⊻-length}
use Rattle.algebra.proofs.ParityLaws.{parity_add, pairs, dot_parity}
use Rattle.algebra.proofs.RemainderLaws.{ones_none}
use Rattle.rules.specs.Codes.{Code}
use Rattle.rules.specs.Words.{with_parity, placed, front_bits, remainder, checks, is_codeword, values}
use Rattle.rules.proofs.Laws.CodeLaws.{Sound, powers-length, register_dot, zeros_front}

-- a word is all but its last bit, and that
pub last_bit : (m : ℕ) (w : Word) → length w ≡ suc m → w ≡ take m w ++ bit w m ∷ []
unfolding bit
last_bit m w h = sym (ap (λ l. take l w) (sym h) ∙ take-length w) ∙ take-suc w m false (omega arith)

last_value : (b : Bool) → dot (1 ∷ []) (b ∷ []) ≡ 2 * 0 + num b % 2
unfolding dot
last_value true = ⊕-zero 1
last_value false = ⊕-zero 0

pub ones_last : (u : Word) (b : Bool) → ones (u ++ b ∷ []) ≡ ones u + num b
unfolding ones
ones_last u b = ones-++ u (b ∷ []) ∙ (let e : ones u + (num b + 0) ≡ ones u + num b = omega arith in e)

-- ---- with a parity bit behind, and without

placed-length : (b : Bool) (rs : List ℕ) → length (placed b rs) ≡ length rs + num b
placed-length true rs = length-append (map (λ r. 2 * r + 1) rs) (1 ∷ []) ∙ ap (λ l. l + 1) (length-map rs (λ r. 2 * r + 1))
placed-length false rs = sym (add-zero (length rs))

-- the place values at the ones of a word
dot_placed :
    (b : Bool) (rs : List ℕ) (m : ℕ) (w : Word) → length rs ≡ m → length w ≡ m + num b
    → dot (placed b rs) w ≡ with_parity b (dot rs (take m w)) (ones w)
dot_placed true rs m w hr hw =
    let u : Word = take m w in
    let c : Bool = bit w m in
    let hu : length u ≡ m = length-take-le m w (omega arith) in
    let s : w ≡ u ++ c ∷ [] = last_bit m w (omega arith) in
    ap (dot (map (λ r. 2 * r + 1) rs ++ 1 ∷ [])) s
    ∙ dot-++ (map (λ r. 2 * r + 1) rs) (1 ∷ []) u (c ∷ []) (hu ∙ sym (length-map rs (λ r. 2 * r + 1) ∙ hr))
    ∙ ap₂ ◌⊕◌ (dot_parity rs u (hu ∙ sym hr)) (last_value c)
    ∙ pairs (dot rs u) 0 (ones u % 2) (num c % 2) (omega arith) (omega arith)
    ∙ ap₂ (λ x y. 2 * x + y) (⊕-zero (dot rs u))
    (sym (parity_add (ones u) (num c)) ∙ ap (λ o. o % 2) (sym (ap ones s ∙ ones_last u c)))
dot_placed false rs m w hr hw =
    let e : m ≡ length w = omega (arith, hw) in
    ap (dot rs) (sym (ap (λ l. take l w) e ∙ take-length w))

-- ---- the checks

-- all bits but the parity bit, and that
pub front_and : (code : Code) (n : ℕ) → 1 ≤ n → front_bits code n + num code.extended ≡ n
front_and code n h = omega (arith, num-le code.extended)

take-zeros : (z m : ℕ) (w : Word) → take (z + m) (replicate z false ++ w) ≡ replicate z false ++ take m w
take-zeros zero m w = ap (λ i. take i w) (zero-add m)
take-zeros (suc z) m w =
    let e : suc z + m ≡ suc (z + m) = omega arith in
    ap (λ i. take i (replicate (suc z) false ++ w)) e ∙ ap (λ v. false ∷ v) (take-zeros z m w)

module _ (code : Code) (ok : Sound code) where
  pub values_length : (n : ℕ) → 1 ≤ n → length (values code n) ≡ n
  unfolding values
  values_length n h =
      placed-length code.extended (powers_down code.degree code.generator (front_bits code n))
      ∙ ap (λ l. l + num code.extended) (powers-length code ok (front_bits code n)) ∙ front_and code n h

  pub checks_dot : (n : ℕ) (w : Word) → 1 ≤ n → length w ≡ n → checks code n w ≡ dot (values code n) w
  unfolding checks remainder values
  checks_dot n w h e =
      let m : ℕ = front_bits code n in
      let hm : length w ≡ m + num code.extended = e ∙ sym (front_and code n h) in
      let hu : length (take m w) ≡ m = length-take-le m w (omega arith) in
      ap (λ r. with_parity code.extended r (ones w))
      (register_dot code ok (take m w) ∙ ap (λ l. dot (powers_down code.degree code.generator l) (take m w)) hu)
      ∙ sym (dot_placed code.extended (powers_down code.degree code.generator m) m w (powers-length code ok m) hm)

  -- the value of a place is the checks of the word whose only one stands there
  pub value_checks : (n p : ℕ) → p < n → get_or (values code n) p 0 ≡ checks code n (tab n (λ j. eqb j p))
  value_checks n p h =
      let long : length (values code n) ≡ n = values_length n (omega arith) in
      sym
      (checks_dot n (tab n (λ j. eqb j p)) (omega arith) (tab-length n (λ j. eqb j p))
      ∙ ap (λ l. dot (values code n) (tab l (λ j. eqb j p))) (sym long)
      ∙ dot_one (values code n) p (omega (arith, long)))

  -- zeros in front change nothing
  pub zeros_ahead : (n z : ℕ) (w : Word) → 1 ≤ n → checks code (z + n) (replicate z false ++ w) ≡ checks code n w
  unfolding checks remainder
  zeros_ahead n z w h =
      let m : ℕ = front_bits code n in
      let o : Word = replicate z false in
      let q : front_bits code (z + n) ≡ z + m = omega (arith, front_and code n h, front_and code (z + n) (omega arith)) in
      ap₂ (with_parity code.extended)
      (ap (register code.degree code.generator 0) (ap (λ i. take i (o ++ w)) q ∙ take-zeros z m w)
      ∙ zeros_front code ok z (take m w))
      (ones-++ o w ∙ ap (λ p. p + ones w) (ones_none z) ∙ zero-add (ones w))

  -- the checks of a difference
  pub checks-⊻ :
      (n : ℕ) (w u : Word) → 1 ≤ n → length w ≡ n → length u ≡ n → checks code n (w ⊻ u) ≡ checks code n w ⊕ checks code n u
  checks-⊻ n w u h hw hu =
      checks_dot n (w ⊻ u) h (⊻-length w u (hw ∙ sym hu) ∙ hw) ∙ dot-⊻ (values code n) w u (hw ∙ sym hu)
      ∙ ap₂ ◌⊕◌ (sym (checks_dot n w h hw)) (sym (checks_dot n u h hu))

-- ---- codewords

pub codeword_checks : (code : Code) (n : ℕ) (w : Word) → is_codeword code n w ≡ true → checks code n w ≡ 0
unfolding is_codeword
codeword_checks code n w h = eqb-true (checks code n w) 0 h

pub checks_codeword : (code : Code) (n : ℕ) (w : Word) → checks code n w ≡ 0 → is_codeword code n w ≡ true
unfolding is_codeword
checks_codeword code n w h = eq-eqb (checks code n w) 0 h
