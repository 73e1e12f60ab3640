-- Encoding a word gives a codeword that holds its data, and a codeword is determined by its data.
-- Assumes nothing.
use mathlib.Core.Path.{◌≡◌, refl, sym, ap, ap₂, ◌∙◌}
use mathlib.Core.Bool.{Bool, true, false, xor}
use mathlib.Core.List.{[], ◌∷◌, ◌++◌}
use Prim.Native.Nat.{ℕ, ◌+◌, ◌≤◌, ◌<◌}
use native.Mathlib.Nat.{add-zero}
use native.Mathlib.Omega.{arith}
use lib.ListN.{length, replicate, take, drop, length-append, length-drop, take-append-drop, get_or-append}
use lib.Seq.{take_at, take-length, length-take-le, get_or-take}
use Rattle.algebra.specs.Xor.{◌⊕◌}
use Rattle.algebra.specs.Tables.{num, ones}
use Rattle.algebra.specs.Words.{Word, bit, ◌⊻◌}
use Rattle.algebra.specs.Remainder.{register, is_odd, binary, systematic}
use Rattle.algebra.proofs.Digits.{num_odd, num-le}
use Rattle.algebra.proofs.XorLaws.{⊕_self}
use Rattle.algebra.proofs.TableLaws.{tab_is, zero-count, count-zero}
use Rattle.algebra.proofs.WordLaws.{xor_self, ⊻-length, ⊻-bit, differ-zero}
use Rattle.algebra.proofs.RemainderLaws.{binary-length}
use Rattle.rules.specs.Codes.{Code, check_bits, data_bits}
use Rattle.rules.specs.Words.{with_parity, and_parity, front_bits, remainder, checks, is_codeword, encode_word}
use Rattle.rules.proofs.Laws.CodeLaws.{Sound, encoded_divisible, check_digits-zero}
use Rattle.rules.proofs.Laws.CheckLaws.{last_bit, ones_last, front_and, codeword_checks, checks_codeword, checks-⊻}

-- ---- words without ones

pub no_ones : (n : ℕ) (w : Word) → length w ≡ n → ((j : ℕ) → j < n → bit w j ≡ false) → ones w ≡ 0
unfolding bit
no_ones n w e h = ap ones (sym (tab_is n (bit w) w false e (λ j hj. refl))) ∙ zero-count n (bit w) h

pub ones_no : (n : ℕ) (w : Word) → length w ≡ n → ones w ≡ 0 → (j : ℕ) → j < n → bit w j ≡ false
unfolding bit
ones_no n w e z = count-zero n (bit w) (ap ones (tab_is n (bit w) w false e (λ j hj. refl)) ∙ z)

-- ---- with a parity bit behind, and without

parity_length : (b : Bool) (w : Word) → length (and_parity b w) ≡ length w + num b
parity_length true w = length-append w (is_odd (ones w) ∷ [])
parity_length false w = sym (add-zero (length w))

parity_front : (b : Bool) (w : Word) → take (length w) (and_parity b w) ≡ w
parity_front true w = take_at w (is_odd (ones w) ∷ []) (length w) refl
parity_front false w = take-length w

parity_even : (b : Bool) (w : Word) → with_parity b 0 (ones (and_parity b w)) ≡ 0
parity_even true w = omega (arith, ones_last w (is_odd (ones w)), num_odd (ones w))
parity_even false w = refl

-- one bit behind zeros is no codeword
zero_behind :
    (b : Bool) (m : ℕ) (w : Word) → length w ≡ m + num b → ones (take m w) ≡ 0 → with_parity b 0 (ones w) ≡ 0 → ones w ≡ 0
zero_behind true m w h o e =
    omega (arith, ap ones (last_bit m w (omega (arith, h))), ones_last (take m w) (bit w m), num-le (bit w m), o, e)
zero_behind false m w h o e =
    let l : m ≡ length w = omega (arith, h) in
    ap ones (sym (ap (λ x. take x w) l ∙ take-length w)) ∙ o

no_remainder : (b : Bool) (r o : ℕ) → with_parity b r o ≡ 0 → r ≡ 0
no_remainder true r o h = omega arith
no_remainder false r o h = h

-- ---- encoding

module _ (code : Code) where
  systematic-length : (u : Word) → length (systematic code.degree code.generator u) ≡ length u + code.degree
  unfolding systematic
  systematic-length u = simp (length-append, binary-length)

  encode_longer : (u : Word) → length (encode_word code u) ≡ length u + check_bits code
  unfolding encode_word
  encode_longer u =
      parity_length code.extended (systematic code.degree code.generator u)
      ∙ (let l = systematic-length u in omega arith)

  systematic_data : (u : Word) (j : ℕ) → j < length u → bit (systematic code.degree code.generator u) j ≡ bit u j
  unfolding systematic bit
  systematic_data u j h =
      get_or-append u (binary code.degree (register code.degree code.generator 0 (u ++ replicate code.degree false)))
      false j h

  -- the data are the first k bits
  pub encode_data : (u : Word) (j : ℕ) → j < length u → bit (encode_word code u) j ≡ bit u j
  unfolding encode_word bit
  encode_data u j h =
      let w : Word = systematic code.degree code.generator u in
      let l : j < length w = omega (arith, systematic-length u) in
      sym (get_or-take (length w) (and_parity code.extended w) j false l)
      ∙ ap (λ v. bit v j) (parity_front code.extended w) ∙ systematic_data u j h

module _ (code : Code) (ok : Sound code) where
  pub encode-length : (n : ℕ) (u : Word) → code.shortest ≤ n → length u ≡ data_bits code n → length (encode_word code u) ≡ n
  encode-length n u h e = omega (arith, encode_longer code u, ok.room)

  encode_checks : (n : ℕ) (u : Word) → 1 ≤ n → length u + check_bits code ≡ n → checks code n (encode_word code u) ≡ 0
  unfolding encode_word checks remainder
  encode_checks n u lo h =
      let b : Bool = code.extended in
      let w : Word = systematic code.degree code.generator u in
      let m : front_bits code n ≡ length w = omega (arith, systematic-length code u, front_and code n lo) in
      ap (λ v. with_parity b (register code.degree code.generator 0 v) (ones (and_parity b w)))
      (ap (λ l. take l (and_parity b w)) m ∙ parity_front b w)
      ∙ ap (λ r. with_parity b r (ones (and_parity b w))) (encoded_divisible code ok u) ∙ parity_even b w

  pub encode_codeword :
      (n : ℕ) (u : Word) → code.shortest ≤ n → length u ≡ data_bits code n → is_codeword code n (encode_word code u) ≡ true
  encode_codeword n u h e =
      checks_codeword code n (encode_word code u) (encode_checks n u (omega (arith, ok.room)) (omega (arith, ok.room)))

  -- ---- a codeword is determined by its data

  -- from the word without its parity bit
  zero-front :
      (k : ℕ) (u : Word) → length u ≡ k + code.degree → register code.degree code.generator 0 u ≡ 0
      → ((j : ℕ) → j < k → bit u j ≡ false) → ones u ≡ 0
  unfolding bit
  zero-front k u e z h =
      let first : ones (take k u) ≡ 0 =
      no_ones k (take k u) (length-take-le k u (omega arith)) (λ j hj. get_or-take k u j false hj ∙ h j hj) in
      let z' : register code.degree code.generator 0 (take k u ++ drop k u) ≡ 0 = rw take-append-drop z in
      rw take-append-drop at (check_digits-zero code ok (take k u) (drop k u) first (length-drop k u ∙ omega arith) z')

  pub codeword_zero :
      (n : ℕ) (w : Word) → code.shortest ≤ n → length w ≡ n → is_codeword code n w ≡ true
      → ((j : ℕ) → j < data_bits code n → bit w j ≡ false) → ones w ≡ 0
  unfolding bit checks remainder
  codeword_zero n w h e c d =
      let m : ℕ = front_bits code n in
      let p : m + num code.extended ≡ n = front_and code n (omega (arith, ok.room)) in
      let z : checks code n w ≡ 0 = codeword_checks code n w c in
      let r : remainder code n w ≡ 0 = no_remainder code.extended (remainder code n w) (ones w) z in
      let o : ones (take m w) ≡ 0 =
      zero-front (data_bits code n) (take m w) (length-take-le m w (omega arith) ∙ omega (arith, ok.room)) r
      (λ j hj. get_or-take m w j false (omega (arith, ok.room)) ∙ d j hj) in
      zero_behind code.extended m w (e ∙ sym p) o (rw r at z)

  pub codeword_unique :
      (n : ℕ) (w u : Word) → code.shortest ≤ n → length w ≡ n → length u ≡ n → is_codeword code n w ≡ true
      → is_codeword code n u ≡ true → ((j : ℕ) → j < data_bits code n → bit w j ≡ bit u j) → w ≡ u
  codeword_unique n w u h hw hu cw cu d =
      let same : length w ≡ length u = hw ∙ sym hu in
      differ-zero w u same
      (codeword_zero n (w ⊻ u) h (⊻-length w u same ∙ hw)
      (checks_codeword code n (w ⊻ u)
      (checks-⊻ code ok n w u (omega (arith, ok.room)) hw hu
      ∙ ap₂ ◌⊕◌ (codeword_checks code n w cw) (codeword_checks code n u cu) ∙ ⊕_self 0))
      (λ j hj. ⊻-bit w u same j ∙ ap (λ b. xor b (bit u j)) (d j hj) ∙ xor_self (bit u j)))
