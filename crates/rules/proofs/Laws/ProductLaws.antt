-- Columns that are codewords carry over from the first k rows to all: the rows below are codewords too.
-- Assumes nothing.
use mathlib.Core.Path.{◌≡◌, refl, sym, ap, ap₂, ◌∙◌}
use mathlib.Core.Bool.{Bool, true, false, xor, ◌&&◌, and-true, and-false}
use mathlib.Core.List.{List, [], ◌∷◌}
use Prim.Native.Nat.{ℕ, zero, suc, ◌/◌, ◌^◌, ◌≤◌, ◌<◌}
use native.Mathlib.Nat.{pow-suc, zero-div}
use native.Mathlib.Omega.{arith}
use lib.ListN.{length, drop}
use Rattle.algebra.specs.Xor.{◌⊕◌}
use Rattle.algebra.specs.Tables.{tab, ones}
use Rattle.algebra.specs.Words.{Word, bit, ◌⊻◌, kept, dot}
use Rattle.algebra.specs.Remainder.{is_odd}
use Rattle.algebra.proofs.XorLaws.{zero-⊕, ⊕-bit, ⊕_self}
use Rattle.algebra.proofs.TableLaws.{tab-length, tab_ext, zero-count}
use Rattle.algebra.proofs.WordLaws.{⊻-length, ⊻-bit, dot-none}
use Rattle.rules.specs.Codes.{Code, data_bits}
use Rattle.rules.specs.Words.{checks, is_codeword, values}
use Rattle.rules.specs.Frames.{Frame, row, cell, transposed}
use Rattle.rules.proofs.Laws.CodeLaws.{Sound}
use Rattle.rules.proofs.Laws.Shape.{Square, word_ext, bit_tab, transposed_row}
use Rattle.rules.proofs.Laws.BitLaws.{same_digits}
use Rattle.rules.proofs.Laws.CheckLaws.{checks_dot, checks-⊻, codeword_checks, checks_codeword, values_length}
use Rattle.rules.proofs.Laws.FrameLaws.{Rows}
use Rattle.rules.proofs.Laws.EncodeWordLaws.{codeword_zero, ones_no}

-- ---- digits of numbers

digit : ℕ → ℕ → Bool
digit b x = is_odd (x / 2 ^ b)

digit_zero : (b : ℕ) → digit b 0 ≡ false
unfolding digit
digit_zero b = ap is_odd (zero-div (2 ^ b))

digit_⊕ : (b x y : ℕ) → digit b (x ⊕ y) ≡ xor (digit b x) (digit b y)
unfolding digit
digit_⊕ b x y = ⊕-bit b x y

digit_kept : (b : ℕ) (x : Bool) (v : ℕ) → digit b (kept x v) ≡ (digit b v && x)
digit_kept b true v = sym (and-true (digit b v))
digit_kept b false v = digit_zero b ∙ sym (and-false (digit b v))

lt-two_pow : (x : ℕ) → x < 2 ^ x
lt-two_pow zero = omega arith
lt-two_pow (suc x) = omega (arith, lt-two_pow x, pow-suc 2 x)

digits-none : (x : ℕ) → ((b : ℕ) → digit b x ≡ false) → x ≡ 0
unfolding digit
digits-none x h = same_digits x x 0 (lt-two_pow x) (omega (arith, lt-two_pow x)) (λ b hb. h b ∙ sym (digit_zero b))

-- ---- the digits of the values at the ones, row by row

dot-nil : (w : Word) → dot [] w ≡ 0
unfolding dot
dot-nil [] = refl
dot-nil (b ∷ w) = refl

dot_first : (v : ℕ) (vs : List ℕ) (w : Word) → dot (v ∷ vs) w ≡ kept (bit w 0) v ⊕ dot vs (drop 1 w)
unfolding dot bit ones
dot_first v vs [] = sym (zero-⊕ (dot vs []) ∙ dot-none vs [] refl)
dot_first v vs (b ∷ w) = refl

bit-drop : (w : Word) (j : ℕ) → bit (drop 1 w) j ≡ bit w (suc j)
unfolding bit
bit-drop [] j = refl
bit-drop (b ∷ w) j = refl

module _ (code : Code) (ok : Sound code) (n : ℕ) (pos : 1 ≤ n) where
  -- the word of these n bits has no checks
  Zero : (ℕ → Bool) → Type 0
  Zero p = checks code n (tab n p) ≡ 0

  zero_ext : (p q : ℕ → Bool) → ((i : ℕ) → i < n → p i ≡ q i) → Zero p → Zero q
  unfolding Zero
  zero_ext p q h z = ap (checks code n) (sym (tab_ext n p q h)) ∙ z

  zero-false : Zero (λ i. false)
  unfolding Zero
  zero-false =
      checks_dot code ok n (tab n (λ i. false)) pos (tab-length n (λ i. false))
      ∙ dot-none (values code n) (tab n (λ i. false)) (zero-count n (λ i. false) (λ i h. refl))

  zero_xor : (p q : ℕ → Bool) → Zero p → Zero q → Zero (λ i. xor (p i) (q i))
  unfolding Zero
  zero_xor p q zp zq =
      let lp = tab-length n p in
      let lq = tab-length n q in
      let same : length (tab n p) ≡ length (tab n q) = lp ∙ sym lq in
      let e : tab n (λ i. xor (p i) (q i)) ≡ tab n p ⊻ tab n q =
      word_ext n (tab n (λ i. xor (p i) (q i))) (tab n p ⊻ tab n q) (tab-length n (λ i. xor (p i) (q i))) (⊻-length (tab n p) (tab n q) same ∙ lp)
      (λ j h. bit_tab n (λ i. xor (p i) (q i)) j h ∙ sym (⊻-bit (tab n p) (tab n q) same j ∙ ap₂ xor (bit_tab n p j h) (bit_tab n q j h))) in
      ap (checks code n) e ∙ checks-⊻ code ok n (tab n p) (tab n q) pos lp lq ∙ ap₂ ◌⊕◌ zp zq ∙ ⊕_self 0

  zero_and : (c : Bool) (p : ℕ → Bool) → Zero p → Zero (λ i. c && p i)
  zero_and true p z = z
  zero_and false p z = zero-false

  -- a digit of the values at each row's ones is the ⊻ of the columns whose value has that digit
  zero_digit :
      (b : ℕ) (vs : List ℕ) (r : ℕ → Word) → ((j : ℕ) → j < length vs → Zero (λ i. bit (r i) j))
      → Zero (λ i. digit b (dot vs (r i)))
  zero_digit b [] r h = zero_ext (λ i. false) (λ i. digit b (dot [] (r i))) (λ i hi. sym (ap (digit b) (dot-nil (r i)) ∙ digit_zero b)) zero-false
  zero_digit b (v ∷ vs) r h =
      zero_ext (λ i. xor (digit b v && bit (r i) 0) (digit b (dot vs (drop 1 (r i))))) (λ i. digit b (dot (v ∷ vs) (r i)))
      (λ i hi. sym (ap (digit b) (dot_first v vs (r i)) ∙ digit_⊕ b (kept (bit (r i) 0) v) (dot vs (drop 1 (r i)))
      ∙ ap (λ x. xor x (digit b (dot vs (drop 1 (r i))))) (digit_kept b (bit (r i) 0) v)))
      (zero_xor (λ i. digit b v && bit (r i) 0) (λ i. digit b (dot vs (drop 1 (r i))))
      (zero_and (digit b v) (λ i. bit (r i) 0) (h 0 (omega arith)))
      (zero_digit b vs (λ i. drop 1 (r i))
      (λ j hj. zero_ext (λ i. bit (r i) (suc j)) (λ i. bit (drop 1 (r i)) j) (λ i hi. sym (bit-drop (r i) j)) (h (suc j) (omega arith)))))

pub rows_carry :
    (code : Code) (ok : Sound code) (n : ℕ) (f : Frame) → code.shortest ≤ n → Square n f → Rows code n (transposed n f) → ((i : ℕ) → i < data_bits code n → is_codeword code n (row f i) ≡ true)
    → Rows code n f
unfolding Zero
rows_carry code ok n f h s columns rows i hi =
    checks_codeword code n (row f i) (checks_dot code ok n (row f i) pos (s.1 i hi) ∙ digits-none (dot (values code n) (row f i)) none)
  where
    pos : 1 ≤ n
    pos = omega arith

    long : length (values code n) ≡ n
    long = values_length code ok n pos

    column : (j : ℕ) → j < length (values code n) → Zero code ok n pos (λ i. cell f i j)
    column j hj =
        let hn : j < n = omega (arith, long) in
        ap (checks code n) (sym (transposed_row n f j hn)) ∙ codeword_checks code n (row (transposed n f) j) (columns j hn)

    none : (b : ℕ) → digit b (dot (values code n) (row f i)) ≡ false
    none b =
        let p : ℕ → Bool = λ i. digit b (dot (values code n) (row f i)) in
        sym (bit_tab n p i hi)
        ∙ ones_no n (tab n p) (tab-length n p)
        (codeword_zero code ok n (tab n p) h (tab-length n p)
        (checks_codeword code n (tab n p) (zero_digit code ok n pos b (values code n) (λ i. row f i) column))
        (λ j hj.
        let hn : j < n = omega arith in
        bit_tab n p j hn
        ∙ ap (digit b) (sym (checks_dot code ok n (row f j) pos (s.1 j hn)) ∙ codeword_checks code n (row f j) (rows j hj))
        ∙ digit_zero b)) i hi
