-- A word alone in a buffer: read, changed in place, and what decoding it says and hands out.
-- Assumes nothing.
use mathlib.Core.Path.{◌≡◌, refl, sym, ap, ◌∙◌}
use mathlib.Core.Logic.{◌≢◌}
use mathlib.Core.Bool.{true, false}
use mathlib.Core.List.{List}
use mathlib.Core.Option.{Option, some, none}
use Prim.Native.Nat.{◌≤◌, ℕ, ◌+◌, ◌*◌, ◌<◌}
use native.Mathlib.Decide.{dec_lt}
use native.Mathlib.Omega.{arith}
use lib.Dec.{eqb}
use lib.ListN.{length}
use borrow.Author.Tests.{eq-eqb, ne_eqb}
use Rattle.algebra.specs.Words.{Word}
use Rattle.rules.specs.Codes.{Code}
use Rattle.rules.specs.Words.{answer, mend}
use Rattle.rules.specs.Bits.{row_bytes, stride, bit_at, word_of, word_bytes}
use Rattle.rules.specs.Numbers.{pick, outside, first, word_refusals, word_refusal, WordSaid, word_refused, answered, word_number, word_said, word_output}
use Rattle.rules.proofs.Laws.CodeLaws.{Sound}
use Rattle.rules.proofs.Laws.Shape.{word_ext, bit_past, word_of-length}
use Rattle.rules.proofs.Laws.PackLaws.{word_bytes-length, word_bytes_byte, word_bytes-bit}
use Rattle.rules.proofs.Laws.PassLaws.{mend-length}
use Rattle.rules.proofs.Laws.NumberLaws.{Sized, word_accepts, word_refused_lem, at_zero}
use Rattle.laws.specs.InPlace.{word_at, put, Inside}
use Rattle.laws.proofs.InPlaceLaws.{word_at-length, word_at-bit, put-length, put_byte, put_in, put_out, bits_ext}

-- ---- in place

pub word_fits : (code : Code) (ok : Sound code) (n : ℕ) (s : List ℕ) (w : Word) → code.shortest ≤ n → n ≤ code.longest → s ≡ word_bytes n w → Inside code n s 0 1
word_fits code ok n s w lo hi e =
    let l : length s ≡ row_bytes n = ap length e ∙ word_bytes-length n w in
    (lo, hi, omega (arith, ok.not_long_lem), omega arith, omega (arith, ok.room))

pub word_read : (n : ℕ) (w : Word) → length w ≡ n → word_at n (word_bytes n w) 0 1 ≡ w
word_read n w e =
    word_ext n (word_at n (word_bytes n w) 0 1) w (word_at-length n (word_bytes n w) 0 1) e
    (λ j h.
    let z : 0 + j * 1 ≡ j = omega arith in
    word_at-bit n (word_bytes n w) 0 1 j h ∙ ap (bit_at (word_bytes n w)) z ∙ word_bytes-bit n w j (omega arith))

pub word_put : (n : ℕ) (w u : Word) → length w ≡ n → length u ≡ n → put n (word_bytes n w) 0 1 u ≡ word_bytes n u
word_put n w u ew eu =
    bits_ext (put n (word_bytes n w) 0 1 u) (word_bytes n u) (long ∙ sym (word_bytes-length n u))
    (put_byte n (word_bytes n w) 0 1 u (word_bytes_byte n w)) (word_bytes_byte n u) (λ x h. go x (omega (arith, long)) (dec_lt x n))
  where
    long : length (put n (word_bytes n w) 0 1 u) ≡ row_bytes n
    long = put-length n (word_bytes n w) 0 1 u ∙ word_bytes-length n w

    go : (x : ℕ) → x < stride n → Dec (x < n) → bit_at (put n (word_bytes n w) 0 1 u) x ≡ bit_at (word_bytes n u) x
    go x h (yes l) =
        let z : 0 + x * 1 ≡ x = omega arith in
        (rw z at (put_in n (word_bytes n w) 0 1 u x (omega arith) l (omega (arith, word_bytes-length n w)))) ∙ sym (word_bytes-bit n u x h)
    go x h (no l) =
        put_out n (word_bytes n w) 0 1 u x (λ j k e. l (omega arith))
        ∙ word_bytes-bit n w x h
        ∙ bit_past w x (omega (arith, l))
        ∙ sym (bit_past u x (omega (arith, l)))
        ∙ sym (word_bytes-bit n u x h)

-- ---- decoding

module _ (code : Code) (n : ℕ) (input output : List ℕ) where
  abbrev WordExit : WordSaid → List ℕ → Type 0
  WordExit said out = (said ≡ word_said code n input output) × (out ≡ word_output code n input output)

  word_no : (r : ℕ) → r ≢ 0 → first (word_refusals code n input output) ≡ r → WordExit (word_refused r) output
  unfolding word_refusal
  word_no r h e =
      let q = word_refused_lem code n input output (λ z. h (sym e ∙ z)) in (ap word_refused (sym e) ∙ sym q.0, sym q.1)

  pub word_1 : outside code n ≡ true → WordExit (word_refused 1) output
  word_1 h = word_no 1 (λ e. omega arith) (rw h)

  pub word_2 : outside code n ≡ false → length input ≢ row_bytes n → WordExit (word_refused 2) output
  word_2 h a = word_no 2 (λ e. omega arith) (rw (h, ne_eqb (length input) (row_bytes n) a))

  pub word_3 : outside code n ≡ false → length input ≡ row_bytes n → length output ≢ row_bytes n → WordExit (word_refused 3) output
  word_3 h a b = word_no 3 (λ e. omega arith) (rw (h, eq-eqb (length input) (row_bytes n) a, ne_eqb (length output) (row_bytes n) b))

  module _ (f : Sized code n input (row_bytes n) output (row_bytes n)) where
    accepted : word_refusal code n input output ≡ 0
    accepted = (word_accepts code n input output).1 f

    pub word_says : word_said code n input output ≡ answered (answer code n (word_of n input 0))
    unfolding word_said
    word_says =
        at_zero (word_refusal code n input output) (answered (answer code n (word_of n input 0))) (word_refused (word_refusal code n input output)) accepted

    hands :
        word_output code n input output
        ≡ pick (eqb (word_number (answered (answer code n (word_of n input 0)))) 0) (word_bytes n (mend code n (word_of n input 0))) input
    unfolding word_output
    hands =
        at_zero (word_refusal code n input output)
        (pick (eqb (word_number (word_said code n input output)) 0) (word_bytes n (mend code n (word_of n input 0))) input) output accepted
        ∙ rw word_says

    -- no codeword is near enough: what was received
    pub word_kept : answer code n (word_of n input 0) ≡ none → input ≡ word_output code n input output
    word_kept e = sym (hands ∙ rw e)

    -- else the word, mended
    pub word_handed : answer code n (word_of n input 0) ≢ none → word_bytes n (mend code n (word_of n input 0)) ≡ word_output code n input output
    word_handed k = go (answer code n (word_of n input 0)) k ∙ sym hands
      where
        go :
            (a : Option (List ℕ)) → a ≢ none
            → word_bytes n (mend code n (word_of n input 0)) ≡ pick (eqb (word_number (answered a)) 0) (word_bytes n (mend code n (word_of n input 0))) input
        go (some ps) k = refl
        go none k = absurd (k refl)

-- the word's own bytes s, read and mended in place
module _ (code : Code) (n : ℕ) (input s : List ℕ) (copied : s ≡ word_bytes n (word_of n input 0)) where
  read_back : word_at n s 0 1 ≡ word_of n input 0
  read_back = ap (λ (l : List ℕ). word_at n l 0 1) copied ∙ word_read n (word_of n input 0) (word_of-length n input 0)

  pub word_answer : answer code n (word_at n s 0 1) ≡ answer code n (word_of n input 0)
  word_answer = ap (answer code n) read_back

  pub word_mended : put n s 0 1 (mend code n (word_at n s 0 1)) ≡ word_bytes n (mend code n (word_of n input 0))
  word_mended =
      let w : Word = word_of n input 0 in
      rw (read_back, copied) (word_put n w (mend code n w) (word_of-length n input 0) (mend-length code n w ∙ word_of-length n input 0))
