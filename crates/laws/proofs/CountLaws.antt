-- In how many bits two buffers differ, counted a byte at a time: by the ones in the bytes' exclusive or.
-- Assumes nothing.
use mathlib.Core.Path.{◌≡◌, sym, ap, ap₂, ◌∙◌}
use mathlib.Core.Bool.{Bool, xor}
use mathlib.Core.List.{List}
use Prim.Native.Nat.{ℕ, zero, suc, ◌+◌, ◌*◌, ◌-◌, ◌/◌, ◌%◌, ◌^◌, ◌≤◌, ◌<◌}
use native.Mathlib.Nat.{div-one, mul_assoc, pow-suc}
use native.Mathlib.Omega.{arith}
use lib.Bits.{bit_xor}
use lib.Count.{ones, ones_step, ones-le}
use lib.ListN.{length, get_or, take, drop}
use Rattle.std.proofs.Common.{drop-cons}
use Rattle.std.specs.List.{sum_by, zip}
use Rattle.std.proofs.lemmas.List.Sums.{sum_by-cons}
use native.Mathlib.Numerals.{add-one}
use lib.Pow.{shr_lt, shr-shr}
use Rattle.algebra.specs.Xor.{◌⊕◌}
use Rattle.algebra.specs.Tables.{num, total}
use Rattle.algebra.specs.Words.{bit, differ}
use Rattle.algebra.specs.Remainder.{is_odd}
use Rattle.algebra.proofs.Digits.{num_odd}
use Rattle.algebra.proofs.TableLaws.{total-none, total_most, total_last, total_split, total_ext, count_total, count_most}
use Rattle.algebra.proofs.XorLaws.{⊕-lt, ⊕-bit}
use Rattle.algebra.proofs.WordLaws.{differ_bits}
use Rattle.rules.specs.Codes.{length_limit}
use Rattle.rules.specs.Frames.{row}
use Rattle.rules.specs.Bits.{row_bytes, stride, bit_at, word_of, frame_of}
use Rattle.rules.specs.Passes.{differences}
use Rattle.rules.proofs.Laws.BitLaws.{half_digit, bit_at_split}
use Rattle.rules.proofs.Laws.Shape.{frame_of-row, word_of-length, word_of-bit}
use Rattle.laws.specs.InPlace.{differ_at}

-- ---- the ones of a number

-- are counted digit by digit, from the highest of m down
ones_digits : (m x : ℕ) → x < 2 ^ m → ones x ≡ total m (λ q. num (is_odd (x / 2 ^ (m - 1 - q))))
ones_digits zero x h = omega (arith, ones-le 0 x h, total-none (λ q. num (is_odd (x / 2 ^ (0 - 1 - q)))))
ones_digits (suc m) x h =
    let last : suc m - 1 - m ≡ 0 = omega arith in
    let lowest : num (is_odd (x / 2 ^ (suc m - 1 - m))) ≡ x % 2 =
    ap (λ (e : ℕ). num (is_odd (x / 2 ^ e))) last ∙ ap (λ (y : ℕ). num (is_odd y)) (div-one x) ∙ num_odd x in
    let others : total m (λ q. num (is_odd (x / 2 / 2 ^ (m - 1 - q)))) ≡ total m (λ q. num (is_odd (x / 2 ^ (suc m - 1 - q)))) =
    total_ext m (λ q. num (is_odd (x / 2 / 2 ^ (m - 1 - q)))) (λ q. num (is_odd (x / 2 ^ (suc m - 1 - q))))
    (λ q l.
    let e : suc (m - 1 - q) ≡ suc m - 1 - q = omega arith in
    ap (λ (y : ℕ). num (is_odd y)) (sym (half_digit x (m - 1 - q)) ∙ ap (λ (k : ℕ). x / 2 ^ k) e)) in
    omega (
      arith,
      ones_step x,
      ones_digits m (x / 2) (omega (arith, pow-suc 2 m)),
      total_last m (λ q. num (is_odd (x / 2 ^ (suc m - 1 - q)))),
    )

-- the m highest digits of a byte
ones_top : (m x : ℕ) → m ≤ 8 → x < 256 → ones (x / 2 ^ (8 - m)) ≡ total m (λ q. num (is_odd (x / 2 ^ (7 - q))))
ones_top m x h small =
    let all : m + (8 - m) ≡ 8 = omega arith in
    ones_digits m (x / 2 ^ (8 - m)) (shr_lt m (8 - m) (rw all small))
    ∙ total_ext m (λ q. num (is_odd (x / 2 ^ (8 - m) / 2 ^ (m - 1 - q)))) (λ q. num (is_odd (x / 2 ^ (7 - q))))
    (λ q l.
    let e : 8 - m + (m - 1 - q) ≡ 7 - q = omega arith in
    ap (λ (y : ℕ). num (is_odd y)) (shr-shr x (8 - m) (m - 1 - q) ∙ ap (λ (k : ℕ). x / 2 ^ k) e))

-- ---- the bits of two buffers

module _ (s t : List ℕ) (at : ℕ) where
  abbrev apart : ℕ → ℕ
  apart j = num (xor (bit_at s (at * 8 + j)) (bit_at t (at * 8 + j)))

  by_bits : (m : ℕ) → differ_at m s t at ≡ total m apart
  unfolding differ_at
  by_bits m =
      differ_bits m (word_of m s (at * 8)) (word_of m t (at * 8)) (word_of-length m s (at * 8)) (word_of-length m t (at * 8))
      ∙ total_ext m (λ j. num (xor (bit (word_of m s (at * 8)) j) (bit (word_of m t (at * 8)) j))) apart
      (λ j l. ap₂ (λ b c. num (xor b c)) (word_of-bit m s (at * 8) j l) (word_of-bit m t (at * 8) j l))

  pub differ-none : 0 ≡ differ_at 0 s t at
  differ-none = sym (by_bits 0 ∙ total-none apart)

  pub differ_most : (m : ℕ) → differ_at m s t at ≤ m
  differ_most m =
      let p : ℕ → Bool = λ j. xor (bit_at s (at * 8 + j)) (bit_at t (at * 8 + j)) in
      omega (arith, by_bits m, count_total m p, count_most m p)

-- the first bits of one byte: the others are shifted out
module _ (s t : List ℕ) (p spare : ℕ) (h : spare < 8) (bs : get_or s p 0 < 256) (bt : get_or t p 0 < 256) where
  abbrev x : ℕ
  x = get_or s p 0

  abbrev y : ℕ
  y = get_or t p 0

  differ_byte : ones ((x ⊕ y) / 2 ^ spare) ≡ differ_at (8 - spare) s t p
  differ_byte =
      let e : 8 - (8 - spare) ≡ spare = omega arith in
      ap (λ (k : ℕ). ones ((x ⊕ y) / 2 ^ k)) (sym e)
      ∙ ones_top (8 - spare) (x ⊕ y) (omega arith) (⊕-lt 8 bs bt)
      ∙ total_ext (8 - spare) (λ q. num (is_odd ((x ⊕ y) / 2 ^ (7 - q)))) (apart s t p)
      (λ q l.
      let small : q < 8 = omega arith in
      ap num (⊕-bit (7 - q) x y ∙ sym (ap₂ xor (bit_at_split s p q small) (bit_at_split t p q small))))
      ∙ sym (by_bits s t p (8 - spare))

  -- with the exclusive or that the code has
  pub differ_shifted :
      (ones (bit_xor x y / 2 ^ spare) ≡ differ_at (8 - spare) s t p) × (ones (bit_xor x y / 2 ^ spare) ≤ 8)
  unfolding ◌⊕◌
  differ_shifted = (differ_byte, omega (arith, differ_byte, differ_most s t p (8 - spare)))

-- k bytes, and m bits more
differ_more :
    (s t : List ℕ) (at k m : ℕ) → differ_at (k * 8 + m) s t at ≡ differ_at (k * 8) s t at + differ_at m s t (at + k)
differ_more s t at k m =
    by_bits s t at (k * 8 + m)
    ∙ total_split (k * 8) m (apart s t at)
    ∙ ap₂ ◌+◌ (sym (by_bits s t at (k * 8)))
    (total_ext m (λ j. apart s t at (k * 8 + j)) (apart s t (at + k))
    (λ j l.
    let e : at * 8 + (k * 8 + j) ≡ (at + k) * 8 + j = omega arith in
    ap (λ (i : ℕ). num (xor (bit_at s i) (bit_at t i))) e)
    ∙ sym (by_bits s t (at + k) m))

-- ---- a row, byte by byte

-- m bits of byte b, behind those before it that are counted
pub bytes_more :
    (s t : List ℕ) (at b m n found r : ℕ) → found ≡ differ_at (b * 8) s t at → r ≡ differ_at m s t (at + b) → b * 8 + m ≡ n
    → found + r ≡ differ_at n s t at
bytes_more s t at b m n found r e h l =
    ap₂ ◌+◌ e h ∙ sym (differ_more s t at b m) ∙ ap (λ (k : ℕ). differ_at k s t at) l

-- m whole bytes of both, zipped
abbrev pub byte_ones : ℕ × ℕ → ℕ
byte_ones p = ones (bit_xor p.0 p.1)

module _ (s t : List ℕ) (bs : (p : ℕ) → get_or s p 0 < 256) (bt : (p : ℕ) → get_or t p 0 < 256) where
  first_ones : (at : ℕ) → byte_ones (get_or s at 0, get_or t at 0) ≡ differ_at 8 s t at
  first_ones at = ap ones (sym (div-one (bit_xor (get_or s at 0) (get_or t at 0)))) ∙ (differ_shifted s t at 0 (omega arith) (bs at) (bt at)).0

  pub bytes_zipped :
      (m at : ℕ) → at + m ≤ length s → at + m ≤ length t
      → sum_by byte_ones (zip (take m (drop at s)) (take m (drop at t))) ≡ differ_at (m * 8) s t at
  bytes_zipped zero at hs ht = differ-none s t at
  bytes_zipped (suc m) at hs ht =
      let x : ℕ = get_or s at 0 in
      let y : ℕ = get_or t at 0 in
      let e : suc m * 8 ≡ 1 * 8 + m * 8 = omega arith in
      let rest : sum_by byte_ones (zip (take m (drop (suc at) s)) (take m (drop (suc at) t))) ≡ differ_at (m * 8) s t (suc at) =
      bytes_zipped m (suc at) (omega arith) (omega arith) in
      ap₂ (λ (u v : List ℕ). sum_by byte_ones (zip (take (suc m) u) (take (suc m) v))) (drop-cons s at 0 (omega arith)) (drop-cons t at 0 (omega arith))
      ∙ sum_by-cons byte_ones (x, y) (zip (take m (drop (suc at) s)) (take m (drop (suc at) t)))
      ∙ ap₂ ◌+◌ (first_ones at) (rest ∙ ap (differ_at (m * 8) s t) (sym (add-one at)))
      ∙ sym (differ_more s t at 1 (m * 8))
      ∙ ap (λ (k : ℕ). differ_at k s t at) (sym e)

-- ---- the rows of two frames, where w stands for the bytes of one

pub rows_all :
    (n w : ℕ) (s t : List ℕ) → w ≡ row_bytes n → total n (λ i. differ_at n s t (i * w)) ≡ differences n (frame_of n s) (frame_of n t)
unfolding differences differ_at
rows_all n w s t e =
    total_ext n (λ i. differ_at n s t (i * w)) (λ i. differ (row (frame_of n s) i) (row (frame_of n t) i))
    (λ i l.
    let at : i * w * 8 ≡ i * stride n = ap (λ (x : ℕ). i * x * 8) e ∙ mul_assoc i (row_bytes n) 8 in
    ap (λ (a : ℕ). differ (word_of n s a) (word_of n t a)) at
    ∙ sym (ap₂ differ (frame_of-row n s i l) (frame_of-row n t i l)))

pub rows_most : (n w : ℕ) (s t : List ℕ) → n ≤ length_limit → total n (λ i. differ_at n s t (i * w)) ≤ length_limit * n
rows_most n w s t h =
    total_most length_limit n (λ i. differ_at n s t (i * w)) (λ i l. omega (arith, differ_most s t (i * w) n))
