-- A square of ones in bytes, looked for row by row and bit by bit; and the small code's data that make one.
-- Assumes nothing.
use mathlib.Core.Path.{◌≡◌, refl, sym, ap, ◌∙◌}
use mathlib.Core.Logic.{◌≢◌}
use mathlib.Core.Bool.{Bool, true, false}
use mathlib.Core.List.{List}
use Prim.Native.Nat.{ℕ, ◌+◌, ◌*◌, ◌≤◌}
use native.Mathlib.Omega.{arith}
use Rattle.algebra.specs.Tables.{num, all_below}
use Rattle.algebra.proofs.TableLaws.{below_ext}
use Rattle.rules.specs.Codes.{small_code, data_bits}
use Rattle.rules.specs.Frames.{cell, is_erased}
use Rattle.rules.specs.Bits.{stride, bit_at, frame_of}
use Rattle.rules.specs.Numbers.{frame_for}
use Rattle.rules.proofs.Laws.Shape.{frame_of-cell}
use Rattle.rules.proofs.Laws.ErasedLaws.{erased_ones}
use Rattle.rules.proofs.Promises.Erased.{small_ones}
use Rattle.rules.proofs.Promises.Promised.{promised_small}
use Rattle.laws.specs.InPlace.{ones_at}

-- ---- a bit's number

pub num-one : {b : Bool} → num b ≡ 1 → b ≡ true
num-one {b = true} e = refl
num-one {b = false} e = absurd (omega arith)

pub num-not_one : {b : Bool} → num b ≢ 1 → b ≡ false
num-not_one {b = true} e = absurd (e refl)
num-not_one {b = false} e = refl

-- ---- rows, where w stands for the bits of one

pub rows_all : (n w : ℕ) (s : List ℕ) → w ≡ stride n → all_below n (λ i. ones_at n s (i * w)) ≡ is_erased n (frame_of n s)
unfolding ones_at is_erased
rows_all n w s e =
    below_ext n (λ i. all_below n (λ j. bit_at s (i * w + j))) (λ i. all_below n (λ j. cell (frame_of n s) i j))
    (λ i l.
    below_ext n (λ j. bit_at s (i * w + j)) (λ j. cell (frame_of n s) i j)
    (λ j m. ap (λ (x : ℕ). bit_at s (i * x + j)) e ∙ sym (frame_of-cell n s i j l m)))

-- ---- the small code's data

module _ (n : ℕ) (input : List ℕ) (lo : 18 ≤ n) (hi : n ≤ 256) where
  pub data_shorter : n ≢ 256 → false ≡ is_erased n (frame_for small_code n input)
  data_shorter h = go (is_erased n (frame_for small_code n input)) refl
    where
      go : (b : Bool) → is_erased n (frame_for small_code n input) ≡ b → false ≡ b
      go true e = absurd (h ((small_ones.at_256 n lo hi).0 ((promised_small.ones n input lo).0 e).0))
      go false e = refl

  -- r is what is said of the data
  pub data_longest :
      (r : Bool) → n ≡ 256 → r ≡ is_erased (data_bits small_code n) (frame_of (data_bits small_code n) input)
      → r ≡ is_erased n (frame_for small_code n input)
  data_longest true e h =
      sym
      ((promised_small.ones n input lo).1
      ((small_ones.at_256 n lo hi).1 e, (erased_ones (data_bits small_code n) (frame_of (data_bits small_code n) input)).0 (sym h)))
  data_longest false e h = go (is_erased n (frame_for small_code n input)) refl
    where
      go : (b : Bool) → is_erased n (frame_for small_code n input) ≡ b → false ≡ b
      go true q = h ∙ (erased_ones (data_bits small_code n) (frame_of (data_bits small_code n) input)).1 ((promised_small.ones n input lo).0 q).1
      go false q = refl
