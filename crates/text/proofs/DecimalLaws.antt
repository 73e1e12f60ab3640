-- A number written digit by digit: all but the last, then the last.
-- Assumes nothing.
use mathlib.Core.Path.{◌≡◌, sym, ap, ◌∙◌}
use mathlib.Core.List.{List, [], ◌∷◌}
use Prim.Native.Nat.{ℕ, ◌+◌, ◌/◌, ◌%◌, ◌^◌, ◌≤◌, ◌<◌}
use native.Mathlib.Nat.{lt_of_lt_of_le}
use native.Mathlib.Omega.{arith}
use lib.Dec.{leb→le}
use lib.ListN.{length, set, length-append}
use Rattle.textrules.specs.Text.{decimal}
use Rattle.textrules.proofs.Laws.TextLaws.{decimal_small, decimal_more, decimal_short}
use Rattle.text.specs.Laid.{laid, Lays}
use Rattle.text.proofs.LaidLaws.{laid_one, laid_more}

-- the number of a machine word has at most 20 digits
pub digits_few : (x : ℕ) → x < 18446744073709551616 → length (decimal x) ≤ 20
digits_few x h = decimal_short x 20 (lt_of_lt_of_le h (leb→le 18446744073709551616 (10 ^ 20) tt)) (omega arith)

pub one_digit : (x : ℕ) → x < 10 → length (decimal x) ≡ 1
one_digit x h = ap length (decimal_small x h)

pub more_digits : (x : ℕ) → 10 ≤ x → length (decimal x) ≡ length (decimal (x / 10)) + 1
more_digits x h = ap length (decimal_more x h) ∙ length-append (decimal (x / 10)) ((48 + x % 10) ∷ [])

module _ (s : List ℕ) (at x : ℕ) (room : at + length (decimal x) ≤ length s) where
  pub digit_room : x < 10 → at < length s
  digit_room h = omega (arith, one_digit x h)

  pub digit_laid : x < 10 → Lays s at (decimal x) (at + 1) (set s at (48 + x))
  digit_laid h = (
    omega (arith, one_digit x h),
    omega (arith, digit_room h),
    laid_one s at (48 + x) (digit_room h) ∙ ap (laid s at) (sym (decimal_small x h)),
  )

  -- room for all digits but the last, and then for that one
  pub digits_room : 10 ≤ x → at + length (decimal (x / 10)) < length s
  digits_room h = omega (arith, more_digits x h)

  module _ (end : ℕ) (t : List ℕ) (l : Lays s at (decimal (x / 10)) end t) where
    pub digits_laid : 10 ≤ x → Lays s at (decimal x) (end + 1) (set t end (48 + x % 10))
    digits_laid h = (
      omega (arith, l.0, more_digits x h),
      omega (arith, l.0, digits_room h),
      ap (λ (r : List ℕ). set r end (48 + x % 10)) l.2
          ∙ ap (λ (j : ℕ). set (laid s at (decimal (x / 10))) j (48 + x % 10)) l.0
          ∙ laid_more s at (decimal (x / 10)) (48 + x % 10) (digits_room h)
          ∙ ap (laid s at) (sym (decimal_more x h)),
    )
