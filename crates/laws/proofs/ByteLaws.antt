-- A bit and a byte of a word, as code reads and flips them: by shifts, masks and exclusive or.
-- Assumes nothing.
use mathlib.Core.Path.{◌≡◌, refl, sym, ap, ◌∙◌}
use mathlib.Core.Bool.{false}
use mathlib.Core.List.{List}
use Prim.Native.Nat.{ℕ, suc, ◌+◌, ◌*◌, ◌-◌, ◌/◌, ◌%◌, ◌^◌, ◌≤◌, ◌<◌}
use native.Mathlib.Nat.{one-mul, mul_assoc, mod-eq_of_lt, zero-div}
use native.Mathlib.Decide.{dec_lt}
use native.Mathlib.Omega.{arith}
use borrow.Author.Tests.{ne_eqb}
use lib.Bits.{bit_and, bit_xor, and_mask, shifted_even}
use lib.ListN.{get_or, set}
use lib.Pow.{pow-lt, pow-add, shl-shr, shr-shr, split}
use Rattle.algebra.specs.Xor.{◌⊕◌}
use Rattle.algebra.specs.Tables.{num}
use Rattle.algebra.specs.Words.{bit}
use Rattle.algebra.specs.Remainder.{is_odd}
use Rattle.algebra.proofs.Digits.{num_odd}
use Rattle.rules.specs.Bits.{bit_at, word_of, byte_of}
use Rattle.rules.proofs.Laws.Shape.{bit_past, word_of-length, word_of-bit}
use Rattle.rules.proofs.Laws.BitLaws.{byte_digits, byte_of-lt, byte_of_digit, bit_at_split}
use Rattle.laws.specs.InPlace.{flip_at}

-- ---- one bit

pub bit_read : (s : List ℕ) (x : ℕ) → bit_and (get_or s (x / 8) 0 / 2 ^ (7 - x % 8)) 1 ≡ num (bit_at s x)
unfolding bit_at
bit_read s x =
    let v : ℕ = get_or s (x / 8) 0 / 2 ^ (7 - x % 8) in
    and_mask v 1 ∙ sym (num_odd v)

pub bit_flipped : (s : List ℕ) (x : ℕ) → set s (x / 8) (bit_xor (get_or s (x / 8) 0) (1 * 2 ^ (7 - x % 8) % 256)) ≡ flip_at s x
unfolding flip_at ◌⊕◌
bit_flipped s x =
    let small : 2 ^ (7 - x % 8) < 256 = pow-lt {j = 8} (omega arith) in
    let e : 1 * 2 ^ (7 - x % 8) % 256 ≡ 2 ^ (7 - x % 8) =
    ap (λ (m : ℕ). m % 256) (one-mul (2 ^ (7 - x % 8))) ∙ mod-eq_of_lt small in
    ap (λ (m : ℕ). set s (x / 8) (bit_xor (get_or s (x / 8) 0) m)) e

-- ---- one byte of a word

none_odd : (k : ℕ) → is_odd (0 / 2 ^ k) ≡ false
none_odd k = ap is_odd (zero-div (2 ^ k))

-- a byte that has the word's digits, and none past the word's end
module _ (m : ℕ) (s : List ℕ) (at b : ℕ) where
  byte_is :
      (x : ℕ) → x < 256
      → ((q : ℕ) → q < 8 → b * 8 + q < m → is_odd (x / 2 ^ (7 - q)) ≡ is_odd (get_or s (at + b) 0 / 2 ^ (7 - q)))
      → ((q : ℕ) → q < 8 → m ≤ b * 8 + q → is_odd (x / 2 ^ (7 - q)) ≡ false)
      → x ≡ byte_of (word_of m s (at * 8)) b
  byte_is x small inside past =
      byte_digits x (byte_of (word_of m s (at * 8)) b) small (byte_of-lt (word_of m s (at * 8)) b)
      (λ q h. go q h (dec_lt (b * 8 + q) m) ∙ sym (byte_of_digit (word_of m s (at * 8)) b q h))
    where
      go : (q : ℕ) → q < 8 → Dec (b * 8 + q < m) → is_odd (x / 2 ^ (7 - q)) ≡ bit (word_of m s (at * 8)) (b * 8 + q)
      go q h (yes l) =
          let e : at * 8 + (b * 8 + q) ≡ (at + b) * 8 + q = omega arith in
          inside q h l
          ∙ sym (word_of-bit m s (at * 8) (b * 8 + q) l ∙ ap (bit_at s) e ∙ bit_at_split s (at + b) q h)
      go q h (no l) =
          past q h (omega (arith, l))
          ∙ sym (bit_past (word_of m s (at * 8)) (b * 8 + q) (omega (arith, l, word_of-length m s (at * 8))))

  pub byte_past : m ≤ b * 8 → 0 ≡ byte_of (word_of m s (at * 8)) b
  byte_past h = byte_is 0 (omega arith) (λ q hq l. absurd (omega arith)) (λ q hq l. none_odd (7 - q))

  pub byte_whole : b * 8 + 8 ≤ m → get_or s (at + b) 0 < 256 → get_or s (at + b) 0 ≡ byte_of (word_of m s (at * 8)) b
  byte_whole h v = byte_is (get_or s (at + b) 0) v (λ q hq l. refl) (λ q hq l. absurd (omega arith))

-- ---- the last digits of a number made zero

cut_high : (v k d : ℕ) → v / 2 ^ k * 2 ^ k / 2 ^ (k + d) ≡ v / 2 ^ (k + d)
cut_high v k d =
    sym (shr-shr (v / 2 ^ k * 2 ^ k) k d) ∙ ap (λ (x : ℕ). x / 2 ^ d) (shl-shr (v / 2 ^ k) k) ∙ shr-shr v k d

cut_low : (v d e : ℕ) → is_odd (v * 2 ^ (suc d + e) / 2 ^ e) ≡ false
cut_low v d e =
    ap is_odd
    (ap (λ (x : ℕ). v * x / 2 ^ e) (pow-add 2 (suc d) e)
    ∙ ap (λ (x : ℕ). x / 2 ^ e) (sym (mul_assoc v (2 ^ suc d) (2 ^ e))) ∙ shl-shr (v * 2 ^ suc d) e)
    ∙ ne_eqb (v * 2 ^ suc d % 2) 1 (λ q. omega (arith, shifted_even v d))

-- the word's last byte, of which 8 - k digits are the word's
pub byte_cut :
    (m : ℕ) (s : List ℕ) (at b : ℕ) → b * 8 < m → m < b * 8 + 8 → get_or s (at + b) 0 < 256
    → get_or s (at + b) 0 / 2 ^ (b * 8 + 8 - m) * 2 ^ (b * 8 + 8 - m) % 256 ≡ byte_of (word_of m s (at * 8)) b
byte_cut m s at b lo hi small =
    let k : ℕ = b * 8 + 8 - m in
    let v : ℕ = get_or s (at + b) 0 in
    let fits : v / 2 ^ k * 2 ^ k < 256 = omega (arith, split v k) in
    mod-eq_of_lt fits
    ∙ byte_is m s at b (v / 2 ^ k * 2 ^ k) fits
    (λ q hq l.
    let e : 7 - q ≡ k + (7 - q - k) = omega arith in
    rw e (ap is_odd (cut_high v k (7 - q - k))))
    (λ q hq l.
    let e : k ≡ suc (k - 1 - (7 - q)) + (7 - q) = omega arith in
    ap (λ (j : ℕ). is_odd (v / 2 ^ k * 2 ^ j / 2 ^ (7 - q))) e ∙ cut_low (v / 2 ^ k) (k - 1 - (7 - q)) (7 - q))
