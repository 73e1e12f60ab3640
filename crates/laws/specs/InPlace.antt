-- A word anywhere in a buffer, by the bit that it starts at and the step from bit to bit; bits changed in place, and bits that differ.
use Rattle.std.specs.Prelude.{Bool, cond, List, ℕ, zero, suc, ◌+◌, ◌*◌, ◌-◌, ◌/◌, ◌%◌, ◌^◌, ◌≤◌, ◌<◌, length, get_or, set}
use Rattle.std.specs.Bool.{xor}
use Rattle.algebra.specs.Xor.{◌⊕◌}
use Rattle.algebra.specs.Tables.{tab, all_below}
use Rattle.algebra.specs.Words.{Word, bit, differ}
use Rattle.rules.specs.Codes.{Code, length_limit}
use Rattle.rules.specs.Bits.{square_bytes, bit_at, word_of}

-- bit j of the word that starts at bit `start` and goes by `step`
unfoldable pub bits_at : List ℕ → ℕ → ℕ → ℕ → Bool
bits_at s start step j = bit_at s (start + j * step)

unfoldable pub word_at : ℕ → List ℕ → ℕ → ℕ → Word
word_at n s start step = tab n (bits_at s start step)

-- the n bits from bit `start` on are ones
unfoldable pub ones_at : ℕ → List ℕ → ℕ → Bool
ones_at n s start = all_below n (λ j. bit_at s (start + j))

-- in how many of the m bits from byte `at` on two buffers differ
unfoldable pub differ_at : ℕ → List ℕ → List ℕ → ℕ → ℕ
differ_at m s t at = differ (word_of m s (at * 8)) (word_of m t (at * 8))

-- the bytes of the longest frame that any code may have, and its bits, so that a step is smaller
abbrev pub most_bytes : ℕ
most_bytes = square_bytes length_limit

abbrev pub most_bits : ℕ
most_bits = most_bytes * 8

-- a word of a permitted length lies within the buffer, which is no longer than the longest frame; its bits differ in place
abbrev pub Inside : Code → ℕ → List ℕ → ℕ → ℕ → Type 0
Inside code n s start step =
    (code.shortest ≤ n) × (n ≤ code.longest) × (length s ≤ most_bytes) × (1 ≤ step) × (start + (n - 1) * step < length s * 8)

-- bit x negated
unfoldable pub flip_at : List ℕ → ℕ → List ℕ
flip_at s x = set s (x / 8) (get_or s (x / 8) 0 ⊕ 2 ^ (7 - x % 8))

-- bit x made b
unfoldable pub put_bit : List ℕ → ℕ → Bool → List ℕ
put_bit s x b = cond (xor (bit_at s x) b) (flip_at s x) s

-- the first m bits of the word u put in place, one after another
unfoldable pub put : ℕ → List ℕ → ℕ → ℕ → Word → List ℕ
put zero s start step u = s
put (suc m) s start step u = put_bit (put m s start step u) (start + m * step) (bit u m)
