-- RULES 7: decode's answer for C, with its values in a lent block of bytes.
use Rattle.std.specs.Prelude.{List, [], ◌∷◌, ◌++◌, ℕ, ◌+◌, ◌*◌, ◌/◌, ◌%◌, ◌^◌, get_or}
use Rattle.rules.specs.Codes.{Code}
use Rattle.rules.specs.Numbers.{pick, not_long, Figures, figures_of, decode_said, decode_output}

-- a number of 32 bits as four bytes, low byte first
abbrev pub low_first : ℕ → List ℕ
low_first x = x % 2 ^ 8 ∷ x / 2 ^ 8 % 2 ^ 8 ∷ x / 2 ^ 16 % 2 ^ 8 ∷ x / 2 ^ 24 % 2 ^ 8 ∷ []

-- one number behind the other
unfoldable pub in_bytes : List ℕ → List ℕ
in_bytes [] = []
in_bytes (x ∷ xs) = low_first x ++ in_bytes xs

-- the length of a block
abbrev pub block_bytes : ℕ
block_bytes = 20

-- the five values, in this order
unfoldable pub block : Figures → List ℕ
block f = in_bytes (f.number ∷ f.passes ∷ f.bits ∷ f.rows ∷ f.columns ∷ [])

-- the number that begins at a byte
abbrev pub number_at : List ℕ → ℕ → ℕ
number_at s at = get_or s at 0 + get_or s (at + 1) 0 * 2 ^ 8 + get_or s (at + 2) 0 * 2 ^ 16 + get_or s (at + 3) 0 * 2 ^ 24

-- what the host reads out of a block
unfoldable pub read_block : List ℕ → Figures
read_block s =
    record { number = number_at s 0; passes = number_at s 4; bits = number_at s 8; rows = number_at s 12; columns = number_at s 16 }

-- what C gets of decode: the number returned, and what the lent frame and the lent block have then
pub record HostAnswer : Type 0 where
  pub returned : ℕ
  pub frame : List ℕ
  pub block : List ℕ

-- number 11: the lent block has another length. It comes ahead of every other number, and nothing is written
unfoldable pub host_decode : Code → ℕ → ℕ → List ℕ → List ℕ → List ℕ → HostAnswer
host_decode code n allowance input output lent =
    let f : Figures = figures_of (decode_said code n allowance input output) in
    pick (not_long lent block_bytes) (record { returned = 11; frame = output; block = lent })
    (record { returned = f.number; frame = decode_output code n allowance input output; block = block f })
