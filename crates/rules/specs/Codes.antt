-- RULES 2: a code. A rule that depends on the code takes it first.
use Rattle.std.specs.Prelude.{Bool, true, [], ◌∷◌, ℕ, ◌+◌, ◌-◌, ◌/◌}
use Rattle.algebra.specs.Tables.{num}
use Rattle.rules.specs.Field.{poly}

pub record Code : Type 0 where
  -- the lengths that a word may have
  pub shortest : ℕ
  pub longest : ℕ
  -- the generator, bit i for z^i: it divides the polynomial of every codeword
  pub generator : ℕ
  -- its degree: so many bits of a word are a remainder
  pub degree : ℕ
  -- is the last bit a parity bit over the whole word
  pub extended : Bool
  -- different codewords of one length differ in at least so many places. This is a claim: `Mends` says that it holds
  pub distance : ℕ

-- how many wrong bits are mended: the most for which no two codewords are as near to a word
abbrev pub radius : Code → ℕ
radius code = (code.distance - 1) / 2

-- the bits of a word that are no data: the remainder's, and the parity bit
abbrev pub check_bits : Code → ℕ
check_bits code = code.degree + num code.extended

-- k, the data bits of a word of n bits
abbrev pub data_bits : Code → ℕ → ℕ
data_bits code n = n - check_bits code

-- ---- The small code: BCH of 255 bits that mends two, with a parity bit, shortened to any length from 18 on

-- minimal₁ times minimal₃
unfoldable pub g : ℕ
g = poly (16 ∷ 14 ∷ 13 ∷ 11 ∷ 10 ∷ 9 ∷ 8 ∷ 6 ∷ 5 ∷ 1 ∷ 0 ∷ [])

abbrev pub small_code : Code
small_code = record { shortest = 18; longest = 256; generator = g; degree = 16; extended = true; distance = 6 }

-- ---- Limits that `Sound` asks every code to keep, so that programs can count in machine words

abbrev pub length_limit : ℕ
length_limit = 1024

abbrev pub radius_limit : ℕ
radius_limit = 3
