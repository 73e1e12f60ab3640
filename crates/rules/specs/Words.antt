-- RULES 2: the word.
use Rattle.std.specs.Prelude.{Bool, true, false, ◌||◌, List, [], ◌∷◌, ◌++◌, map, ◌≡◌, ℕ, zero, suc, ◌+◌, ◌*◌, ◌-◌, ◌%◌, eqb, length, take}
use Rattle.std.specs.Bool.{xor}
use Rattle.std.proofs.Math.Option.{Option, some, none}
use Rattle.algebra.specs.Xor.{◌⊕◌}
use Rattle.algebra.specs.Tables.{tab, num, ones}
use Rattle.algebra.specs.Words.{Word, bit}
use Rattle.algebra.specs.Remainder.{register, powers_down, is_odd, systematic}
use Rattle.rules.specs.Codes.{Code, radius}

-- ---- Codewords

-- how many of a word's n bits are coefficients of its polynomial: all but a parity bit
abbrev pub front_bits : Code → ℕ → ℕ
front_bits code n = n - num code.extended

-- what the generator leaves of that polynomial; the first bit is the coefficient of the highest power
unfoldable pub remainder : Code → ℕ → Word → ℕ
remainder code n w = register code.degree code.generator 0 (take (front_bits code n) w)

-- with a parity bit: the remainder, and behind it as the last digit whether the number of ones is odd; without: the remainder
abbrev pub with_parity : Bool → ℕ → ℕ → ℕ
with_parity true r o = 2 * r + o % 2
with_parity false r o = r

-- a word's checks, as one number
unfoldable pub checks : Code → ℕ → Word → ℕ
checks code n w = with_parity code.extended (remainder code n w) (ones w)

-- all checks are zero: no remainder and, with a parity bit, an even number of ones
unfoldable pub is_codeword : Code → ℕ → Word → Bool
is_codeword code n w = eqb (checks code n w) 0

-- a codeword of n bits
abbrev pub Codeword : Code → ℕ → Word → Type 0
Codeword code n w = (length w ≡ n) × (is_codeword code n w ≡ true)

-- with a parity bit: the word, and behind it the bit that makes the ones even; without: the word
abbrev pub and_parity : Bool → Word → Word
and_parity true w = w ++ is_odd (ones w) ∷ []
and_parity false w = w

-- data, then the bits that leave no remainder, then the parity bit
unfoldable pub encode_word : Code → Word → Word
encode_word code u = and_parity code.extended (systematic code.degree code.generator u)

-- ---- The answer to a word

-- with a parity bit: what each power leaves, with an odd last digit, and 1 for the parity bit; without: what each leaves
abbrev pub placed : Bool → List ℕ → List ℕ
placed true rs = map (λ r. 2 * r + 1) rs ++ 1 ∷ []
placed false rs = rs

-- the value of each place: the checks of the word whose only one stands there
unfoldable pub values : Code → ℕ → List ℕ
values code n = placed code.extended (powers_down code.degree code.generator (front_bits code n))

-- just e places, rising, from place p on, whose values ⊕ to s: the first such by its lowest place. A single place is compared, which
-- comes to the same and is quicker
unfoldable pub exactly : ℕ → ℕ → List ℕ → ℕ → Option (List ℕ)
exactly zero p vs s = elim (eqb s 0) [ true ↦ some [] | false ↦ none ]
exactly (suc zero) p [] s = none
exactly (suc zero) p (v ∷ vs) s = elim (eqb v s) [ true ↦ some (p ∷ []) | false ↦ exactly (suc zero) (suc p) vs s ]
exactly (suc (suc e)) p [] s = none
exactly (suc (suc e)) p (v ∷ vs) s = elim (exactly (suc e) (suc p) vs (s ⊕ v)) [
  | some ps ↦ some (p ∷ ps)
  | none ↦ exactly (suc (suc e)) (suc p) vs s
]

-- the fewest places, at most t, whose values ⊕ to s
unfoldable pub within : ℕ → List ℕ → ℕ → Option (List ℕ)
within zero vs s = exactly zero 0 vs s
within (suc t) vs s = elim (within t vs s) [ some ps ↦ some ps | none ↦ exactly (suc t) 0 vs s ]

-- `some []`: it is a codeword. `some ps`: it is one after these places are changed, as many as the radius at most. `none`: that would
-- take more. Only the word's own n places are tried, and so none that was cut away
unfoldable pub answer : Code → ℕ → Word → Option (List ℕ)
answer code n w = within (radius code) (values code n) (checks code n w)

-- the places that an answer names
abbrev pub places : Option (List ℕ) → List ℕ
places (some ps) = ps
places none = []

-- is j one of the places
unfoldable pub is_in : ℕ → List ℕ → Bool
is_in j [] = false
is_in j (p ∷ ps) = eqb j p || is_in j ps

-- w with the bits at these places changed
unfoldable pub changed : List ℕ → Word → Word
changed ps w = tab (length w) (λ j. xor (is_in j ps) (bit w j))

-- the codeword that the answer leads to; a word with none near enough stays
unfoldable pub mend : Code → ℕ → Word → Word
mend code n w = changed (places (answer code n w)) w
