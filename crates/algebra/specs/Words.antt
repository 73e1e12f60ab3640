-- Words of bits, and the ⊕ of the values at a word's ones.
use Rattle.std.specs.Prelude.{Bool, true, false, List, [], ◌∷◌, ℕ, get_or}
use Rattle.std.specs.Bool.{xor}
use Rattle.algebra.specs.Xor.{◌⊕◌}
use Rattle.algebra.specs.Tables.{ones}

infixl 65 ◌⊻◌
abbrev pub Word : Type 0
Word = List Bool

-- the bit at a place; false past the end
unfoldable pub bit : Word → ℕ → Bool
bit w j = get_or w j false

-- the bits that differ, as long as the shorter word
unfoldable pub ◌⊻◌ : Word → Word → Word
[] ⊻ [] = []
[] ⊻ (c ∷ u) = []
(b ∷ w) ⊻ [] = []
(b ∷ w) ⊻ (c ∷ u) = xor b c ∷ (w ⊻ u)

-- in how many places two words differ
abbrev pub differ : Word → Word → ℕ
differ w u = ones (w ⊻ u)

-- v where the bit is one, else 0
abbrev pub kept : Bool → ℕ → ℕ
kept true v = v
kept false v = 0

-- the ⊕ of the values at a word's ones
unfoldable pub dot : List ℕ → Word → ℕ
dot [] [] = 0
dot [] (b ∷ w) = 0
dot (v ∷ vs) [] = 0
dot (v ∷ vs) (b ∷ w) = kept b v ⊕ dot vs w
