-- The contracts of the tests' exports, each as one statement about a call.
use Rattle.std.specs.Prelude.{◌≡◌, List, [], ◌∷◌, ℕ, eqb, leb, length}
use Rattle.std.proofs.Math.Option.{some, none}
use Rattle.rules.specs.Codes.{small_code}
use Rattle.rules.specs.Numbers.{pick, outside, not_long, WordSaid, word_refused, answered, word_number, word_said, word_output, row_part}
use Rattle.rules.specs.Block.{in_bytes}
use Rattle.laws.specs.Located.{checks_end, located}

-- how many places were changed, the first and the second; none where it is refused
abbrev pub said_places : WordSaid → List ℕ
said_places (word_refused k) = 0 ∷ 0 ∷ 0 ∷ []
said_places (answered (some [])) = 0 ∷ 0 ∷ 0 ∷ []
said_places (answered (some (p ∷ []))) = 1 ∷ p ∷ 0 ∷ []
said_places (answered (some (p ∷ q ∷ ps))) = 2 ∷ p ∷ q ∷ []
said_places (answered none) = 0 ∷ 0 ∷ 0 ∷ []

-- the answer to checks alone; 1 for an n that no word has, 2 for what are no checks
abbrev pub said_located : ℕ → ℕ → WordSaid
said_located n c =
    pick (outside small_code n) (word_refused 1) (pick (leb (checks_end small_code) c) (word_refused 2) (answered (located small_code n c)))

-- the length of a block
abbrev pub places_bytes : ℕ
places_bytes = 12

-- what is returned and left in the block; where that has another length, 11, and the block as it was
abbrev pub InBlock : WordSaid → List ℕ → ℕ → List ℕ → Type 0
InBlock said lent r left =
    (r ≡ pick (not_long lent places_bytes) 11 (word_number said)) × (left ≡ pick (not_long lent places_bytes) lent (in_bytes (said_places said)))

abbrev pub ProbesWord : ℕ → List ℕ → List ℕ → List ℕ → ℕ → List ℕ → List ℕ → Type 0
ProbesWord n received output lent r exit left =
    InBlock (word_said small_code n received output) lent r left
    × (exit ≡ pick (not_long lent places_bytes) output (word_output small_code n received output))

abbrev pub ProbesChecks : ℕ → ℕ → List ℕ → ℕ → List ℕ → Type 0
ProbesChecks n checks lent r left = InBlock (said_located n checks) lent r left

abbrev pub CopiesRow : ℕ → List ℕ → ℕ → List ℕ → ℕ → List ℕ → Type 0
CopiesRow n frame i part r exit =
    (r ≡ length (row_part small_code n frame i)) × (exit ≡ pick (eqb (length (row_part small_code n frame i)) (length part)) (row_part small_code n frame i) part)
