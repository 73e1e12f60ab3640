-- What the search for an answer owes, given the parity of the checks and the mark of their remainder alone.
use Rattle.std.specs.Prelude.{◌≡◌, ℕ, ◌/◌, ◌%◌, ◌≤◌, ◌<◌}
use Rattle.algebra.specs.Marking.{mark_of}
use Rattle.algebra.specs.Field256.{small_marking}
use Rattle.rules.specs.Codes.{small_code}
use Rattle.laws.specs.Located.{checks_end, located}
use Rattle.word.specs.declared.locate.Answer.{Answer}
use Rattle.word.specs.Said.{answer_of}

-- the answer to any checks of this parity whose remainder is not 0 and has this mark
abbrev pub Locates : ℕ → ℕ → ℕ → Answer → Type 0
Locates n parity w r =
    (c : ℕ) → 2 ≤ c → c < checks_end small_code → c % 2 ≡ parity → w ≡ mark_of small_marking (c / 2) → r ≡ answer_of (located small_code n c)
