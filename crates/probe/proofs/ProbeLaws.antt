-- A row copied where it fits.
-- Assumes nothing.
use mathlib.Core.Path.{◌≡◌, ap, sym, ◌∙◌}
use mathlib.Core.Logic.{◌≢◌}
use mathlib.Core.List.{List}
use Prim.Native.Nat.{ℕ}
use lib.Dec.{eqb}
use lib.ListN.{length}
use borrow.Author.Tests.{eq-eqb, ne_eqb}
use Rattle.rules.specs.Numbers.{pick}

-- the copied row, or what was lent where it is not as long
pub row_copied :
    (p b t u : List ℕ) → b ≡ p → length b ≡ length t → u ≡ b
    → (length b ≡ length p) × (u ≡ pick (eqb (length p) (length t)) p t)
row_copied p b t u is l h =
    let e : pick (eqb (length p) (length t)) p t ≡ p = rw (eq-eqb (length p) (length t) (ap length (sym is) ∙ l)) in
    (ap length is, h ∙ is ∙ sym e)

pub row_left :
    (p b t : List ℕ) → b ≡ p → length b ≢ length t → (length b ≡ length p) × (t ≡ pick (eqb (length p) (length t)) p t)
row_left p b t is l =
    let e : pick (eqb (length p) (length t)) p t ≡ t = rw (ne_eqb (length p) (length t) (λ q. l (ap length is ∙ q))) in
    (ap length is, sym e)
