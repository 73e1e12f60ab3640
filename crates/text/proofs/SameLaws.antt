-- A law of two texts compared character by character.
-- Assumes nothing.
use mathlib.Core.Path.{◌≡◌, refl, sym, ap, ◌∙◌}
use mathlib.Core.Logic.{◌≢◌}
use mathlib.Core.Bool.{Bool, false, ◌&&◌, and-false}
use mathlib.Core.List.{[], ◌∷◌}
use Prim.Native.Nat.{suc}
use lib.Dec.{eqb}
use lib.ListN.{length}
use Rattle.textrules.specs.Text.{Text, same}

pub same-length_not : (s t : Text) → length s ≢ length t → false ≡ same s t
unfolding same
same-length_not [] [] d = absurd (d refl)
same-length_not [] (y ∷ t) d = refl
same-length_not (x ∷ s) [] d = refl
same-length_not (x ∷ s) (y ∷ t) d =
    sym (ap (λ (b : Bool). eqb x y && b) (sym (same-length_not s t (λ e. d (ap suc e)))) ∙ and-false (eqb x y))
