-- `lines::state::is_header` meets its contract: slices are compared as `same` compares texts.
use mathlib.Core.Path.{◌≡◌, refl, ap, ◌∙◌}
use mathlib.Core.Bool.{Bool, ◌&&◌}
use mathlib.Core.List.{[], ◌∷◌}
use lib.Dec.{eqb}
use lib.Pointwise.{pointwise}
use Rattle.textrules.specs.Text.{Text, same}
use Rattle.lines.proofs.StateLaws.{header_over, header_kept}
use Rattle.lines.proofs.state.is_header.Goals as goal

same_is : (s t : Text) → pointwise eqb s t ≡ same s t
unfolding same
same_is [] [] = refl
same_is [] (y ∷ t) = refl
same_is (x ∷ s) [] = refl
same_is (x ∷ s) (y ∷ t) = ap (λ (b : Bool). eqb x y && b) (same_is s t)

pub returns-then-long-line : goal.returns-then-long-line
returns-then-long-line c = header_over c.args.header.now c.args.long c.args.line.now c.if-long-line.true

pub returns : goal.returns
returns c =
    header_kept c.args.header.now c.args.long c.args.line.now c.if-long-line.false c.eq.result (c.eq.ensures ∙ same_is _ _)
