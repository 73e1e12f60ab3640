-- `places::mark_of`: the fold adds the mark of each of the remainder's ones.
use mathlib.Core.Path.{refl, ◌∙◌}
use Prim.Native.Nat.{◌/◌, ◌%◌, ◌*◌, ◌^◌}
use borrow.Author.Rules.{rules}
use Rattle.std.specs.List.{range_with_len}
use Rattle.std.proofs.lemmas.Iterator.{YieldsList-from_range}
use Rattle.std.proofs.lemmas.Iterator.Consumers.{fold_from_yields_List}
use Rattle.algebra.specs.Xor.{◌⊕◌}
use Rattle.algebra.specs.Marking.{mark_at}
use Rattle.algebra.specs.Field256.{small_marking}
use Rattle.laws.proofs.LocateSteps.{all_added}
use Rattle.places.proofs.mark_of.Goals as goal

pub returns : goal.returns
unfolding ◌⊕◌
returns c =
    fold_from_yields_List {v = λ x. x} {all = range_with_len 0 16} _
    (λ w i. w ⊕ c.args.remainder / 2 ^ i % 2 * mark_at small_marking i) 0 c.fold.result c.fold.ensures.ran
    (YieldsList-from_range 0 16 16 refl refl) (λ a x b q z. search rules)
    ∙ all_added small_marking c.args.remainder
