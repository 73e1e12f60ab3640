-- `exports::probe_power` meets its contract: the power that the mark has.
use mathlib.Core.Path.{ap, ◌∙◌}
use Rattle.algebra.specs.Marking.{power_part}
use Rattle.algebra.specs.Field256.{small_marking}
use Rattle.rules.proofs.Laws.FieldLaws.{marks_power}
use Rattle.probe.proofs.exports.probe_power.Goals as goal

pub returns : goal.returns
returns c = c.power_part.ensures ∙ ap (power_part small_marking) c.mark_at.ensures ∙ marks_power c.args.e
