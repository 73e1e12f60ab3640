-- `exports::probe_logarithm` meets its contract: the table has the logarithms.
use mathlib.Core.Path.{◌∙◌}
use borrow.Author.Rules.{rules}
use Rattle.rules.proofs.Laws.FieldLaws.{logs_logarithm}
use Rattle.probe.proofs.exports.probe_logarithm.Goals as goal

pub returns : goal.returns
returns c = c.exponent.ensures.0 ∙ logs_logarithm c.args.x (search rules)
