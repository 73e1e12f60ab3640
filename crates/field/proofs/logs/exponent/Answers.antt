-- `field::logs::exponent`: entry for entry the table is the list of `algebra`.
use mathlib.Core.Path.{refl}
use Rattle.algebra.specs.Field256.{logs}
use Rattle.algebra.proofs.Field256Laws.{log256_small}
use borrow.Author.Rules.{rules}
use Rattle.field.proofs.logs.exponent.Goals as goal

pub returns : goal.returns
unfolding logs
returns c = (refl, log256_small c.args.element (search rules))
