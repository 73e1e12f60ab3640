-- `figures::put_figures` meets its contract: the five values in the order of `block`.
use Rattle.rules.specs.Block.{block}
use Rattle.host.proofs.figures.put_figures.Goals as goal

pub returns : goal.returns
unfolding block
returns c = c.put_numbers.ensures
