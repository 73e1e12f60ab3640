-- `dump::report::put_counts` meets its contract: a machine word has few digits.
use Rattle.std.proofs.Common.{length-append, arith}
use Rattle.text.proofs.DecimalLaws.{digits_few}
use Rattle.dump.proofs.report.put_counts.Goals as goal

pub put_decimal-requires : goal.put_decimal-requires
put_decimal-requires c = let g = c.well_formed.1.0.1.1 in (omega arith, grind (arith, length-append, digits_few _ g.0.1, digits_few _ g.1.0.1, digits_few _ g.1.1.0.1, digits_few _ g.1.1.1.0.1))

pub put_count-requires : goal.put_count-requires
put_count-requires c = let g = c.well_formed.1.0.1.1 in (omega arith, grind (arith, length-append, digits_few _ g.0.1, digits_few _ g.1.0.1, digits_few _ g.1.1.0.1, digits_few _ g.1.1.1.0.1))

pub put_count-requires-2 : goal.put_count-requires-2
put_count-requires-2 c = let g = c.well_formed.1.0.1.1 in (omega arith, grind (arith, length-append, digits_few _ g.0.1, digits_few _ g.1.0.1, digits_few _ g.1.1.0.1, digits_few _ g.1.1.1.0.1))

pub put_count-requires-3 : goal.put_count-requires-3
put_count-requires-3 c = let g = c.well_formed.1.0.1.1 in (omega arith, grind (arith, length-append, digits_few _ g.0.1, digits_few _ g.1.0.1, digits_few _ g.1.1.0.1, digits_few _ g.1.1.1.0.1))

pub put-requires : goal.put-requires
put-requires c = let g = c.well_formed.1.0.1.1 in (omega arith, grind (arith, length-append, digits_few _ g.0.1, digits_few _ g.1.0.1, digits_few _ g.1.1.0.1, digits_few _ g.1.1.1.0.1))
