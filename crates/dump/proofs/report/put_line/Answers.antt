-- `dump::report::put_line` meets its contract: a machine word has few digits.
use Rattle.std.proofs.Common.{length-append, arith}
use Rattle.text.proofs.DecimalLaws.{digits_few}
use Rattle.dump.proofs.report.put_line.Goals as goal

pub put_decimal-requires : goal.put_decimal-requires
put_decimal-requires c = (omega arith, grind (arith, length-append, digits_few _ c.ranges.number.fits))

pub put_word-requires : goal.put_word-requires
put_word-requires c = (omega arith, grind (arith, length-append, digits_few _ c.ranges.number.fits))

pub put-requires : goal.put-requires
put-requires c = (omega arith, grind (arith, length-append, digits_few _ c.ranges.number.fits))

pub put_counts-requires : goal.put_counts-requires
put_counts-requires c = grind (arith, length-append, digits_few _ c.ranges.number.fits)
