-- `factory::written::put_refused` meets its contract.
use Rattle.std.proofs.Common.{length-append, arith, rules}
use Rattle.text.proofs.DecimalLaws.{digits_few}
use Rattle.factory.proofs.written.put_refused.Goals as goal

pub put_count-requires : goal.put_count-requires
put_count-requires c = (omega arith, grind (arith, length-append, digits_few _ c.ranges.number.fits))

pub put_count-requires-2 : goal.put_count-requires-2
put_count-requires-2 c = (omega arith, grind (arith, length-append, digits_few _ c.ranges.number.fits, digits_few c.number-given.result (search rules)))

pub put-requires-2 : goal.put-requires-2
put-requires-2 c = (omega arith, grind (arith, length-append, digits_few _ c.ranges.number.fits, digits_few c.number-given.result (search rules)))
