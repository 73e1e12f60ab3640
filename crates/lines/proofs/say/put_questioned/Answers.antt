-- `lines::say::put_questioned` meets its contract: a machine word has few digits.
use Rattle.std.proofs.Common.{length-append, arith, rules}
use Rattle.text.proofs.DecimalLaws.{digits_few}
use Rattle.lines.proofs.say.put_questioned.Goals as goal

pub put_count-requires : goal.put_count-requires
put_count-requires g c = (search rules, grind (arith, length-append, digits_few _ c.ranges.number.fits))

pub put-requires-2 : goal.put-requires-2
put-requires-2 g c = (search rules, grind (arith, length-append, digits_few _ c.ranges.number.fits))
