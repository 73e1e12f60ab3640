-- `factory::written::put_frame` meets its contract.
use Rattle.std.proofs.Common.{length-append, arith}
use Rattle.textrules.proofs.Laws.DigitFormLaws.{hex_length}
use Rattle.text.proofs.DecimalLaws.{one_digit}
use Rattle.factory.proofs.LineLaws.{nine_most, three_most}
use Rattle.factory.proofs.written.put_frame.Goals as goal

pub put_decimal-requires : goal.put_decimal-requires
put_decimal-requires c = (omega arith, grind (arith, length-append, nine_most _ c.requires.fits_line.0))

pub put_count-requires : goal.put_count-requires
put_count-requires c = (omega arith, grind (arith, length-append, nine_most _ c.requires.fits_line.0, three_most _ c.requires.fits_line.1))

pub put_count-requires-2 : goal.put_count-requires-2
put_count-requires-2 c = (omega arith, grind (arith, length-append, nine_most _ c.requires.fits_line.0, three_most _ c.requires.fits_line.1, one_digit))

pub put-requires : goal.put-requires
put-requires c = (omega arith, grind (arith, length-append, nine_most _ c.requires.fits_line.0, three_most _ c.requires.fits_line.1, one_digit))

pub put_hex-requires : goal.put_hex-requires
put_hex-requires c = (omega arith, grind (arith, length-append, nine_most _ c.requires.fits_line.0, three_most _ c.requires.fits_line.1, one_digit))

pub put-requires-2 : goal.put-requires-2
put-requires-2 c = (omega arith, grind (arith, length-append, nine_most _ c.requires.fits_line.0, three_most _ c.requires.fits_line.1, one_digit, hex_length c.args.frame.now))
