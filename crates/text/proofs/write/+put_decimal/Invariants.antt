-- `put_decimal` calls itself with one digit less: the measure is the number.
use Rattle.text.proofs.write.+put_decimal.Given as goal

abbrev pub decreases-put_decimal : goal.decreases-put_decimal
decreases-put_decimal l = l.x
