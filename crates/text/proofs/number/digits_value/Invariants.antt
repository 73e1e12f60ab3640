-- The loop's invariant: the value so far and then the digits from here on give the whole answer.
use Rattle.text.proofs.ReadLaws.{Reading}
use Rattle.text.proofs.number.digits_value.Given as goal

abbrev pub invariant-loop-digit : goal.invariant-loop-digit
invariant-loop-digit l = Reading l.s l.value l.digit-index
