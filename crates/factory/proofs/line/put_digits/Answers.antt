-- `factory::line::put_digits` meets its contract.
use native.Mathlib.Omega.{arith}
use borrow.Author.Rules.{rules}
use Rattle.factory.proofs.line.put_digits.Goals as goal

pub put_into-requires : goal.put_into-requires
put_into-requires c = record { empty = search rules; nine_digits = search rules; digits_value = search rules; digits_in_bounds = (omega arith, search rules) }
