-- `dump::line::decode_digits` meets its contract.
use native.Mathlib.Omega.{arith}
use Rattle.dump.proofs.line.decode_digits.Goals as goal

pub decode_into-requires : goal.decode_into-requires
decode_into-requires c = record {
  digits_value = c.requires.digits_value;
  digits_in_bounds = (omega (arith, c.requires.digits_len_bound), omega (arith, c.requires.digits_len_bound));
}
