-- `unfolding computing` opens every definition of the rules at once, for what antt works out by itself.
-- Assumes nothing.
use mathlib.Core.Bool.{xor}
use Rattle.algebra.specs.Xor.{◌⊕◌}
use Rattle.algebra.specs.Tables.{tab_from, tab, ones, sum, all_below}
use Rattle.algebra.specs.Words.{bit, ◌⊻◌}
use Rattle.algebra.specs.Remainder.{shift, register, descend, binary, systematic}
use Rattle.rules.specs.Field.{poly}
use Rattle.rules.specs.Codes.{g}
use Rattle.rules.specs.Words.{remainder, checks, is_codeword, encode_word, values, exactly, within, answer, is_in, changed, mend}
use Rattle.rules.specs.Frames.{row, transposed, bad_rows, bad_columns, is_frame, is_erased, corner, rows_first}
use Rattle.rules.specs.Bits.{bit_at, word_of, frame_of, packed, word_bytes, bytes_of, spare_ones}
use Rattle.rules.specs.Passes.{pass_rows, pass_columns, pass, differences, passes_from, decoded}
use Rattle.rules.specs.Numbers.{encode_number, encode_output, decode_refusal, decode_said, decode_output, word_refusal, word_said, word_output}
use Rattle.rules.specs.Block.{in_bytes, block, host_decode}
use Rattle.rules.specs.Damage.{spoilt}

unfoldable pub computing : Unit {0}
unfolding ◌⊕◌ tab_from tab ones sum all_below bit ◌⊻◌ xor shift register descend binary systematic poly g remainder checks is_codeword encode_word values exactly within answer is_in changed mend row transposed bad_rows bad_columns is_frame is_erased corner rows_first bit_at word_of frame_of packed word_bytes bytes_of spare_ones pass_rows pass_columns pass differences passes_from decoded encode_number encode_output decode_refusal decode_said decode_output word_refusal word_said word_output in_bytes block host_decode spoilt
computing = tt
