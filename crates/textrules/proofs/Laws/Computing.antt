-- `unfolding computing` opens every definition of texts at once, and those of frames, for what antt works out by itself.
-- Assumes nothing.
use Rattle.rules.proofs.Laws.Computing.{computing as of_frames}
use Rattle.textrules.specs.Text.{same, lines, whole_lines, fields, every, is_decimal, value_from, digits, is_hex, hex_bytes, hex_text}
use Rattle.textrules.specs.Programs.{output_from, output, output_cut}
use Rattle.textrules.specs.Dump.{line_of}
use Rattle.textrules.specs.Factory.{data_of}

unfoldable pub computing : Unit {0}
unfolding of_frames same lines whole_lines fields every is_decimal value_from digits is_hex hex_bytes hex_text output_from output output_cut line_of data_of
computing = tt
