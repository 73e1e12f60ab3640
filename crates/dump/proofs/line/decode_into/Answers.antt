-- `dump::line::decode_into` meets its contract.
use Rattle.text.proofs.ReadLaws.{hex_part, hex_part-length}
use Rattle.dump.proofs.ReportTextLaws.{said_alike}
use Rattle.dump.proofs.line.decode_into.Goals as goal

pub returns : goal.returns
returns c =
    let a = c.args in
    let b = c.bytes_of-bytes in
    said_alike _ _ _ _ _ _ c.decode.ensures.0
    (hex_part a.digits.now _ _ b.result b.ensures.value b.ensures.frame_after)
    (hex_part-length a.digits.now a.mended.now b.result b.ensures.value c.requires.digits_in_bounds.1)
