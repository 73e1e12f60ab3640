-- `text::hex::put_hex` meets its contract. The loop's invariant: the digits of the first i bytes are laid.
use lib.ListN.{length}
use Rattle.text.proofs.HexLaws.{HexLaying}
use Rattle.text.proofs.hex.put_hex.Given as goal

abbrev pub invariant-loop-i : goal.invariant-loop-i
invariant-loop-i l = HexLaying l.initial.out l.at l.bytes (length l.bytes) l.i l.out
