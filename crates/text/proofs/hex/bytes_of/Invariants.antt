-- The loop's invariant: the first i bytes are laid at the start of the frame.
use Rattle.std.proofs.Common.{◌≡◌, take}
use Rattle.textrules.specs.Text.{hex_bytes}
use Rattle.text.specs.Laid.{laid}
use Rattle.text.proofs.hex.bytes_of.Given as goal

abbrev pub invariant-loop-i : goal.invariant-loop-i
invariant-loop-i l = l.frame ≡ laid l.initial.frame 0 (take l.i (hex_bytes l.digits))
