-- `text::hex::put_hex` meets its contract. The loop's invariant: the digits of the first i bytes are laid.
use Rattle.text.proofs.HexLaws.{hex_none, hex_room, hex_next, hex_all}
use Rattle.text.proofs.hex.put_hex.Goals as goal

pub loop-i-init : goal.loop-i-init
loop-i-init c = hex_none _ _ _ c.requires

pub bounds-out-at-in-loop-i : goal.bounds-out-at-in-loop-i
bounds-out-at-in-loop-i c =
    hex_room _ c.loop-i.invariant c.hex_digit.result c.loop-i-test.true

pub loop-i-preserved : goal.loop-i-preserved
loop-i-preserved c =
    hex_next _ c.loop-i.invariant c.loop-i-test.true c.hex_digit.ensures c.hex_digit-in-loop-i.ensures

pub returns : goal.returns
returns c = hex_all _ c.loop-i.invariant c.loop-i-test.false
