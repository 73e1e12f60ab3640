-- `text::hex::bytes_of` meets its contract.
use Rattle.std.proofs.Common.{sym, ap, ◌∙◌, arith}
use lib.Seq.{take_all}
use Rattle.textrules.specs.Text.{hex_bytes}
use Rattle.text.specs.Laid.{laid}
use Rattle.text.proofs.LaidLaws.{laid_none}
use Rattle.text.proofs.ReadLaws.{pair_good, pair_laid, hex_bytes_length}
use Rattle.text.proofs.hex.bytes_of.Goals as goal

pub loop-i-init : goal.loop-i-init
loop-i-init c = sym (laid_none c.args.frame.now 0)

pub hex_value-high-requires : goal.hex_value-high-requires
hex_value-high-requires c =
    let k = c.as_chunks.ensures in (pair_good c.args.digits.now k.front k.front_len c.loop-i-test.true c.requires.digits_value).0

pub hex_value-low-requires : goal.hex_value-low-requires
hex_value-low-requires c =
    let k = c.as_chunks.ensures in (pair_good c.args.digits.now k.front k.front_len c.loop-i-test.true c.requires.digits_value).1

pub loop-i-preserved : goal.loop-i-preserved
loop-i-preserved c =
    let k = c.as_chunks.ensures in
    pair_laid c.args.digits.now k.front k.front_len c.loop-i-test.true c.args.frame.now c.requires.digits_in_bounds c.loop-i.invariant c.hex_value-high.ensures.0 c.hex_value-low.ensures.0

pub returns-clause-frame_after : goal.returns-clause-frame_after
returns-clause-frame_after c =
    let d = c.args.digits.now in
    c.loop-i.invariant
    ∙ ap (laid c.args.frame.now 0) (take_all c.loop-i.i (hex_bytes d) (omega (arith, hex_bytes_length d, c.as_chunks.ensures.front_len, c.loop-i-test.false)))
