-- `exports::gazenohyri_decode` meets its contract: a block of another length is refused, else it has the values of what was decoded.
use native.Mathlib.Omega.{arith}
use Rattle.host.proofs.FiguresLaws.{refused_block, put_block}
use Rattle.host.proofs.exports.gazenohyri_decode.Goals as goal

pub returns-then-block-ne-BLOCK_BYTES : goal.returns-then-block-ne-BLOCK_BYTES
returns-then-block-ne-BLOCK_BYTES c =
    rw c.number.ensures (refused_block _ _ _ _ _ (λ e. omega (arith, c.if-block-ne-BLOCK_BYTES.true, e)))

pub returns : goal.returns
returns c =
    put_block _ _ _ _ _ c.decode.result _ _ _ (omega (arith, c.if-block-ne-BLOCK_BYTES.false)) c.decode.ensures
    c.figures_of-f.ensures c.put_figures.ensures
