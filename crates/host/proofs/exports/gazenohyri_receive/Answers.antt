-- `exports::gazenohyri_receive` meets its contract: the library's answer to the state in the number, as a number.
use Rattle.std.proofs.Common.{rules}
use mathlib.Core.Path.{subst⁻¹}
use Rattle.rules.specs.Codes.{small_code}
use Rattle.rules.specs.Numbers.{Exit}
use Rattle.rules.proofs.Laws.SmallCode.{sound_small}
use Rattle.receiver.specs.Pieces.{Told}
use Rattle.receiver.specs.Packed.{Fits, host_receive}
use Rattle.receiver.proofs.Packing.{packing}
use Rattle.host.proofs.exports.gazenohyri_receive.Goals as goal

pub packed-requires : goal.packed-requires
packed-requires c =
    subst⁻¹ (λ (e : Exit Told). Fits e.said) (rw c.in-Ok.is at c.receive.ensures)
    (rw c.state_in-before.ensures ((packing small_code sound_small).fits c.args.state c.ranges.state.fits _ _))

pub returns-in-Ok : goal.returns-in-Ok
unfolding host_receive
returns-in-Ok c = let p = rw c.in-Ok.is at c.receive.ensures in search (rules, p)

pub packed-requires-in-Err : goal.packed-requires-in-Err
packed-requires-in-Err c =
    rw c.number.ensures
    (subst⁻¹ (λ (e : Exit Told). Fits e.said) (rw c.in-Err.is at c.receive.ensures)
    (rw c.state_in-before.ensures ((packing small_code sound_small).fits c.args.state c.ranges.state.fits _ _)))

pub returns-in-Err : goal.returns-in-Err
unfolding host_receive
returns-in-Err c = let p = rw c.in-Err.is at c.receive.ensures in search (rules, p)
