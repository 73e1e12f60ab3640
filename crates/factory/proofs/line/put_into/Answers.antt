-- `factory::line::put_into` meets its contract.
use mathlib.Core.Path.{ap, ◌∙◌}
use Rattle.textrules.specs.Factory.{given_text}
use Rattle.text.proofs.ReadLaws.{hex_part}
use Rattle.factory.proofs.line.put_into.Goals as goal

pub returns : goal.returns
returns c = c.put_encoded.ensures ∙ ap (given_text c.args.number c.args.n) (hex_part c.args.digits.now _ _ c.bytes_of-bytes.result c.bytes_of-bytes.ensures.value c.bytes_of-bytes.ensures.frame_after)
