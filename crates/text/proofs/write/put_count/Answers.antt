-- `text::write::put_count` meets its contract.
use Rattle.text.proofs.LaidLaws.{lays_then}
use Rattle.text.proofs.write.put_count.Goals as goal

pub returns : goal.returns
returns c = lays_then _ _ _ _ _ _ _ _ c.put-next.ensures c.put_decimal.ensures
