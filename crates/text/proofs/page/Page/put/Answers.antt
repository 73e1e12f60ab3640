-- `text::page::Page::put` meets its contract.
use Rattle.std.proofs.Common.{◌++◌, ap, ◌∙◌}
use Rattle.text.proofs.LaidLaws.{lays_taken}
use Rattle.text.proofs.page.Page.put.Goals as goal

pub returns : goal.returns
returns g c = lays_taken _ _ _ _ _ c.put-self-inside.ensures ∙ ap (λ t. t ++ c.args.text.now) c.self.view_is
