-- `text::page::Page::put_decimal` meets its contract.
use Rattle.std.proofs.Common.{◌++◌, ap, ◌∙◌}
use Rattle.textrules.specs.Text.{decimal}
use Rattle.text.proofs.LaidLaws.{lays_taken}
use Rattle.text.proofs.page.Page.put_decimal.Goals as goal

pub returns : goal.returns
returns g c = lays_taken _ _ _ _ _ c.put_decimal-self-inside.ensures ∙ ap (λ t. t ++ decimal c.args.x) c.self.view_is
