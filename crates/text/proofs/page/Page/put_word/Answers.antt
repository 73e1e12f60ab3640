-- `text::page::Page::put_word` meets its contract.
use Rattle.std.proofs.Common.{◌∷◌, ◌++◌, ap, ◌∙◌}
use Rattle.textrules.specs.Text.{tabulator}
use Rattle.text.proofs.LaidLaws.{lays_taken}
use Rattle.text.proofs.page.Page.put_word.Goals as goal

pub returns : goal.returns
returns g c = lays_taken _ _ _ _ _ c.put_word-self-inside.ensures ∙ ap (λ t. t ++ (tabulator ∷ c.args.word.now)) c.self.view_is
