-- `text::page::Page::put_hex` meets its contract.
use Rattle.std.proofs.Common.{◌++◌, ap, ◌∙◌}
use Rattle.textrules.specs.Text.{hex_text}
use Rattle.text.proofs.LaidLaws.{lays_taken}
use Rattle.text.proofs.page.Page.put_hex.Goals as goal

pub returns : goal.returns
returns g c = lays_taken _ _ _ _ _ c.put_hex-self-inside.ensures ∙ ap (λ t. t ++ hex_text c.args.bytes.now) c.self.view_is
