-- `text::hex::is_hex` meets its contract.
use Rattle.std.proofs.Common.{rules, tests}
use Rattle.std.proofs.lemmas.Iterator.{YieldsList-from_slice}
use Rattle.std.proofs.lemmas.Iterator.Search.{all_from_yields_List}
use Rattle.textrules.specs.Text.{is_hex_digit}
use Rattle.text.proofs.ReadLaws.{hex_even, hex_odd}
use Rattle.text.proofs.hex.is_hex.Goals as goal

pub returns-then-s-eq0 : goal.returns-then-s-eq0
returns-then-s-eq0 c =
    hex_even c.args.s.now c.if-s-eq0.true
    (all_from_yields_List is_hex_digit _ _ _ c.all.ensures.ran (YieldsList-from_slice c.args.s.now cc) (λ x b q k. search (rules, tests)))

pub returns-else-s-eq0 : goal.returns-else-s-eq0
returns-else-s-eq0 c = hex_odd c.args.s.now c.if-s-eq0.false
