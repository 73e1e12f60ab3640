-- `factory::line::put_line` meets its contract.
use mathlib.Core.Path.{sym, ap, ◌∙◌}
use mathlib.Core.List.{◌++◌}
use native.Mathlib.Omega.{arith}
use Rattle.textrules.specs.Programs.{questioned}
use Rattle.textrules.specs.Factory.{data_text}
use Rattle.text.proofs.DataLaws.{data_unopened, data_within, data_not_hex, data_record}
use Rattle.factory.proofs.LineLaws.{number_short}
use Rattle.factory.proofs.line.put_line.Goals as goal

pub returns-in_default : goal.returns-in_default
returns-in_default c =
    let a = c.args in
    c.put_questioned.ensures ∙ ap (λ t. t ++ questioned a.number) c.requires.empty ∙ ap (data_text a.number) (sym (data_unopened a.line.now c.in_default.ensures))

pub returns-then-not-is_hex : goal.returns-then-not-is_hex
returns-then-not-is_hex c =
    let a = c.args in
    let bad = data_not_hex a.line.now c.in-Some.ensures (sym c.is_hex.ensures ∙ c.if-not-is_hex.true) in
    c.put_questioned-then-not-is_hex.ensures ∙ ap (λ t. t ++ questioned a.number) c.requires.empty ∙ ap (data_text a.number) (sym bad)

pub put_digits-requires : goal.put_digits-requires
put_digits-requires c =
    let hex = sym c.is_hex.ensures ∙ c.if-not-is_hex.false in
    record {
      empty = c.requires.empty;
      nine_digits = number_short c.args.line.now (data_record c.args.line.now c.in-Some.ensures c.requires.line_len_bound hex);
      digits_value = hex;
      digits_len_bound = omega (arith, data_within c.args.line.now c.in-Some.ensures, c.requires.line_len_bound);
    }

pub returns : goal.returns
returns c =
    let a = c.args in
    let says = data_record a.line.now c.in-Some.ensures c.requires.line_len_bound (sym c.is_hex.ensures ∙ c.if-not-is_hex.false) in
    c.put_digits.ensures ∙ ap (data_text a.number) (sym says)
