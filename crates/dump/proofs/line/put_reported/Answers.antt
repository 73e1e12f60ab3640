-- `dump::line::put_reported` meets its contract.
use mathlib.Core.Path.{sym, ap, ◌∙◌}
use mathlib.Core.List.{◌++◌}
use native.Mathlib.Omega.{arith}
use Rattle.textrules.specs.Programs.{questioned}
use Rattle.textrules.specs.Dump.{record_text, line_text}
use Rattle.text.proofs.RecordLaws.{line_unread, line_within, line_not_hex, line_record}
use Rattle.dump.proofs.line.put_reported.Goals as goal

pub returns-in_default : goal.returns-in_default
returns-in_default c =
    let a = c.args in
    c.put_questioned.ensures ∙ ap (λ t. t ++ questioned a.number) c.requires.empty ∙ ap (line_text a.number) (sym (line_unread a.line.now c.in_default.ensures))

pub returns-then-not-is_hex : goal.returns-then-not-is_hex
returns-then-not-is_hex c =
    let a = c.args in
    let bad = line_not_hex a.line.now c.in-Some.ensures (sym c.is_hex.ensures ∙ c.if-not-is_hex.true) in
    c.put_questioned-then-not-is_hex.ensures ∙ ap (λ t. t ++ questioned a.number) c.requires.empty ∙ ap (line_text a.number) (sym bad)

pub decode_digits-decoded-requires-clause-digits_len_bound : goal.decode_digits-decoded-requires-clause-digits_len_bound
decode_digits-decoded-requires-clause-digits_len_bound c = omega (arith, line_within c.args.line.now c.in-Some.ensures, c.requires.line_len_bound)

pub returns : goal.returns
returns c =
    let a = c.args in
    let h = c.in-Some.head in
    let says = line_record a.line.now c.in-Some.ensures c.requires.line_len_bound (sym c.is_hex.ensures ∙ c.if-not-is_hex.false) in
    c.put_decoded.ensures ∙ ap (record_text h.number) c.decode_digits-decoded.ensures ∙ ap (line_text a.number) (sym says)
