-- `text::number::number` meets its contract.
use Rattle.std.proofs.Common.{sym, ◌∙◌, arith}
use borrow.Author.Tests.{eqb-true, eqb-false}
use Rattle.text.proofs.ReadLaws.{number_empty, number_long, number-zero, number_digits}
use Rattle.text.proofs.number.number.Goals as goal
use Rattle.text.proofs.number.number.Goals.{then-is_empty-via-then-is_empty, then-is_empty-via-else-is_empty+then-s-gt-MOST_DIGITS, else-s-gt1-via-then-s-gt1+else-s-eq48, else-s-gt1-via-else-s-gt1}

pub returns-then-is_empty : goal.returns-then-is_empty
returns-then-is_empty c =
    let s = c.args.s.now in
    elim c.then-is_empty.branch [
      | then-is_empty-via-then-is_empty w ↦ number_empty s (eqb-true _ 0 (sym c.is_empty.ensures ∙ w.if-is_empty.true))
      | then-is_empty-via-else-is_empty+then-s-gt-MOST_DIGITS w ↦ number_long s w.if-s-gt-MOST_DIGITS.true
    ]

pub returns-then-s-eq48 : goal.returns-then-s-eq48
returns-then-s-eq48 c = number-zero c.args.s.now c.if-s-gt1.true c.if-s-eq48.true

pub returns : goal.returns
returns c =
    c.digits_value.ensures
    ∙ number_digits c.args.s.now (eqb-false _ 0 (sym c.is_empty.ensures ∙ c.if-is_empty.false)) c.if-s-gt-MOST_DIGITS.false
    (elim c.else-s-gt1.branch [
      | else-s-gt1-via-then-s-gt1+else-s-eq48 w ↦ λ l. w.if-s-eq48.false
      | else-s-gt1-via-else-s-gt1 w ↦ λ l. absurd (omega (arith, w.if-s-gt1.false, l))
    ])
