-- `text::write::put_decimal` meets its contract.
use native.Mathlib.Omega.{arith}
use Rattle.text.proofs.DecimalLaws.{digit_room, digit_laid, digits_room, digits_laid}
use Rattle.text.proofs.write.+put_decimal.Goals as goal

pub bounds-out-at : goal.bounds-out-at
bounds-out-at t c = digit_room c.args.out.now c.args.at c.args.x c.requires c.if-x-lt10.true

pub returns-then-x-lt10 : goal.returns-then-x-lt10
returns-then-x-lt10 t c = digit_laid c.args.out.now c.args.at c.args.x c.requires c.if-x-lt10.true

pub put_decimal-end-requires : goal.put_decimal-end-requires
put_decimal-end-requires t c =
    let r = digits_room c.args.out.now c.args.at c.args.x c.requires c.if-x-lt10.false in
    (omega (arith, c.decreases, c.if-x-lt10.false), omega (arith, r))

pub bounds-out-end : goal.bounds-out-end
bounds-out-end t c =
    let r = digits_room c.args.out.now c.args.at c.args.x c.requires c.if-x-lt10.false in
    omega (arith, r, c.put_decimal-end.ensures.0, c.put_decimal-end.auto.out)

pub returns : goal.returns
returns t c =
    digits_laid c.args.out.now c.args.at c.args.x c.requires _ _ c.put_decimal-end.ensures c.if-x-lt10.false
