-- `decode::repair` meets its contract. The outer loop: the passes left to make give the whole outcome. The inner loop: the first `k`
-- words of this pass are mended.
use mathlib.Core.Path.{◌≡◌, refl, sym, ◌∙◌}
use lib.ListN.{length}
use borrow.Author.Rules.{rules}
use Rattle.rules.specs.Codes.{small_code}
use Rattle.rules.specs.Bits.{frame_of}
use Rattle.rules.proofs.Laws.Shape.{frame_of-square}
use Rattle.laws.specs.Turns.{Whole}
use Rattle.laws.proofs.PassStepLaws.{passing_whole, passing_none, passing_more, passing_all, repairing_none, repairing_more, frame_not, ended_clean, Made, ended_repaired, ended_stuck, ended_spent}
use Rattle.frame.proofs.ReportLaws.{reported}
use Rattle.frame.proofs.decode.repair.Goals as goal
use Rattle.frame.proofs.decode.repair.Goals.{
  then-rows-columns-eq0-2,
  else-rows-columns-eq0-2+then-is_stuck,
  else-rows-columns-eq0-2+else-is_stuck+then-passes-allowance,
}

pub returns-then-rows-columns-eq0 : goal.returns-then-rows-columns-eq0
returns-then-rows-columns-eq0 c =
    let b = c in
    let q = b in
    let k = q.requires.0 in
    reported refl
    (ended_clean small_code _ _ _ q.args.s.now _ _ k.0 k.2 b.bad-rows.ensures.0 b.bad-columns.ensures.0 c.if-rows-columns-eq0.true) refl

pub loop-rows-init : goal.loop-rows-init
loop-rows-init c =
    let b = c in
    let q = b in
    let k = q.requires.0 in
    repairing_none small_code _ _ _ _ k.0 k.2 q.requires.1 (frame_not small_code _ _ _ _ b.bad-rows.ensures.0 b.bad-columns.ensures.0 c.if-rows-columns-eq0.false)

pub loop-k-init : goal.loop-k-init
loop-k-init c = passing_none small_code _ _ _ c.loop-rows.invariant.ready

pub mend_word-changes-requires : goal.mend_word-changes-requires
mend_word-changes-requires c =
    let whole : Whole small_code c.args.n c.loop-k.s = passing_whole small_code c.loop-rows.invariant c.loop-k.invariant in
    (whole, search rules)

pub loop-k-preserved : goal.loop-k-preserved
loop-k-preserved c =
    let whole : Whole small_code c.args.n c.loop-k.s = passing_whole small_code c.loop-rows.invariant c.loop-k.invariant in
    let e = c in
    let m = c.mend_word-changes.ensures in
    passing_more small_code e.loop-k.invariant (frame_of-square _ _) whole e.loop-k-test.true m.0.0 m.0.1 m.1

pub bad-rows-requires-in-loop-rows : goal.bad-rows-requires-in-loop-rows
bad-rows-requires-in-loop-rows c =
    let whole : Whole small_code c.args.n c.loop-k.s = passing_whole small_code c.loop-rows.invariant c.loop-k.invariant in
    whole

pub bad-columns-requires-in-loop-rows : goal.bad-columns-requires-in-loop-rows
bad-columns-requires-in-loop-rows c =
    let whole : Whole small_code c.args.n c.loop-k.s = passing_whole small_code c.loop-rows.invariant c.loop-k.invariant in
    whole

pub loop-rows-preserved : goal.loop-rows-preserved
loop-rows-preserved c =
    let p = c in
    let l = p.loop-rows in
    let a = p.args in
    let made : Made small_code a.n a.allowance (frame_of a.n a.received.now) l.s l.passes p.loop-k.s p.loop-k.changes
    c.bad-rows-in-loop-rows.result c.bad-columns-in-loop-rows.result = let e = c in record {
      before = e.loop-rows.invariant;
      by_columns = _;
      mended = passing_all small_code e.loop-k.invariant e.loop-k-test.false;
      rows_bad = c.bad-rows-in-loop-rows.ensures.0;
      columns_bad = c.bad-columns-in-loop-rows.ensures.0;
    } in
    let d = c in
    repairing_more small_code made refl d.if-rows-columns-eq0-2.false (sym d.is_stuck.ensures ∙ c.if-is_stuck.false) c.if-passes-allowance.false

pub differences-bits-requires : goal.differences-bits-requires
differences-bits-requires c =
    let whole : Whole small_code c.args.n c.loop-k.s = passing_whole small_code c.loop-rows.invariant c.loop-k.invariant in
    let p = c in
    (search rules, search rules, p.requires.0.1, whole.2)

pub shape_of-s : goal.shape_of-s
shape_of-s c =
    let whole : Whole small_code c.args.n c.loop-k.s = passing_whole small_code c.loop-rows.invariant c.loop-k.invariant in
    let p = c in
    let kept : length p.loop-k.s ≡ length p.args.s.now = let p = c in whole.2 ∙ sym p.requires.0.0.0.2 in
    kept

pub returns : goal.returns
returns c =
    let p = c in
    let l = p.loop-rows in
    let a = p.args in
    let made : Made small_code a.n a.allowance (frame_of a.n a.received.now) l.s l.passes p.loop-k.s p.loop-k.changes
    c.bad-rows-in-loop-rows.result c.bad-columns-in-loop-rows.result = let e = c in record {
      before = e.loop-rows.invariant;
      by_columns = _;
      mended = passing_all small_code e.loop-k.invariant e.loop-k-test.false;
      rows_bad = c.bad-rows-in-loop-rows.ensures.0;
      columns_bad = c.bad-columns-in-loop-rows.ensures.0;
    } in
    let m = made in
    let bits = c.differences-bits.ensures in
    elim c.if-rows-columns-eq0-2.branch [
      | then-rows-columns-eq0-2 w ↦ reported w.ending-is (ended_repaired small_code m refl _ bits w.if-rows-columns-eq0-2.true) refl
      | else-rows-columns-eq0-2+then-is_stuck w ↦
          reported w.ending-is
          (ended_stuck small_code m refl _ bits w.if-rows-columns-eq0-2.false (sym w.is_stuck.ensures ∙ w.if-is_stuck.true)) refl
      | else-rows-columns-eq0-2+else-is_stuck+then-passes-allowance w ↦
          reported w.ending-is
          (ended_spent small_code m refl _ bits w.if-rows-columns-eq0-2.false (sym w.is_stuck.ensures ∙ w.if-is_stuck.false)
          w.if-passes-allowance.true) refl
    ]
