-- `lines::state::take` meets its contract.
use mathlib.Core.Path.{sym, ap, ◌∙◌}
use native.Mathlib.Omega.{arith}
use Rattle.lines.specs.declared.state.State.{State}
use Rattle.lines.specs.Stream.{keeping}
use Rattle.lines.proofs.StopLaws.{stopped_going, stopped_rejected, takes, all_taken, lf_taken, other_taken}
use Rattle.lines.proofs.state.take.Goals as goal

pub returns-then-state : goal.returns-then-state
returns-then-state c = takes _ _ _ _ _ (sym (stopped_rejected c.args.header.now (keeping c.args.state c.args.line.now) c.args.piece.now c.if-state.true))

pub loop-i-init : goal.loop-i-init
loop-i-init c = record { going = c.if-state.false; rest = sym (stopped_going c.args.header.now (keeping c.args.state c.args.line.now) c.args.piece.now c.if-state.false) }

pub returns-then-byte-eq10 : goal.returns-then-byte-eq10
returns-then-byte-eq10 c =
    let l = c.loop-i in
    rw (c.next_line.ensures, c.closed_line.ensures) (takes _ _ _ _ _ (lf_taken _ (keeping l.current l.line) _ l.i (omega arith) l.invariant.going c.if-byte-eq10.true ∙ l.invariant.rest))

pub loop-i-preserved : goal.loop-i-preserved
loop-i-preserved c =
    let l = c.loop-i in
    record {
      going = ap (λ (s : State). s.rejected) c.longer_line-current.ensures;
      rest = other_taken _ (keeping l.current l.line) _ l.i (omega arith) l.invariant.going c.if-byte-eq10.false _ _ c.keep.ensures c.longer_line-current.ensures ∙ l.invariant.rest;
    }

pub returns : goal.returns
returns c =
    let l = c.loop-i in
    takes _ _ _ _ _ (all_taken _ (keeping l.current l.line) _ l.i (omega arith) (omega arith) ∙ l.invariant.rest)
