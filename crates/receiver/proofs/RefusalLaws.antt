-- Which number a piece gets, and what a call makes of it.
-- Assumes nothing.
use Rattle.std.proofs.Common.{rules}
use mathlib.Core.Path.{◌≡◌}
use mathlib.Core.Logic.{◌≢◌}
use mathlib.Core.Bool.{true, false}
use mathlib.Core.List.{List}
use Prim.Native.Nat.{ℕ, ◌+◌, ◌≤◌, ◌<◌}
use lib.ListN.{length}
use borrow.Author.Tests.{eq-eqb, ne_eqb, lt-ltb}
use Rattle.rules.specs.Codes.{Code}
use Rattle.rules.specs.Numbers.{outside, frame_bytes}
use Rattle.receiver.specs.declared.state.State.{State}
use Rattle.receiver.specs.Pieces.{refusal, taken, turned_away, receive}

module _ (code : Code) (s : State) (piece lent : ℕ) where
  -- what number 0 says
  pub accepted :
      refusal code s piece lent ≡ 0 → (outside code s.n ≡ false) × (lent ≡ frame_bytes s.n) × (s.bytes + piece ≤ frame_bytes s.n)
  unfolding refusal
  accepted z = search rules

  pub refusal_1 : outside code s.n ≡ true → refusal code s piece lent ≡ 1
  unfolding refusal
  refusal_1 h = rw h

  pub refusal_2 : outside code s.n ≡ false → lent ≢ frame_bytes s.n → refusal code s piece lent ≡ 2
  unfolding refusal
  refusal_2 h a = rw (h, ne_eqb lent (frame_bytes s.n) a)

  pub refusal_14 :
      outside code s.n ≡ false → lent ≡ frame_bytes s.n → frame_bytes s.n < s.bytes + piece → refusal code s piece lent ≡ 14
  unfolding refusal
  refusal_14 h a b = rw (h, eq-eqb lent (frame_bytes s.n) a, lt-ltb (frame_bytes s.n) (s.bytes + piece) b)

  pub refusal_0 :
      outside code s.n ≡ false → lent ≡ frame_bytes s.n → s.bytes + piece ≤ frame_bytes s.n → refusal code s piece lent ≡ 0
  unfolding refusal
  refusal_0 h a b = search rules

  pub refusal_few : refusal code s piece lent ≤ 14
  unfolding refusal
  refusal_few = search rules

module _ (code : Code) (s : State) (piece frame : List ℕ) where
  pub receive_taken : refusal code s (length piece) (length frame) ≡ 0 → receive code s piece frame ≡ taken s piece frame
  unfolding receive
  receive_taken h = rw h

  pub receive_refused :
      (k : ℕ) → refusal code s (length piece) (length frame) ≡ k → k ≢ 0 → receive code s piece frame ≡ turned_away k s frame
  unfolding receive
  receive_refused k h z = rw (h, ne_eqb k 0 z)
