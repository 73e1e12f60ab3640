-- `WordAt::checks`: the loop keeps the remainder and the ones of the bits that it has passed, and where the next bit stands.
use mathlib.Core.Path.{◌≡◌}
use Prim.Native.Nat.{◌+◌, ◌*◌}
use Rattle.rules.specs.Codes.{small_code}
use Rattle.laws.proofs.CheckLoopLaws.{Passed}
use Rattle.word.proofs.at.WordAt.checks.Given as goal

abbrev pub invariant-loop : goal.invariant-loop
invariant-loop l = Passed small_code l.bytes l.self.start l.self.step l.counter l.remainder l.ones × (l.x ≡ l.self.start + l.counter * l.self.step)
