-- `WordAt::encode`: the places passed are the codeword's, and what is left is what the other places owe.
use Rattle.laws.proofs.SettleLaws.{Settling}
use Rattle.rules.specs.Codes.{small_code}
use Rattle.word.proofs.at.WordAt.encode.Given as goal

abbrev pub invariant-loop-i : goal.invariant-loop-i
invariant-loop-i l = Settling small_code l.self.n l.initial.bytes l.self.start l.self.step l.i l.bytes l.left
