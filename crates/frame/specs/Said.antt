-- From the code's answers to what the rules say of decoding.
use Rattle.std.specs.Prelude.{Bool, true, false, Result, Ok, Err}
use Rattle.rules.specs.Passes as passes
use Rattle.rules.specs.Numbers as rules
use Rattle.rules.specs.Numbers.{Figures, figures_of, undecoded}
use Rattle.word.specs.declared.refusal.Refusal.{Refusal}
use Rattle.word.specs.Refused.{number}
use Rattle.frame.specs.declared.decode.Ending.{Ending}
use Rattle.frame.specs.declared.decode.Ending.TheVariants.{Clean, Repaired, Stuck, Spent}
use Rattle.frame.specs.declared.decode.Report.{Report}

-- each ending by its own name
abbrev pub ending_in : Ending → passes.Ending
ending_in Clean = passes.clean
ending_in Repaired = passes.repaired
ending_in Stuck = passes.stuck
ending_in Spent = passes.spent

-- each value from the field of its name
abbrev pub told_in : Report → rules.Decoded
told_in r = rules.ended (ending_in r.ending) r.passes r.bits r.rows r.columns

-- a refusal with its number, erased among them, or what the passes gave
abbrev pub said : Result Report Refusal → rules.Decoded
said (Err e) = undecoded (number e)
said (Ok r) = told_in r

-- stuck and spent
abbrev pub is_failure : Ending → Bool
is_failure Clean = false
is_failure Repaired = false
is_failure Stuck = true
is_failure Spent = true

-- the number, and the values that stand beside it
abbrev pub figures : Result Report Refusal → Figures
figures r = figures_of (said r)
