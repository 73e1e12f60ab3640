-- RULES 9: the report, whatever the pieces: the program that reports on a dump is one of those that `lines` speaks of.
-- Assumes nothing.
use mathlib.Core.Path.{ap}
use mathlib.Core.List.{cons-ne-nil}
use native.Mathlib.Omega.{arith}
use Rattle.textrules.specs.Dump.{line_text, repair}
use Rattle.textrules.proofs.Promises.Records.{line_long}
use Rattle.lines.specs.Say.{Regular}
use Rattle.lines.proofs.Pieces.{Pieces, pieces}

pub repair_regular : Regular repair
repair_regular = record {
  header_some = cons-ne-nil _ _;
  header_short = omega arith;
  too_long = λ k s h. ap (line_text k) (line_long s h);
}

pub reported : Pieces repair
reported = pieces repair repair_regular
