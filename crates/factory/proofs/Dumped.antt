-- RULES 10: the dump, whatever the pieces: the program that writes it is one of those that `lines` speaks of.
-- Assumes nothing.
use mathlib.Core.Path.{ap}
use mathlib.Core.List.{cons-ne-nil}
use native.Mathlib.Omega.{arith}
use Rattle.textrules.specs.Factory.{data_text, writer}
use Rattle.textrules.proofs.Promises.DataRecords.{data_long}
use Rattle.lines.specs.Say.{Regular}
use Rattle.lines.proofs.Pieces.{Pieces, pieces}

pub writer_regular : Regular writer
writer_regular = record {
  header_some = cons-ne-nil _ _;
  header_short = omega arith;
  too_long = λ k s h. ap (data_text k) (data_long s h);
}

pub dumped : Pieces writer
dumped = pieces writer writer_regular
