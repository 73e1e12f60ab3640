-- What `repair` hands out, turn by turn, is the report of all that was read.
-- Assumes nothing.
use Rattle.textrules.specs.Dump.{repair}
use Rattle.dump.proofs.Reported.{repair_regular}
use Rattle.input.proofs.Streams.{Streams, streams}

pub repair_streams : Streams repair
repair_streams = streams repair repair_regular
