-- What `write` hands out, turn by turn, is the dump of all the data that were read.
-- Assumes nothing.
use Rattle.textrules.specs.Factory.{writer}
use Rattle.factory.proofs.Dumped.{writer_regular}
use Rattle.input.proofs.Streams.{Streams, streams}

pub write_streams : Streams writer
write_streams = streams writer writer_regular
