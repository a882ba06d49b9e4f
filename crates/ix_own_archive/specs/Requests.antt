-- What is asked of a stream, as contracts see it.
use Rattle.ix_known.specs.Known.{known_blocks_of}
use Rattle.ix_own_archive.specs.declared.stream_request.StreamRequest.{StreamRequest}
use Rattle.ix_own_archive.specs.Streaming.{Asked}

abbrev pub asked_of : StreamRequest → Asked
asked_of r = record { base = known_blocks_of r.base; job = r.job.now; allowed = r.allowed; header = r.header; limits = r.limits }
