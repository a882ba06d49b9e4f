use Rattle.std.proofs.Common.{drop}
use Rattle.ix_jobs.proofs.Listed.{HasSoFar}
use Rattle.ix_jobs.proofs.places.insert_listed.Given as goal

abbrev pub invariant-loop-cid : goal.invariant-loop-cid
invariant-loop-cid l = HasSoFar l.store l.cids (drop l.cid-index l.cids) l.initial.known l.known
