use Rattle.ix_own_archive.specs.Requests.{asked_of}
use Rattle.ix_own_archive.proofs.StreamPieces.{held-released}
use Rattle.ix_own_archive.proofs.stream.StreamReceiver.release.Goals as goal

pub invariant_of-self : goal.invariant_of-self
invariant_of-self c =
    let s = c.self.inside in
    held-released (asked_of s.request) s.bytes c.release.new.self s.receiver s.ended c.release.ensures c.self.invariant
