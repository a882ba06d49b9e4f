use Rattle.std.proofs.Common.{subst}
use Rattle.ix_own_archive.specs.Requests.{asked_of}
use Rattle.ix_own_archive.specs.Streaming.{Stream, AreKeptOf}
use Rattle.ix_own_archive.proofs.StreamPieces.{cut-at, are-kept}
use Rattle.ix_own_archive.proofs.stream.StreamReceiver.finish_kept.Goals as goal

pub returns-clause-fault : goal.returns-clause-fault
returns-clause-fault c =
    let s = c.self.inside in
    cut-at (asked_of s.request) s.bytes s.ended c.args.self c.place-place.result c.in-Err.reason c.self.view_is c.place-place.ensures c.in-Err.ensures.cut

pub returns-in-Ok-clause-kept : goal.returns-in-Ok-clause-kept
returns-in-Ok-clause-kept c =
    let s = c.self.inside in
    let kept = c.into_kept-in-Ok.result in
    λ _. subst (λ (x : Stream). AreKeptOf x.asked x.checked kept) c.self.view_is
    (are-kept (asked_of s.request) s.bytes s.receiver c.end_stream.new.receiver kept (c.self.invariant.going c.if-ended.false) c.end_stream.ensures.sections c.into_kept-in-Ok.ensures)

pub returns-clause-kept : goal.returns-clause-kept
returns-clause-kept c =
    let s = c.self.inside in
    let kept = c.into_kept-in-Err.result in
    λ _. subst (λ (x : Stream). AreKeptOf x.asked x.checked kept) c.self.view_is
    (are-kept (asked_of s.request) s.bytes s.receiver c.end_stream.new.receiver kept (c.self.invariant.going c.if-ended.false) c.end_stream.ensures.sections c.into_kept-in-Err.ensures)
