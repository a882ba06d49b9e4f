use Rattle.std.proofs.Common.{◌≡◌, subst, true, false}
use Rattle.ix_own_archive.specs.Requests.{asked_of}
use Rattle.ix_own_archive.specs.Streaming.{Stream, TakesOn, StopsAt, IsStoppedAt}
use Rattle.ix_own_archive.specs.Taking.{stream_of}
use Rattle.ix_own_archive.proofs.StreamPieces.{takes-on, stops-at, stays-stopped, stopped-at, held-on, held-stopped}
use Rattle.ix_own_archive.proofs.stream.StreamReceiver.take.Goals as goal

pub returns-then-self : goal.returns-then-self
returns-then-self g c =
    let s = c.self.inside in
    record {
      taken = tt;
      stops = stays-stopped (asked_of s.request) s.bytes s.receiver s.ended c.args.self.now c.place.result c.self.view_is c.if-self.true c.self.invariant c.place.ensures;
      fault = subst (λ (x : Stream). x.ended ≡ true) c.self.view_is c.if-self.true;
    }

pub returns-in-Ok : goal.returns-in-Ok
returns-in-Ok g c =
    let s = c.self.inside in
    let asked = asked_of s.request in
    let new = c.take_piece.new.bytes in
    record {
      taken = subst (λ (x : Stream). TakesOn x c.args.piece.now (stream_of asked new false)) c.self.view_is (takes-on asked s.bytes c.args.piece.now new c.take_piece.new.receiver s.ended c.if-self.false c.in-Ok.ensures.taken);
      stops = tt;
      fault = tt;
    }

pub returns-in-Err : goal.returns-in-Err
returns-in-Err g c =
    let s = c.self.inside in
    let asked = asked_of s.request in
    let new = c.take_piece.new.bytes in
    let piece = c.args.piece.now in
    let reason = c.in-Err.reason in
    let place = c.place-in-Err.result in
    record {
      taken = tt;
      stops = subst (λ (x : Stream). StopsAt x (stream_of asked new true) place) c.self.view_is (stops-at asked s.bytes piece new s.ended reason place c.if-self.false c.place-in-Err.ensures c.in-Err.ensures.stops);
      fault = subst (λ (x : Stream). IsStoppedAt x piece place reason) c.self.view_is (stopped-at asked s.bytes piece new s.ended reason place c.place-in-Err.ensures c.in-Err.ensures.stops);
    }

pub invariant_of-self : goal.invariant_of-self
invariant_of-self g c =
    let s = c.self.inside in
    held-on (asked_of s.request) s.bytes c.args.piece.now c.take_piece.new.bytes c.take_piece.new.receiver c.in-Ok.ensures.taken

pub invariant_of-self-in-Err : goal.invariant_of-self-in-Err
invariant_of-self-in-Err g c =
    let s = c.self.inside in
    held-stopped (asked_of s.request) s.bytes c.args.piece.now c.take_piece.new.bytes c.take_piece.new.receiver c.in-Err.reason c.in-Err.ensures.stops
