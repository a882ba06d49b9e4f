use Rattle.std.proofs.Common.{◌≡◌, ◌<◌, ◌^◌, [], length, sym, ◌∙◌, subst, arith, rules}
use Rattle.std.specs.List.{AllByRecursion}
use Rattle.std.proofs.lemmas.Bool.{eqb-false, eqb-true}
use Rattle.std.proofs.lemmas.List.{nil_from_length}
use Rattle.ix_cid.specs.Cid.{IsCid}
use Rattle.ix_own_archive.specs.Requests.{asked_of}
use Rattle.ix_own_archive.proofs.StreamPieces.{kept-within, end-before, end-within, whole-stream, unfinished-stream}
use Rattle.ix_own_archive.proofs.stream_parts.end_stream.Goals as goal

pub returns-then-parts-eq0-clause-cut : goal.returns-then-parts-eq0-clause-cut
returns-then-parts-eq0-clause-cut c =
    let small : length c.rest-rest.result.now < 2 ^ 63 = search rules in
    end-before (asked_of c.args.request.now) c.args.bytes.now c.args.receiver.now c.rest-rest.result.now c.rest-rest.ensures small (sym c.parts.ensures ∙ c.if-parts-eq0.true) c.requires

pub returns-then-not-is_empty-clause-cut : goal.returns-then-not-is_empty-clause-cut
returns-then-not-is_empty-clause-cut c =
    let roots = subst (AllByRecursion IsCid) c.roots.ensures c.roots_are_cids.ensures in
    let parts : 0 < c.args.bytes.now.parts = omega (arith, c.if-parts-eq0.false, c.parts.ensures) in
    let other : length c.rest-rest.result.now ≡ 0 → ⊥ = eqb-false (length c.rest-rest.result.now) 0 (sym c.is_empty.ensures ∙ c.if-not-is_empty.true) in
    let some : 0 < length c.args.bytes.now.rest = subst (λ l. 0 < length l) c.rest-rest.ensures (omega (arith, other)) in
    end-within (asked_of c.args.request.now) c.args.bytes.now c.args.receiver.now (c.received_one_by_one.ensures.each (asked_of c.args.request.now).base) roots some parts c.requires

pub returns-in-Ok-clause-whole : goal.returns-in-Ok-clause-whole
returns-in-Ok-clause-whole c =
    let parts : 0 < c.args.bytes.now.parts = omega (arith, c.if-parts-eq0.false, c.parts.ensures) in
    let has = kept-within (asked_of c.args.request.now) c.args.bytes.now c.args.receiver.now parts c.requires in
    let none : c.args.bytes.now.rest ≡ [] = sym c.rest-rest.ensures ∙ nil_from_length c.rest-rest.result.now (eqb-true (length c.rest-rest.result.now) 0 (sym c.is_empty.ensures ∙ c.if-not-is_empty.false)) in
    whole-stream (asked_of c.args.request.now) c.args.bytes.now.checked c.args.bytes.now.rest c.args.receiver.now has.0.bytes none c.in-Ok.counts c.in-Ok.ensures.whole

pub returns-in-Err-clause-cut : goal.returns-in-Err-clause-cut
returns-in-Err-clause-cut c =
    let roots = subst (AllByRecursion IsCid) c.roots.ensures c.roots_are_cids.ensures in
    let parts : 0 < c.args.bytes.now.parts = omega (arith, c.if-parts-eq0.false, c.parts.ensures) in
    let has = kept-within (asked_of c.args.request.now) c.args.bytes.now c.args.receiver.now parts c.requires in
    let none : c.args.bytes.now.rest ≡ [] = sym c.rest-rest.ensures ∙ nil_from_length c.rest-rest.result.now (eqb-true (length c.rest-rest.result.now) 0 (sym c.is_empty.ensures ∙ c.if-not-is_empty.false)) in
    unfinished-stream (asked_of c.args.request.now) c.args.bytes.now.checked c.args.bytes.now.rest c.args.receiver.now has.0.bytes none c.in-Err.fault (c.received_one_by_one.ensures.each (asked_of c.args.request.now).base) roots c.in-Err.ensures.refused
