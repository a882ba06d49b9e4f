use Rattle.std.proofs.Common.{◌≡◌, ℕ, ◌-◌, List, length, drop, sym, ◌∙◌, ap, subst, arith}
use Rattle.std.specs.Prelude.{Option, IfSome}
use Rattle.std.specs.List.{AllByRecursion}
use Rattle.ix_cid.specs.Cid.{IsCid}
use Rattle.ix_own_archive.specs.Ahead.{IsFrontVerdict}
use Rattle.ix_own_archive.specs.Requests.{asked_of}
use Rattle.ix_own_archive.specs.Taking.{IsNext, IsNotNext, HasTaken}
use Rattle.ix_own_archive.proofs.Ahead.{rest-at}
use Rattle.ix_own_archive.proofs.Streams.{stops-here, one-more-checked, moved-more}
use Rattle.ix_own_archive.proofs.stream_parts.take_sections.Goals as goal

pub next_section-requires : goal.next_section-requires
next_section-requires c =
    let old = c.args.bytes.now.rest in
    let now = c.loop-length.bytes.rest in
    let moves = c.loop-length.invariant.0 in
    let place : c.saturating_sub.result ≡ length old - length now = omega (arith, c.saturating_sub.ensures, ap length c.rest-size.ensures, ap length c.rest-rest.ensures) in
    let at : drop c.saturating_sub.result old ≡ c.rest-rest.result.now = ap (λ n. drop n old) place ∙ rest-at old moves.moved now moves.rest ∙ sym c.rest-rest.ensures in
    subst (λ (l : List ℕ). IfSome c.known_at-known.result (IsFrontVerdict l)) at (c.known_at-known.ensures old c.requires.judged)

pub loop-length-preserved : goal.loop-length-preserved
loop-length-preserved c =
    let asked = asked_of c.args.request.now in
    let old = c.loop-length.bytes in
    let new = c.advance.new.self in
    let r = c.loop-length.receiver in
    let s = c.next_section.new.receiver in
    let n = c.in-Ok-Some.length in
    let next = subst (λ (o : Option ℕ). IsNext asked.limits.section c.rest-rest.result.now r s o) c.in-Ok-Some.field-0-is c.in-Ok-Some.ensures.next in
    let taken = subst (λ (l : List ℕ). HasTaken asked.limits.section l r s n) c.rest-rest.ensures next in
    (moved-more c.args.bytes.now old new n c.loop-length.invariant.0 c.advance.ensures, one-more-checked asked old new r s n c.loop-length.invariant.1 taken c.advance.ensures)

pub returns-in-Err-clause-stops : goal.returns-in-Err-clause-stops
returns-in-Err-clause-stops c =
    let asked = asked_of c.args.request.now in
    let roots = subst (AllByRecursion IsCid) c.roots.ensures c.roots_are_cids.ensures in
    stops-here asked c.loop-length.bytes c.loop-length.receiver c.in-Err.reason (c.received_one_by_one.ensures.each asked.base) roots c.loop-length.invariant.1
    (subst (λ (l : List ℕ). IsNotNext asked.limits.section l c.loop-length.receiver c.in-Err.reason) c.rest-rest.ensures c.in-Err.ensures.refused)
