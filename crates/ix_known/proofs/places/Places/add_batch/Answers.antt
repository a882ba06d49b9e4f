use Rattle.std.proofs.Common.{◌≡◌, ◌<◌, List, length, map, sym, ap, subst, arith}
use Rattle.std.specs.Prelude.{slice_index_or}
use Rattle.std.proofs.lemmas.List.{length-map, take_all}
use Rattle.ix_store.specs.Store.{Blocks}
use Rattle.ix_known.specs.declared.finding.Finding.{Finding}
use Rattle.ix_known.specs.declared.finding.Finding.TheVariants.{Nothing}
use Rattle.ix_known.specs.Places.{AddsBlocks}
use Rattle.ix_known.specs.Findings.{pair_of, IsFindingAt}
use Rattle.ix_known.proofs.Decided.{taken-none, taken-more}
use Rattle.ix_known.proofs.places.Places.add_batch.Goals as goal

pub loop-finding-init : goal.loop-finding-init
loop-finding-init g c = taken-none c.args.store.now c.args.self.now (map pair_of c.args.sections.now)

pub loop-finding-preserved : goal.loop-finding-preserved
loop-finding-preserved g c =
    let store = c.args.store.now in
    let decided = c.args.self.now.decided in
    let pairs = map pair_of c.args.sections.now in
    let k = c.loop-finding.finding-index in
    let findings = c.deref-finding-items.result.now in
    let long : length pairs ≡ length c.args.sections.now = length-map c.args.sections.now pair_of in
    let here : k < length c.args.sections.now = omega (arith, ap length c.deref-finding-items.ensures.value, c.in_ok-findings.ensures.len, c.loop-finding-test.true) in
    let found : IsFindingAt store decided pairs k (slice_index_or findings k Nothing) =
    subst (λ (l : List Finding). IsFindingAt store decided pairs k (slice_index_or l k Nothing)) (sym c.deref-finding-items.ensures.value) (c.in_ok-findings.ensures.each k Nothing here) in
    taken-more store c.args.self.now c.loop-finding.self c.take_in.new.self pairs k (slice_index_or findings k Nothing) (omega (arith, here, long)) found c.in_ok-take_in.ensures.taken c.in_ok-take_in.ensures.kept
    c.loop-finding.invariant

pub returns : goal.returns
returns g c =
    let pairs = map pair_of c.args.sections.now in
    let all : length pairs ≡ length c.args.sections.now = length-map c.args.sections.now pair_of in
    subst (λ (l : Blocks). AddsBlocks c.args.store.now c.args.self.now c.loop-finding.self l) (take_all c.loop-finding.finding-index pairs (omega (arith, all, c.in_ok-findings.ensures.len, c.deref-finding-items.ensures.len, c.loop-finding-test.false)))
    c.loop-finding.invariant.added
