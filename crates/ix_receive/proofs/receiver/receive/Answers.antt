use Rattle.std.proofs.Common.{◌≡◌, ◌+◌, true, false, map, sym, ap, ◌∙◌, subst, refl, arith}
use Rattle.std.specs.Prelude.{Some}
use Rattle.std.proofs.lemmas.Result.{err_from_is_err_and}
use Rattle.ix_verdict.specs.Verdict.{verdict_with, is_sound}
use Rattle.ix_receive.specs.declared.fault.ReceiveFault.TheVariants.{Unsound, InBase, Repeated, OutOfOrder}
use Rattle.ix_receive.specs.declared.traversal.Traversal.{Traversal}
use Rattle.ix_store.specs.Store.{Blocks}
use Rattle.ix_receive.specs.Base.{store_of}
use Rattle.ix_receive.specs.Traversal.{Expands, as_pending}
use Rattle.ix_known.specs.Known.{AreSound}
use Rattle.ix_known.proofs.Lists.{in-neither}
use Rattle.ix_receive.proofs.Receptions.{new-cid, now-sound, is-received}
use Rattle.ix_receive.proofs.Refusals.{rightly, rightly-not-found}
use Rattle.ix_receive.proofs.receiver.receive.Goals as goal

pub returns-then-not-is_sound-clause-rightly : goal.returns-then-not-is_sound-clause-rightly
returns-then-not-is_sound-clause-rightly c =
    rightly c.args.sections.now.0 c.args.asked.now.job.now c.args.asked.now.allowed c.args.sections.now.1 c.args.t.now.visits (c.args.cid, c.args.block.now) c.requires.receiving.received c.requires.receiving.least false (Unsound c.args.verdict)
    (c.requires.judged, sym c.is_sound.ensures ∙ c.if-not-is_sound.true)

pub returns-then-is_in_base-clause-refused : goal.returns-then-is_in_base-clause-refused
returns-then-is_in_base-clause-refused c = sym c.is_in_base.ensures ∙ c.if-is_in_base.true

pub returns-then-is_in_base-clause-rightly : goal.returns-then-is_in_base-clause-rightly
returns-then-is_in_base-clause-rightly c =
    rightly c.args.sections.now.0 c.args.asked.now.job.now c.args.asked.now.allowed c.args.sections.now.1 c.args.t.now.visits (c.args.cid, c.args.block.now) c.requires.receiving.received c.requires.receiving.least false InBase
    (sym c.is_in_base.ensures ∙ c.if-is_in_base.true)

pub returns-then-has_come-clause-refused : goal.returns-then-has_come-clause-refused
returns-then-has_come-clause-refused c = sym c.has_come.ensures ∙ c.if-has_come.true

pub returns-then-has_come-clause-rightly : goal.returns-then-has_come-clause-rightly
returns-then-has_come-clause-rightly c =
    rightly c.args.sections.now.0 c.args.asked.now.job.now c.args.asked.now.allowed c.args.sections.now.1 c.args.t.now.visits (c.args.cid, c.args.block.now) c.requires.receiving.received c.requires.receiving.least false Repeated
    (sym c.has_come.ensures ∙ c.if-has_come.true)

pub returns-then-contains-clause-refused : goal.returns-then-contains-clause-refused
returns-then-contains-clause-refused c = (
  in-neither c.args.sections.now.0 c.args.sections.now.1 c.args.cid (sym c.is_in_base.ensures ∙ c.if-is_in_base.false) (sym c.has_come.ensures ∙ c.if-has_come.false),
  c.requires.receiving.passing.skips.met c.args.cid (sym c.contains.ensures ∙ c.if-contains.true),
)

pub returns-then-contains-clause-rightly : goal.returns-then-contains-clause-rightly
returns-then-contains-clause-rightly c =
    rightly c.args.sections.now.0 c.args.asked.now.job.now c.args.asked.now.allowed c.args.sections.now.1 c.args.t.now.visits (c.args.cid, c.args.block.now) c.requires.receiving.received c.requires.receiving.least false OutOfOrder (
      in-neither c.args.sections.now.0 c.args.sections.now.1 c.args.cid (sym c.is_in_base.ensures ∙ c.if-is_in_base.false) (sym c.has_come.ensures ∙ c.if-has_come.false),
      c.requires.receiving.passing.skips.met c.args.cid (sym c.contains.ensures ∙ c.if-contains.true),
    )

pub advance_to-requires-clause-first : goal.advance_to-requires-clause-first
advance_to-requires-clause-first c =
    let sound : is_sound (verdict_with c.args.cid (Some c.args.block.now)) ≡ true = ap is_sound (sym c.requires.judged) ∙ sym c.is_sound.ensures ∙ c.if-not-is_sound.false in
    new-cid c.args.asked.now.job.now c.args.asked.now.allowed (store_of c.args.sections.now) c.args.t.now (c.args.cid, c.args.block.now) c.requires.receiving.passing sound
    (in-neither c.args.sections.now.0 c.args.sections.now.1 c.args.cid (sym c.is_in_base.ensures ∙ c.if-is_in_base.false) (sym c.has_come.ensures ∙ c.if-has_come.false)) (sym c.contains.ensures ∙ c.if-contains.false)

pub returns-in_err-link-clause-rightly : goal.returns-in_err-link-clause-rightly
returns-in_err-link-clause-rightly c =
    let p = err_from_is_err_and c.from_residual.result c.from_residual.ensures.1 in
    rw (p.1, p.2)
    (rightly-not-found c.args.sections.now.0 c.args.asked.now.job.now c.args.asked.now.allowed c.args.sections.now.1 c.args.t.now.visits (c.args.cid, c.args.block.now) c.requires.receiving.received c.requires.receiving.least c.in_err-link.field-0.0 c.in_err-link.ensures.refused)

pub expand_link-requires-clause-depth : goal.expand_link-requires-clause-depth
expand_link-requires-clause-depth c =
    let few = c.in_ok-link.ensures.found.few in
    let low = c.in_ok-link.ensures.found.before.traversed.deep.0 in
    omega (arith, few, low)

pub expand_link-requires-clause-sound : goal.expand_link-requires-clause-sound
expand_link-requires-clause-sound c =
    let job = c.args.asked.now.job.now in
    let sound : is_sound (verdict_with c.args.cid (Some c.args.block.now)) ≡ true = ap is_sound (sym c.requires.judged) ∙ sym c.is_sound.ensures ∙ c.if-not-is_sound.false in
    subst (λ (s : Blocks × Blocks). AreSound (store_of s)) (sym c.in_ok-add.ensures)
    (now-sound c.args.sections.now.0 job c.args.asked.now.allowed c.args.sections.now.1 (c.args.cid, c.args.block.now) (as_pending c.in_ok-link.link) c.args.t.now c.advance_to.new.t c.requires.receiving c.in_ok-link.ensures.found sound (sym c.is_in_base.ensures ∙ c.if-is_in_base.false))

pub overflow_add-t : goal.overflow_add-t
overflow_add-t c = let few = c.in_ok-link.ensures.found.few in omega (arith, few)

pub returns-clause-received : goal.returns-clause-received
returns-clause-received c =
    let job = c.args.asked.now.job.now in
    let sound : is_sound (verdict_with c.args.cid (Some c.args.block.now)) ≡ true = ap is_sound (sym c.requires.judged) ∙ sym c.is_sound.ensures ∙ c.if-not-is_sound.false in
    let added = c.in_ok-add.ensures in
    let t : Traversal = c.advance_to.new.t in
    let u : Traversal = record { expanded = c.expand_link.new.expanded; links = c.expand_link.new.waiting; roots = t.roots; visits = t.visits + 1; skips = t.skips } in
    is-received c.args.sections.now.0 job c.args.asked.now.allowed c.args.sections.now.1 (c.args.cid, c.args.block.now) (as_pending c.in_ok-link.link) c.args.t.now t c.requires.receiving c.in_ok-link.ensures.found sound (sym c.is_in_base.ensures ∙ c.if-is_in_base.false) u
    (subst (λ (s : Blocks × Blocks). Expands (store_of s) (as_pending c.in_ok-link.link) t.expanded (map as_pending t.links.items) u.expanded (map as_pending u.links.items)) added c.in_ok-expand_link.ensures) refl refl refl c.add.new.self (ap (λ (s : Blocks × Blocks). s.0) added) (ap (λ (s : Blocks × Blocks). s.1) added)
