use Rattle.std.proofs.Common.{subst, refl}
use Rattle.std.proofs.lemmas.Result.{err_from_is_err_and}
use Rattle.ix_receive.specs.declared.counts.Counts.{Counts}
use Rattle.ix_receive.specs.Reception.{IsWhole, IsUnfinished}
use Rattle.ix_receive.proofs.Receptions.{is-whole}
use Rattle.ix_receive.proofs.Refusals.{unfinished}
use Rattle.ix_receive.proofs.receiver.Receiver.close.Goals as goal

pub pass_all-requires : goal.pass_all-requires
pass_all-requires c = (c.self.invariant c.if-self.false).passing

pub returns-in_err-pass_all-clause-refused : goal.returns-in_err-pass_all-clause-refused
returns-in_err-pass_all-clause-refused c =
    let r = c.self.inside in
    let p = err_from_is_err_and c.from_residual.result c.from_residual.ensures.1 in
    rw (p.1, p.2)
    (subst (λ v. IsUnfinished v c.in_err-pass_all.field-0.0) c.self.view_is
    (unfinished r.sections.0 r.asked.job.now r.asked.allowed r.sections.1 r.traversal.visits r.ended c.in_err-pass_all.field-0.0 c.in_err-pass_all.ensures.refused))

pub returns-clause-whole : goal.returns-clause-whole
returns-clause-whole c =
    let r = c.self.inside in
    let t = c.pass_all.new.t in
    let counts : Counts = record { visits = t.visits; missing = t.skips.absent; unread = t.skips.unread } in
    subst (λ v. IsWhole v counts) c.self.view_is
    (is-whole r.sections.0 r.asked.job.now r.asked.allowed r.sections.1 r.traversal t r.ended counts (c.self.invariant c.if-self.false) c.in_ok-pass_all.ensures.whole c.in_ok-check_roots.ensures.pass refl refl refl)
