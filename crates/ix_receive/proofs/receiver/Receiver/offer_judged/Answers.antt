use Rattle.std.proofs.Common.{subst}
use Rattle.std.proofs.lemmas.Result.{err_from_is_err_and}
use Rattle.ix_receive.specs.Reception.{IsRefused}
use Rattle.ix_receive.proofs.Refusals.{refused}
use Rattle.ix_receive.proofs.receiver.Receiver.offer_judged.Goals as goal

pub returns-in_err-receive-clause-refused : goal.returns-in_err-receive-clause-refused
returns-in_err-receive-clause-refused c =
    let r = c.self.inside in
    let p = err_from_is_err_and c.from_residual.result c.from_residual.ensures.1 in
    rw (p.1, p.2)
    (subst (λ v. IsRefused v (c.args.cid, c.args.block.now) c.in_err-receive.field-0.0) c.self.view_is
    (refused r.sections.0 r.asked.job.now r.asked.allowed r.sections.1 r.traversal.visits r.ended (c.args.cid, c.args.block.now) c.in_err-receive.field-0.0 c.in_err-receive.ensures.refused))
