use Rattle.std.proofs.Common.{set, subst}
use Rattle.std.proofs.lemmas.List.{get_or_default}
use Rattle.ix_selector.specs.Reentering.{StartIsJoined}
use Rattle.ix_selector.proofs.EnteredOnce.{start-joined}
use Rattle.ix_selector.proofs.reentry.join_start.Goals as goal

pub returns-in-Some-get_mut-clause-joined : goal.returns-in-Some-get_mut-clause-joined
returns-in-Some-get_mut-clause-joined c =
    let items = c.as_slice-places.result.now in
    subst (λ l. StartIsJoined l (set l c.in-Ok.found c.in-Some.both) c.args.start) c.as_slice-places.ensures
    (start-joined items c.in-Ok.found c.args.start c.in-Some.both _ c.in-Ok.ensures.bound (get_or_default items c.in-Ok.found _ _ c.in-Ok.ensures.bound) c.in-Some.ensures.some)
