use Rattle.std.proofs.Common.{ℕ, subst}
use Rattle.std.specs.Prelude.{IfSome}
use Rattle.std.specs.Global.{Vec}
use Rattle.std.specs.Arc.{arc_value}
use Rattle.ix_store.specs.Cursor.{EndsAt}
use Rattle.ix_store.proofs.Ends.{link_stands}
use Rattle.ix_store.proofs.cursor.Cursor.cid_before.Goals as goal

pub within-requires-clause-place : goal.within-requires-clause-place
within-requires-clause-place c =
    let whole = (arc_value c.in-Some.shared.now).items in
    link_stands whole c.in-Some.end c.args.self.now c.args.cid.now c.args.rest.now
    (subst (EndsAt whole c.in-Some.end) c.self.view_is (subst (λ o. IfSome o (λ p. EndsAt (arc_value {X = Vec ℕ} p.0.now).items p.1 c.self.inside.bytes.now)) c.in-Some.is c.self.invariant)) c.requires.place
