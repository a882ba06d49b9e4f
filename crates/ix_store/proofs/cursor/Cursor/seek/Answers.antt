use Rattle.std.proofs.Common.{ℕ, List, subst, sym}
use Rattle.std.specs.Global.{Vec}
use Rattle.std.specs.Arc.{arc_value}
use Rattle.ix_store.specs.Cursor.{EndsWith}
use Rattle.ix_store.proofs.Ends.{still_ends}
use Rattle.ix_store.proofs.cursor.Cursor.seek.Goals as goal

pub invariant_of-self : goal.invariant_of-self
invariant_of-self c =
    still_ends (λ a. (arc_value {X = Vec ℕ} a.now).items) c.self.inside.end c.self.inside.bytes.now c.args.rest.now (subst (λ (l : List ℕ). EndsWith l c.args.rest.now) (sym c.self.view_is) c.requires) c.self.invariant
