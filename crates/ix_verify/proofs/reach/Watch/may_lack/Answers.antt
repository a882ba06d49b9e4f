use Rattle.std.proofs.Common.{ℕ, ap, ◌∙◌}
use Rattle.ix_verdict.specs.AllowMissing.{allows}
use Rattle.ix_verify.proofs.Distinct.{may-lack}
use Rattle.ix_verify.proofs.reach.Watch.may_lack.Goals as goal

pub returns-then-allows : goal.returns-then-allows
returns-then-allows c =
    let allowed = c.allows.ensures ∙ ap (λ (n : ℕ). allows c.args.self.now.allowed n) c.codec.ensures in
    may-lack c.args.self.now.allowed c.args.self.now.roots.now c.args.cid.now c.allows.result c.is_none.result c.find.result allowed c.if-allows.true c.find.ensures c.is_none.ensures
