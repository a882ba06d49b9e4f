use Rattle.std.proofs.Common.{◌≡◌, ◌∙◌, ◌++◌, ◌∷◌, [], List, sym, ap, subst, arith}
use Rattle.ix_selector.specs.Residual.{Place}
use Rattle.ix_prefetch.specs.Expansions.{ExpansionTable, IsMet, table_of}
use Rattle.ix_prefetch.specs.Growing.{Adds}
use Rattle.ix_prefetch.proofs.Tables.{residual_more, last_numbered}
use Rattle.ix_prefetch.proofs.expansions.Expansions.add_residual.Goals as goal

pub invariant_of-self-2 : goal.invariant_of-self-2
invariant_of-self-2 c =
    let s = c.self.inside in
    let pushed : c.push.new.self.items ≡ s.residuals.items ++ c.args.residual.now ∷ [] = c.in_ok-push.ensures.items ∙ ap (λ (r : List Place). s.residuals.items ++ r ∷ []) c.in_ok-try_clone-2.ensures.same in
    (residual_more s.store.now s.job.now s.residuals.items c.push.new.self.items s.cids.items s.links.items s.pairs.items c.args.residual.now pushed
    (subst (λ (t : ExpansionTable). IsMet t.job.selector c.args.residual.now) (sym c.self.view_is) c.requires) c.self.invariant).0

pub returns-clause-adds : goal.returns-clause-adds
returns-clause-adds c =
    let s = c.self.inside in
    let pushed : c.push.new.self.items ≡ s.residuals.items ++ c.args.residual.now ∷ [] = c.in_ok-push.ensures.items ∙ ap (λ (r : List Place). s.residuals.items ++ r ∷ []) c.in_ok-try_clone-2.ensures.same in
    subst (λ (t : ExpansionTable). Adds t (table_of s.store.now s.job.now c.push.new.self.items s.cids.items s.links.items) []) c.self.view_is
    (residual_more s.store.now s.job.now s.residuals.items c.push.new.self.items s.cids.items s.links.items s.pairs.items c.args.residual.now pushed
    (subst (λ (t : ExpansionTable). IsMet t.job.selector c.args.residual.now) (sym c.self.view_is) c.requires) c.self.invariant).1

pub returns-clause-number : goal.returns-clause-number
returns-clause-number c =
    let s = c.self.inside in
    let pushed : c.push.new.self.items ≡ s.residuals.items ++ c.args.residual.now ∷ [] = c.in_ok-push.ensures.items ∙ ap (λ (r : List Place). s.residuals.items ++ r ∷ []) c.in_ok-try_clone-2.ensures.same in
    last_numbered s.residuals.items c.push.new.self.items c.args.residual.now c.len-number.result pushed (omega (arith, c.len-number.ensures, s.residuals.ok.0))
