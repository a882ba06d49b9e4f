use Rattle.std.proofs.Common.{◌∙◌, ◌<◌, ◌∷◌, [], List, ℕ, length, sym, ap, subst, arith}
use Rattle.ix_walk.specs.Walking.{waiting}
use Rattle.ix_prefetch.specs.declared.link.Link.{Link}
use Rattle.ix_prefetch.specs.Expansions.{ExpansionTable, residual_in, table_of, AreExpansions}
use Rattle.ix_prefetch.specs.Growing.{Adds}
use Rattle.ix_prefetch.proofs.Tables.{cid_more, written_more}
use Rattle.ix_prefetch.proofs.Adding.{on_err}
use Rattle.ix_prefetch.proofs.expansions.Expansions.push_written.Goals as goal

pub returns-in_err-push-clause-err : goal.returns-in_err-push-clause-err
returns-in_err-push-clause-err c =
    let s = c.self.inside in
    on_err c.from_residual.result (ap (λ (cs : List (List ℕ)). table_of s.store.now s.job.now s.residuals.items cs s.links.items) c.in_err-push.ensures.items ∙ c.self.view_is)

pub invariant_of-self-in_err-push-2 : goal.invariant_of-self-in_err-push-2
invariant_of-self-in_err-push-2 c =
    let s = c.self.inside in
    subst (λ (ls : List Link). AreExpansions s.store.now s.job.now s.residuals.items c.push.new.self.items ls s.pairs.items) (sym c.in_err-push-2.ensures.items)
    (cid_more s.store.now s.job.now s.residuals.items s.cids.items c.push.new.self.items s.links.items s.pairs.items c.args.cid c.in_ok-push.ensures.items c.self.invariant).0

pub returns-in_err-push-2-clause-err : goal.returns-in_err-push-2-clause-err
returns-in_err-push-2-clause-err c =
    let s = c.self.inside in
    on_err c.from_residual-in_err-push-2.result
    (ap (λ (ls : List Link). table_of s.store.now s.job.now s.residuals.items c.push.new.self.items ls) c.in_err-push-2.ensures.items
    ∙ (cid_more s.store.now s.job.now s.residuals.items s.cids.items c.push.new.self.items s.links.items s.pairs.items c.args.cid c.in_ok-push.ensures.items c.self.invariant).1 ∙ c.self.view_is)

pub invariant_of-self-2 : goal.invariant_of-self-2
invariant_of-self-2 c =
    let s = c.self.inside in
    let lt = subst (λ (t : ExpansionTable). c.args.residual < length t.residuals) (sym c.self.view_is) c.requires in
    (written_more s.store.now s.job.now s.residuals.items s.cids.items c.push.new.self.items s.links.items c.push-2.new.self.items s.pairs.items c.args.residual c.len-number.result c.args.cid c.in_ok-push.ensures.items
    (omega (arith, c.len-number.ensures, s.cids.ok.0)) c.in_ok-push-2.ensures.items lt c.self.invariant).0

pub returns-clause-added : goal.returns-clause-added
returns-clause-added c =
    let s = c.self.inside in
    let lt = subst (λ (t : ExpansionTable). c.args.residual < length t.residuals) (sym c.self.view_is) c.requires in
    subst (λ (t : ExpansionTable). Adds t (table_of s.store.now s.job.now s.residuals.items c.push.new.self.items c.push-2.new.self.items) (waiting (residual_in t c.args.residual) 0 c.args.cid ∷ [])) c.self.view_is
    (written_more s.store.now s.job.now s.residuals.items s.cids.items c.push.new.self.items s.links.items c.push-2.new.self.items s.pairs.items c.args.residual c.len-number.result c.args.cid c.in_ok-push.ensures.items
    (omega (arith, c.len-number.ensures, s.cids.ok.0)) c.in_ok-push-2.ensures.items lt c.self.invariant).1
