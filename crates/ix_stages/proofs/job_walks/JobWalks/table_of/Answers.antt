use Rattle.std.proofs.Common.{List, ap, subst}
use Rattle.std.specs.Slice.{IsItemAt}
use Rattle.ix_prefetch.specs.Expansions.{ExpansionTable}
use Rattle.ix_stages.specs.JobWalks.{WalksMeaning}
use Rattle.ix_stages.proofs.Tables.{table_store, table_job}
use Rattle.ix_stages.proofs.job_walks.JobWalks.table_of.Goals as goal

pub returns-clause-store : goal.returns-clause-store
returns-clause-store c =
    let s = c.self.inside in
    table_store s.store.now s.jobs.now.items s.tables.items c.args.number c.get.result c.args.self.now.store c.self.invariant (subst (λ (ts : List ExpansionTable). IsItemAt ts c.args.number c.get.result) c.deref.ensures.value c.get.ensures.lookup)
    (ap (λ (w : WalksMeaning). w.store) c.self.view_is)

pub returns-clause-job : goal.returns-clause-job
returns-clause-job c =
    let s = c.self.inside in
    table_job s.store.now s.jobs.now.items s.tables.items c.args.number c.get.result c.args.self.now.jobs c.self.invariant (subst (λ (ts : List ExpansionTable). IsItemAt ts c.args.number c.get.result) c.deref.ensures.value c.get.ensures.lookup)
    (ap (λ (w : WalksMeaning). w.jobs) c.self.view_is)
