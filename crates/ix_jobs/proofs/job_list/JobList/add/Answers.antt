use Rattle.std.proofs.Common.{[], ◌∷◌, ◌++◌, ap, ◌∙◌}
use Rattle.ix_jobs.proofs.Named.{names-push}
use Rattle.ix_jobs.proofs.job_list.JobList.add.Goals as goal

pub invariant_of-self-2 : goal.invariant_of-self-2
invariant_of-self-2 c =
    names-push c.self.inside.names c.insert.new.self c.self.inside.jobs.items c.push_reserved.new.self.items c.args.job c.in_ok-name.name c.self.invariant
    (c.in_ok-name.ensures.ok ∙ c.name.ensures) c.in_ok-insert.ensures.updates
    (c.push_reserved.ensures.items ∙ ap (λ l. l ++ c.args.job ∷ []) c.reserve.ensures.items)
