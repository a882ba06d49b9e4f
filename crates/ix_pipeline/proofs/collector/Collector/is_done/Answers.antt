use Rattle.std.proofs.Common.{rules, ◌≡◌, ◌<◌, length, get_or}
use Rattle.ix_pipeline.specs.JobProgress.{IsEnded}
use Rattle.ix_pipeline.proofs.Collecting.{ended_at, ended_more}
use Rattle.ix_pipeline.proofs.collector.Collector.is_done.Goals as goal

pub returns-then-not-is_ended : goal.returns-then-not-is_ended
returns-then-not-is_ended c =
    let lt : c.loop-job.job-index < length c.args.self.now.jobs.items = search rules in
    let at : c.job-item.result ≡ get_or c.args.self.now.jobs.items c.loop-job.job-index c.job-item.result = search rules in
    let not : IsEnded c.job-item.result → ⊥ = search rules in
    ((λ f. absurd (search rules)), λ all. absurd (not (ended_at c.args.self.now.jobs.items c.loop-job.job-index c.job-item.result at lt all)))

pub loop-job-preserved : goal.loop-job-preserved
loop-job-preserved c =
    let lt : c.loop-job.job-index < length c.args.self.now.jobs.items = search rules in
    let at : c.job-item.result ≡ get_or c.args.self.now.jobs.items c.loop-job.job-index c.job-item.result = search rules in
    let ended : IsEnded c.job-item.result = search rules in
    ended_more c.args.self.now.jobs.items c.loop-job.job-index c.job-item.result at lt c.loop-job.invariant ended
