use Rattle.std.proofs.Common.{rules, ◌≡◌, ◌≤◌, sym, ◌∙◌, ap, subst, take_all, map, length, List}
use Rattle.ix_car.specs.declared.sink.End.{End}
use Rattle.ix_pipeline.specs.declared.job_progress.JobProgress.{JobProgress}
use Rattle.ix_pipeline.specs.Collected.{EachEnded}
use Rattle.ix_pipeline.proofs.Finished.{end_or, ends_known}
use Rattle.ix_pipeline.proofs.collector.Collector.ends.Goals as goal

pub returns : goal.returns
returns c =
    let past : length c.args.self.now.jobs.items ≤ c.loop-job.job-index = search rules in
    let all : map end_or c.args.self.now.jobs.items ≡ c.loop-job.ends.items = ap (λ (l : List JobProgress). map end_or l) (sym (take_all c.loop-job.job-index c.args.self.now.jobs.items past)) ∙ sym c.loop-job.invariant.ends in
    subst (λ (l : List End). EachEnded c.args.self.now.jobs.items l) all (ends_known c.args.self.now.jobs.items c.requires.done)
