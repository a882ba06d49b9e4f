use Rattle.std.proofs.Common.{rules, tests, ◌≡◌, not, length, ap, refl, arith}
use Rattle.std.specs.List.{filter}
use Rattle.std.proofs.lemmas.Fn.{filter_same}
use Rattle.ix_car.specs.declared.archive.Skip.{Skip}
use Rattle.ix_jobs.specs.Missing.{is_absent}
use Rattle.ix_jobs.proofs.AbsentSkips.{parted}
use Rattle.ix_jobs.proofs.absent.without_absent.Goals as goal

pub returns-clause-left : goal.returns-clause-left
returns-clause-left c = record {
  end = refl;
  counts = refl;
  skips = filter_same _ (λ (skip : Skip). not (is_absent c.args.which c.args.job.now skip)) _ (λ x b f k. search (rules, tests)) _ _ c.retain.ensures.filtered;
}

pub returns-clause-count : goal.returns-clause-count
returns-clause-count c =
    let kept : c.retain.new.self.items ≡ filter (λ (skip : Skip). not (is_absent c.args.which c.args.job.now skip)) c.args.outcome.skips.items = filter_same _ (λ (skip : Skip). not (is_absent c.args.which c.args.job.now skip)) _ (λ x b f k. search (rules, tests)) _ _ c.retain.ensures.filtered in
    let all = parted (is_absent c.args.which c.args.job.now) c.args.outcome.skips.items in
    let now = ap length kept in
    omega (arith, all, now)
