use Rattle.std.proofs.Common.{◌≡◌, ◌<◌, ◌+◌, ℕ, length, refl, ap, ◌∙◌, arith}
use Rattle.std.proofs.lemmas.Option.{slice_get_read}
use Rattle.ix_stages.proofs.Tables.{tables_none, tables_push}
use Rattle.ix_stages.proofs.job_walks.tables_of.Goals as goal

pub loop-job-init : goal.loop-job-init
loop-job-init g c = record {
  tables = tables_none c.args.store.now c.args.jobs.now c.in-Ok.tables.items c.in-Ok.ensures.items;
  room = c.in-Ok.ensures.exact;
  counted = c.in-Ok.ensures.len;
}

pub loop-job-preserved : goal.loop-job-preserved
loop-job-preserved g c =
    let store = c.args.store.now in
    let jobs = c.args.jobs.now in
    let h = c.loop-job.invariant in
    let within : c.loop-job.job-index < length jobs = omega arith in
    let counted : length c.loop-job.tables.items ≡ c.loop-job.job-index = omega (arith, c.loop-job.tables.ok.0, h.counted) in
    record {
      tables =
          tables_push store jobs c.loop-job.tables.items c.push_reserved.new.self.items c.loop-job.job-index c.job-item.result c.in-Some-prefetch.table h.tables counted
          (slice_get_read jobs (length jobs) c.loop-job.job-index c.job-item.result refl within c.job-item.is) c.in-Some-prefetch.ensures.store c.in-Some-prefetch.ensures.job c.push_reserved.ensures.items;
      room = c.push_reserved.ensures.capacity ∙ h.room;
      counted = c.push_reserved.ensures.len ∙ ap (λ (n : ℕ). n + 1) h.counted;
    }
