use Rattle.std.proofs.Common.{◌≡◌, [], arith}
use Rattle.std.proofs.lemmas.List.{length-append}
use Rattle.ix_car.specs.ArchiveMeaning.{events_of}
use Rattle.ix_car.proofs.Each.{each_push}
use Rattle.ix_export_tests.proofs.archives.archives_of.Goals as goal

pub loop-job-preserved : goal.loop-job-preserved
loop-job-preserved c =
    let was = c.loop-job.invariant in
    let made = c.in_ok-archive_of.ensures in
    let more = each_push (λ a. (events_of a ≡ []) × (a.failed ≡ [])) c.loop-job.archives.items c.in_ok-archive_of.field-0 was.1 (made.events, made.failed) in
    rw c.in_ok-push.ensures.items (simp length-append (omega (arith, was.0)), more)
