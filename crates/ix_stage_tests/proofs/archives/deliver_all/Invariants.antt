use Rattle.std.proofs.Common.{◌≡◌, []}
use Rattle.ix_car.specs.Events.{IsOpen}
use Rattle.ix_car.specs.ArchiveMeaning.{events_of}
use Rattle.ix_stage_tests.proofs.archives.deliver_all.Given as goal

abbrev pub invariant-loop-cid : goal.invariant-loop-cid
invariant-loop-cid g l = IsOpen (events_of l.archive) × (l.archive.failed ≡ [])
