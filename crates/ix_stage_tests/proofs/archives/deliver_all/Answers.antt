use Rattle.std.proofs.Common.{sym, subst}
use Rattle.ix_car.specs.Events.{IsOpen}
use Rattle.ix_car.specs.ArchiveMeaning.{events_of}
use Rattle.ix_car.proofs.Delivered.{open-push}
use Rattle.ix_stage_tests.proofs.archives.deliver_all.Goals as goal

pub loop-cid-preserved : goal.loop-cid-preserved
loop-cid-preserved g c =
    (subst (λ l. IsOpen l) (sym c.in-Ok.ensures.ok) (open-push (events_of c.loop-cid.archive) _ c.loop-cid.invariant.0), c.in-Ok.ensures.ok_failed)
