-- For which items a collector has room.
use Rattle.std.proofs.Common.{◌≡◌, List, ◌∷◌, Some, None, sym, ◌∙◌}
use Rattle.std.proofs.lemmas.Option.{slice_get_within, get_or_from_slice_get}
use Rattle.ix_stages.specs.declared.lanes.LaneOut.{LaneOut}
use Rattle.ix_stages.specs.declared.verdicted.Verdicted.{Verdicted}
use Rattle.ix_stages.specs.Lanes.{IsFront, seen_in}
use Rattle.ix_pipeline.specs.declared.job_progress.JobProgress.{JobProgress}
use Rattle.ix_pipeline.specs.declared.collector.Collector.{Collector}
use Rattle.ix_pipeline.specs.JobProgress.{HasRoomFor, IsEnded}
use Rattle.ix_pipeline.specs.Collected.{HasRoom, IsDone}
use Rattle.ix_pipeline.proofs.Collecting.{ended_at}

-- a job whose sink was closed has room for each item
ended_room : (p : JobProgress) (x : Verdicted) → IsEnded p → HasRoomFor p x
ended_room p x e none = let both : None ≡ Some e.0 = sym none ∙ e.1 in cc

-- once every sink was closed there is room for each item
pub done_room : (c : Collector) (x : Verdicted) → IsDone c → HasRoom c x
done_room c x done job p of at = ended_room p x (ended_at c.jobs.items job p (sym (get_or_from_slice_get c.jobs.items job p p at)) (slice_get_within c.jobs.items job p at) done)

-- the next item of a lane is the first that the receiver has seen
pub front_is : (l : LaneOut) (x y : Verdicted) (rest : List Verdicted) → IsFront l x → seen_in l ≡ y ∷ rest → x ≡ y
front_is l x y rest front seen = let both : x ∷ front.0 ≡ y ∷ rest = front.1 ∙ seen in cc
