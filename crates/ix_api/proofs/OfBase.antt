-- What an export leaves without the blocks at positions that are those of a base's sound blocks.
use Rattle.std.proofs.Common.{◌≡◌, ℕ, List, [], ◌∷◌, ◌++◌, ap, ◌∙◌, subst}
use Rattle.std.specs.Prelude.{Option, Some, Result, Ok, Err, IfOk}
use Rattle.std.specs.declared.alloc.AllocError.{AllocError}
use Rattle.ix_store.specs.Store.{Blocks}
use Rattle.ix_store.specs.declared.places.PlaceSet.{PlaceSet}
use Rattle.ix_walk.specs.JobMeaning.{JobMeaning}
use Rattle.ix_car.specs.declared.sink.Delivery.{Delivery}
use Rattle.ix_car.specs.Archive.{known_at, archive_without, difference_of, known_by}
use Rattle.ix_car.specs.ArchiveMeaning.{IsProperPrefix, HasWrittenWithout}
use Rattle.ix_car.specs.Archived.{IsBeginning}
use Rattle.ix_car.specs.Kept.{kept}
use Rattle.ix_known.specs.Known.{IsKnownIn}
use Rattle.ix_car.specs.Verified.{verified}
use Rattle.ix_car.proofs.KnownBlocks.{places-of-base}
use Rattle.ix_jobs.specs.declared.results.JobResult.{JobResult}
use Rattle.ix_run.specs.Run.{IsRun}
use Rattle.ix_api.specs.declared.exported.Exported.{Exported}
use Rattle.ix_api.specs.Exporting.{HasExported, IsWholeAtDone, IsBegun}

module _ (store base : Blocks) (places : PlaceSet) (of_base : IsKnownIn store base places) where
  -- the archives of deliveries are the same
  same_archive : (roots : List (List ℕ)) (ds : List Delivery) → archive_without (known_at store (Some places)) store roots ds ≡ archive_without (known_by base) store roots ds
  same_archive roots ds = (places-of-base store base places of_base roots ds).0

  -- so are those of a job
  same_difference : (number : ℕ) (job : JobMeaning) → difference_of (known_at store (Some places)) store number job ≡ difference_of (known_by base) store number job
  same_difference number job = same_archive job.roots (verified store number job)

  -- a writer has the same
  same_written : (told : Option (List ℕ)) (roots : List (List ℕ)) (ds failed : List Delivery) → HasWrittenWithout (known_at store (Some places)) told store roots ds failed → HasWrittenWithout (known_by base) told store roots ds failed
  same_written told roots ds [] has = has ∙ ap (λ b. Some b) (same_archive roots (kept ds))
  same_written told roots ds (d ∷ more) (bytes, is, begins) = (bytes, is, subst (IsProperPrefix bytes) (same_archive roots (kept (ds ++ d ∷ []))) begins)

  -- the result of a run is the same
  same_run : {W : Type 0} (told : W → Option (List ℕ)) (number : ℕ) (job : JobMeaning) (before : W) (result : JobResult) (after : W)
      → IsRun told (known_at store (Some places)) store number job before result after → IsRun told (known_by base) store number job before result after
  same_run told number job before result after run = record {
    end = run.end;
    delivered = run.delivered;
    failed = run.failed;
    taken = run.taken;
    faithful = run.faithful;
    ended = run.ended;
    skips = run.skips;
    counts = run.counts ∙ (places-of-base store base places of_base job.roots run.delivered).1 run.taken;
    counted = run.counted;
    written = λ empty. same_written (told after) job.roots run.delivered run.failed (run.written empty);
    whole = λ empty done. run.whole empty done ∙ ap (λ b. Some b) (same_difference number job);
    beginning = λ empty bytes has. subst (IsBeginning bytes) (same_difference number job) (run.beginning empty bytes has);
  }

  -- and so is what an export leaves
  pub exported_of_base : (job : JobMeaning) (result : Result Exported AllocError) → IfOk result (HasExported (known_at store (Some places)) store job) → IfOk result (HasExported (known_by base) store job)
  exported_of_base job (Ok out) ((empty, none, run), reported) = ((empty, none, same_run (λ v. Some v.items) 0 job empty out.result out.archive run), reported)
  exported_of_base job (Err e) none = tt

  pub whole_of_base : (job : JobMeaning) (result : Result Exported AllocError) → IfOk result (IsWholeAtDone (known_at store (Some places)) store job) → IfOk result (IsWholeAtDone (known_by base) store job)
  whole_of_base job (Ok out) whole = λ done. whole done ∙ same_difference 0 job
  whole_of_base job (Err e) none = tt

  pub begun_of_base : (job : JobMeaning) (result : Result Exported AllocError) → IfOk result (IsBegun (known_at store (Some places)) store job) → IfOk result (IsBegun (known_by base) store job)
  begun_of_base job (Ok out) begun = subst (IsBeginning out.archive.items) (same_difference 0 job) begun
  begun_of_base job (Err e) none = tt
