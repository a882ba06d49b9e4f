-- The archive of a root, from the result of its job.
use Rattle.std.proofs.Common.{◌≡◌, ℕ, List, [], ◌∷◌, refl, sym, ◌∙◌, ap, subst, Bool, true, true≢false, length, arith, ◌++◌}
use Rattle.std.specs.Prelude.{Option, None, Some, Ok, take}
use Rattle.std.proofs.lemmas.List.{take_all}
use Rattle.ix_store.specs.Store.{Blocks}
use Rattle.ix_walk.specs.JobMeaning.{JobMeaning}
use Rattle.ix_car.specs.declared.sink.Delivery.{Delivery}
use Rattle.ix_car.specs.declared.sink.End.{End}
use Rattle.ix_car.specs.declared.sink.End.TheVariants.{Done, Limit, Memory, Write, Start}
use Rattle.ix_car.specs.Faithful.{EndFits}
use Rattle.ix_car.specs.Kept.{kept}
use Rattle.ix_car.specs.Verified.{judged_visits}
use Rattle.ix_car.specs.Archive.{archive_with}
use Rattle.ix_car.specs.ArchiveMeaning.{HasWritten}
use Rattle.ix_sections.specs.Reading.{◌>>=◌, blocks_of}
use Rattle.ix_jobs.specs.declared.results.JobResult.{JobResult}
use Rattle.ix_run.specs.Root.{root_job, exported, exported_from, is_whole_end}
use Rattle.ix_run.specs.Run.{IsEndOf, IsRun}
use Rattle.ix_run.proofs.Told.{same_deliveries}

-- if the reported end says that all was written, the job was closed with such an end
whole_close : (end told : End) → IsEndOf end told → is_whole_end told ≡ true → is_whole_end end ≡ true
whole_close Done told h w = refl
whole_close Limit told h w = refl
whole_close Memory told h w = ap is_whole_end (sym h) ∙ w
whole_close Write told h w = ap is_whole_end (sym h) ∙ w
whole_close Start told h w = ap is_whole_end (sym h) ∙ w

-- an end at which all visits were delivered and none failed
all_told : (end : End) (m : ℕ) (all : List Delivery) (over : Bool) (failed : List Delivery) → is_whole_end end ≡ true → EndFits end m all over failed → (m ≡ length all) × (failed ≡ [])
all_told Done m all over failed whole fits = (fits.0, fits.2)
all_told Limit m all over failed whole fits = (fits.0, fits.2)
all_told Memory m all over failed whole fits = absurd (true≢false (sym whole))
all_told Write m all over failed whole fits = absurd (true≢false (sym whole))
all_told Start m all over failed whole fits = absurd (true≢false (sym whole))

module _ {W : Type 0} (told : W → Option (List ℕ)) where
  -- the archive of all visits of a job that was walked to its end or its limit
  one_archive : (store : Blocks) (job : JobMeaning) (before : W) (result : JobResult) (after : W) → is_whole_end result.end ≡ true → told before ≡ Some [] → IsRun told None store 0 job before result after
      → told after ≡ Some (archive_with store job.roots (kept (judged_visits store 0 job)))
  one_archive store job before result after whole fresh run =
      let all = judged_visits store 0 job in
      let fits = all_told run.end run.faithful.count all _ run.failed (whole_close run.end result.end run.ended whole) run.faithful.fits in
      let same : run.delivered ≡ take run.faithful.count all = same_deliveries run.delivered (run.end ∷ []) (take run.faithful.count all) run.end run.faithful.told in
      let each : run.delivered ≡ all = same ∙ ap (λ n. take n all) fits.0 ∙ take_all (length all) all (omega arith) in
      subst (λ ds. told after ≡ Some (archive_with store job.roots (kept ds))) each (subst (HasWritten (told after) store job.roots run.delivered) fits.1 (run.written fresh))

  -- the archive of the one root
  pub exported_by : (car root : List ℕ) (store : Blocks) (job : JobMeaning) (before : W) (result : JobResult) (after : W) (bytes : List ℕ)
      → blocks_of car ≡ Ok store → job ≡ root_job root → told before ≡ Some [] → IsRun told None store 0 job before result after → is_whole_end result.end ≡ true
      → told after ≡ Some bytes → exported_from car root ≡ Ok bytes
  exported_by car root store job before result after bytes read is_job fresh run whole shows =
      let is_bytes : archive_with store job.roots (kept (judged_visits store 0 job)) ≡ bytes = some_same _ _ (sym (one_archive store job before result after whole fresh run) ∙ shows) in
      ap (λ r. r >>= (λ b. Ok (exported b root))) read ∙ ap Ok (ap (λ (j : JobMeaning). archive_with store j.roots (kept (judged_visits store 0 j))) (sym is_job) ∙ is_bytes) where
        some_same : (a b : List ℕ) → ◌≡◌ {A = Option (List ℕ)} (Some a) (Some b) → a ≡ b
        some_same a b h = cc
