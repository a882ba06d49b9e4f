-- The archive of a front of a list begins its archive, so a faithful sink's archive is that of its job, or begins it.
use Rattle.std.proofs.Common.{◌≡◌, ◌⊎◌, inl, inr, ℕ, zero, suc, Bool, true, false, not, List, [], ◌∷◌, ◌++◌, take, drop, map, filter, flat_map, refl, sym, ◌∙◌, ap, subst, append_assoc, take-append-drop, le_of_eq}
use Rattle.std.specs.Prelude.{Option, Some, None, if◌then◌else◌, bytes_eq}
use Rattle.std.proofs.lemmas.List.{take_all}
use Rattle.std.proofs.lemmas.List.Elements.{filter-append}
use Rattle.std.proofs.lemmas.List.Concat.{flat_map-append}
use Rattle.std.proofs.lemmas.Option.{same_Some}
use Rattle.ix_store.specs.Store.{Blocks}
use Rattle.ix_walk.specs.JobMeaning.{JobMeaning}
use Rattle.ix_walk.specs.Visits.{is_over_limit}
use Rattle.ix_check.specs.Verdict.{passes}
use Rattle.ix_car.specs.declared.sink.Delivery.{Delivery}
use Rattle.ix_car.specs.declared.sink.End.{End}
use Rattle.ix_car.specs.declared.sink.End.TheVariants.{Done, Limit, Memory, Write, Start}
use Rattle.ix_car.specs.Events.{Calls, delivery, close, deliveries_of}
use Rattle.ix_car.specs.Kept.{kept}
use Rattle.ix_car.specs.Verified.{judged_visits, verified}
use Rattle.ix_sections.specs.Writing.{header_of}
use Rattle.ix_car.specs.Archive.{Known, is_known, first_sound, section_of, new_section, archive_without, difference_of}
use Rattle.ix_verdict.specs.Verdict.{is_sound}
use Rattle.ix_car.specs.ArchiveMeaning.{ArchiveMeaning, events_of, calls_of, HasWrittenWithout, HasArchived}
use Rattle.ix_car.specs.Archived.{IsBeginning, TellsBeginning, IsArchived}
use Rattle.ix_car.specs.Faithful.{EndFits, IsFaithful}
use Rattle.ix_car.proofs.Pruning.{kept-take}
use Rattle.ix_car.proofs.Numbers.{kept-verified, kept-beginning}

-- ---- beginnings

-- what the second of two lists adds to the first sound deliveries of the first
abbrev first_after : List Delivery → List Delivery → List Delivery
first_after [] ys = first_sound ys
first_after (d ∷ ds) ys = if is_sound d.verdict then filter (λ e. not (bytes_eq e.visit.cid d.visit.cid)) (first_after ds ys) else first_after ds ys

-- the sections of a concatenation are those of its front, and then those of the rest that are new
first_sound-append : (xs ys : List Delivery) → first_sound (xs ++ ys) ≡ first_sound xs ++ first_after xs ys
first_sound-append [] ys = refl
first_sound-append (d ∷ ds) ys =
    let other : Delivery → Bool = λ e. not (bytes_eq e.visit.cid d.visit.cid) in
    elim (is_sound d.verdict) as (λ b. (if b then d ∷ filter other (first_sound (ds ++ ys)) else first_sound (ds ++ ys)) ≡ (if b then d ∷ filter other (first_sound ds) else first_sound ds) ++ (if b then filter other (first_after ds ys) else first_after ds ys))
    [ true ↦ ap (λ l. d ∷ filter other l) (first_sound-append ds ys) ∙ ap (λ l. d ∷ l) (filter-append other (first_sound ds) (first_after ds ys)) | false ↦ first_sound-append ds ys ]

-- so the archive of a front begins the archive
archive-append : (known : Known) (store : Blocks) (roots : List (List ℕ)) (xs ys : List Delivery) → archive_without known store roots (xs ++ ys) ≡ archive_without known store roots xs ++ flat_map (new_section known store) (first_after xs ys)
archive-append known store roots xs ys =
    ap (λ l. header_of roots ++ flat_map (new_section known store) l) (first_sound-append xs ys)
    ∙ ap (λ l. header_of roots ++ l) (flat_map-append (new_section known store) (first_sound xs) (first_after xs ys))
    ∙ sym (append_assoc (header_of roots) (flat_map (new_section known store) (first_sound xs)) (flat_map (new_section known store) (first_after xs ys)))

-- the archive of the beginning of a list is a beginning of its archive
pub archive-beginning : (known : Known) (store : Blocks) (roots : List (List ℕ)) (xs ys all : List Delivery) → xs ++ ys ≡ all → IsBeginning (archive_without known store roots xs) (archive_without known store roots all)
archive-beginning known store roots xs ys all e = (flat_map (new_section known store) (first_after xs ys), sym (archive-append known store roots xs ys) ∙ ap (archive_without known store roots) e)

-- what is kept of the first visits is a beginning of the verified traversal
kept-first_visits : (store : Blocks) (number : ℕ) (job : JobMeaning) (m : ℕ) → (more : List Delivery) × (kept (take m (judged_visits store number job)) ++ more ≡ verified store number job)
kept-first_visits store number job m =
    let all = kept (judged_visits store number job) in
    let few = kept-take (λ d. d.visit.depth) (λ d. passes d.verdict) None m (judged_visits store number job) in
    let rest = kept-beginning store number job in
    (drop few.0 all ++ rest.0, ap (λ l. l ++ (drop few.0 all ++ rest.0)) few.1 ∙ sym (append_assoc (take few.0 all) (drop few.0 all) rest.0) ∙ ap (λ l. l ++ rest.0) (take-append-drop few.0 all) ∙ rest.1)

-- so its archive is a beginning of the job's
archive-first_visits : (known : Known) (store : Blocks) (number : ℕ) (job : JobMeaning) (m : ℕ) → IsBeginning (archive_without known store job.roots (kept (take m (judged_visits store number job)))) (difference_of known store number job)
archive-first_visits known store number job m =
    let first = kept-first_visits store number job m in
    archive-beginning known store job.roots (kept (take m (judged_visits store number job))) first.0 (verified store number job) first.1

-- ---- a faithful sink

-- a list of deliveries and a close has these deliveries
told-deliveries : (ds : List Delivery) (end : End) → deliveries_of (map delivery ds ++ close end ∷ []) ≡ ds
told-deliveries [] end = refl
told-deliveries (d ∷ ds) end = ap (λ l. d ∷ l) (told-deliveries ds end)

-- nothing failed, or the delivery after those that were taken
failed-next : (end : End) (m : ℕ) (all : List Delivery) (over : Bool) (failed : List Delivery) → EndFits end m all over failed → (failed ≡ []) ⊎ (failed ≡ take 1 (drop m all))
failed-next Done m all over failed fits = inl fits.2
failed-next Limit m all over failed fits = inl fits.2
failed-next Start m all over failed fits = inl fits.1
failed-next Write m all over failed fits = inr fits.1
failed-next Memory m all over failed fits = fits

-- the first ones with the one after them
take-next : (m : ℕ) (all more : List Delivery) (d : Delivery) → d ∷ more ≡ take 1 (drop m all) → take m all ++ d ∷ [] ≡ take (suc m) all
take-next zero [] more d e = absurd cc
take-next zero (x ∷ all) more d e = ap (take 1) e
take-next (suc m) [] more d e = absurd cc
take-next (suc m) (x ∷ all) more d e = ap (λ l. x ∷ l) (take-next m all more d e)

-- where a delivery failed, a proper part of the archive with it is written
written-beginning : (known : Known) (store : Blocks) (number : ℕ) (job : JobMeaning) (m : ℕ) (failed : List Delivery) → (failed ≡ []) ⊎ (failed ≡ take 1 (drop m (judged_visits store number job)))
    → (bytes : List ℕ) → HasWrittenWithout known (Some bytes) store job.roots (take m (judged_visits store number job)) failed → IsBeginning bytes (difference_of known store number job)
written-beginning known store number job m [] next bytes written =
    subst (λ l. IsBeginning l (difference_of known store number job)) (sym (same_Some bytes (archive_without known store job.roots (kept (take m (judged_visits store number job)))) written)) (archive-first_visits known store number job m)
written-beginning known store number job m (d ∷ more) (inl e) bytes written = absurd cc
written-beginning known store number job m (d ∷ more) (inr e) bytes written =
    let visits = judged_visits store number job in
    let part = written.2 in
    let rest : IsBeginning (archive_without known store job.roots (kept (take m visits ++ d ∷ []))) (difference_of known store number job) = subst (λ l. IsBeginning (archive_without known store job.roots (kept l)) (difference_of known store number job)) (sym (take-next m visits more d e)) (archive-first_visits known store number job (suc m)) in
    (part.0 ++ rest.0, sym (append_assoc bytes part.0 rest.0) ∙ ap (λ l. l ++ rest.0) (ap (λ l. l ++ part.0) (same_Some bytes written.0 written.1) ∙ part.1) ∙ rest.1)

-- if all visits were delivered, and the limit cut nothing, the whole archive is written
written-whole : (known : Known) (store : Blocks) (number : ℕ) (job : JobMeaning) (m : ℕ) (failed : List Delivery) → EndFits Done m (judged_visits store number job) (is_over_limit store job) failed
    → (told : Option (List ℕ)) → HasWrittenWithout known told store job.roots (take m (judged_visits store number job)) failed → told ≡ Some (difference_of known store number job)
written-whole known store number job m [] fits told written =
    written ∙ ap (λ l. Some (archive_without known store job.roots l)) (ap kept (take_all m (judged_visits store number job) (le_of_eq (sym fits.0))) ∙ kept-verified store number job fits.1)
written-whole known store number job m (d ∷ more) fits told written = let none = fits.2 in absurd cc

-- the law `FaithfulIsArchived`
pub faithful-archived : (store : Blocks) (number : ℕ) (job : JobMeaning) (end : End) (calls : Calls) → IsFaithful store number job end calls → IsArchived store number job end calls
faithful-archived store number job end calls f =
    let visits = judged_visits store number job in
    let deliveries : deliveries_of calls.events ≡ take f.count visits = ap deliveries_of f.told ∙ told-deliveries (take f.count visits) end in
    record {
      whole = λ done known told written.
          written-whole known store number job f.count calls.failed (subst (λ e. EndFits e f.count visits (is_over_limit store job) calls.failed) done f.fits) told (subst (λ l. HasWrittenWithout known told store job.roots l calls.failed) deliveries written);
      beginning = λ known bytes written.
          written-beginning known store number job f.count calls.failed (failed-next end f.count visits (is_over_limit store job) calls.failed f.fits) bytes (subst (λ l. HasWrittenWithout known (Some bytes) store job.roots l calls.failed) deliveries written);
    }

-- ---- an archive

-- closes are no deliveries
closed-deliveries : (ends : List End) → deliveries_of (map close ends) ≡ []
closed-deliveries [] = refl
closed-deliveries (e ∷ es) = closed-deliveries es

-- so an archive's events have its deliveries
pub told-back : (ds : List Delivery) (ends : List End) → deliveries_of (map delivery ds ++ map close ends) ≡ ds
told-back [] ends = closed-deliveries ends
told-back (d ∷ ds) ends = ap (λ l. d ∷ l) (told-back ds ends)

-- what has written has known bytes
pub written-tells : (known : Known) (told : Option (List ℕ)) (store : Blocks) (roots : List (List ℕ)) (ds failed : List Delivery) → HasWrittenWithout known told store roots ds failed → (bytes : List ℕ) × (told ≡ Some bytes)
written-tells known told store roots ds [] written = (archive_without known store roots (kept ds), written)
written-tells known told store roots ds (d ∷ more) written = (written.0, written.1)

module _ {W : Type 0} (told : W → Option (List ℕ)) (a : ArchiveMeaning W) (known : Known) (store : Blocks) (number : ℕ) (job : JobMeaning) (guarantee : HasArchived told a known store job (Some [])) where
  -- and it has written what its events call for
  written-back : HasWrittenWithout known (told a.writer) store job.roots (deliveries_of (events_of a)) a.failed
  written-back = subst (λ l. HasWrittenWithout known (told a.writer) store job.roots l a.failed) (sym (told-back a.deliveries a.closed)) (guarantee.written refl)

  -- the law `HasWholeArchive`
  pub archive-whole : IsFaithful store number job Done (calls_of a) → told a.writer ≡ Some (difference_of known store number job)
  archive-whole faithful = (faithful-archived store number job Done (calls_of a) faithful).whole refl known (told a.writer) written-back

  -- the law `HasBegunArchive`
  pub archive-begun : (end : End) → IsFaithful store number job end (calls_of a) → TellsBeginning (told a.writer) (difference_of known store number job)
  archive-begun end faithful =
      let tells = written-tells known (told a.writer) store job.roots (deliveries_of (events_of a)) a.failed written-back in
      (tells.0, tells.1, (faithful-archived store number job end (calls_of a) faithful).beginning known tells.0 (subst (λ o. HasWrittenWithout known o store job.roots (deliveries_of (events_of a)) a.failed) tells.1 written-back))

-- ---- differences

-- the sections of the deliveries whose CID isn't known
new-sections : (known : Known) (store : Blocks) (ds : List Delivery) → flat_map (new_section known store) ds ≡ flat_map (section_of store) (filter (λ d. not (is_known known d.visit.cid)) ds)
new-sections known store [] = refl
new-sections known store (d ∷ ds) =
    elim (is_known known d.visit.cid) as (λ b. (if b then [] else section_of store d) ++ flat_map (new_section known store) ds ≡ flat_map (section_of store) (if not b then d ∷ filter (λ e. not (is_known known e.visit.cid)) ds else filter (λ e. not (is_known known e.visit.cid)) ds))
    [ true ↦ new-sections known store ds | false ↦ ap (λ l. section_of store d ++ l) (new-sections known store ds) ]

-- the law `DifferenceIsTheRest`
pub difference-rest : (known : Known) (store : Blocks) (roots : List (List ℕ)) (ds : List Delivery) → archive_without known store roots ds ≡ header_of roots ++ flat_map (section_of store) (filter (λ d. not (is_known known d.visit.cid)) (first_sound ds))
difference-rest known store roots ds = ap (λ l. header_of roots ++ l) (new-sections known store (first_sound ds))
