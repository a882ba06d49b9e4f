-- The result of each job, from what its sink received.
use Rattle.std.proofs.Common.{◌≡◌, ℕ, suc, ◌+◌, take, drop, List, [], ◌∷◌, ◌++◌, refl, sym, ◌∙◌, ap, subst, map, length, inl, inr}
use Rattle.std.specs.Prelude.{Option, Some, None}
use Rattle.std.specs.Io.KnownBytes as known
use Rattle.ix_store.specs.Store.{Blocks}
use Rattle.ix_walk.specs.JobMeaning.{JobMeaning}
use Rattle.ix_car.specs.declared.sink.End.{End}
use Rattle.ix_car.specs.declared.sink.End.TheVariants as ends
use Rattle.ix_car.specs.Events.{delivery, close, deliveries_of}
use Rattle.ix_car.specs.Faithful.{IsFaithful}
use Rattle.ix_car.specs.Archive.{Known}
use Rattle.ix_car.specs.ArchiveMeaning.{ArchiveMeaning, HasArchived, HasWrittenWithout, IsBegun, IsCountOf, events_of, calls_of}
use Rattle.ix_car.specs.Archived.{IsArchived}
use Rattle.ix_car.specs.Report.{counts_of}
use Rattle.ix_jobs.specs.declared.results.JobResult.{JobResult}
use Rattle.ix_pipeline.specs.Headline.{EachDelivered, EachArchived, Keeps, EachKept, EachFresh}
use Rattle.std.proofs.Math.Seq.{take-append_seam}
use Rattle.std.proofs.lemmas.Option.{same_Some}
use Rattle.ix_car.proofs.Archives.{told-back, written-tells}
use Rattle.ix_run.specs.Run.{IsEndOf, IsRun, EachRun, EachBegun, IsEnded, EachEnded}
use Rattle.ix_run.proofs.Told.{same_deliveries}

-- an end that is reported as done is that of a close with done
done_is_done : (end told : End) → IsEndOf end told → told ≡ ends.Done → end ≡ ends.Done
done_is_done ends.Done told h d = refl
done_is_done ends.Limit told (inl h) d = absurd (let bad : ends.Limit ≡ ends.Done = sym h ∙ d in cc)
done_is_done ends.Limit told (inr h) d = absurd (let bad : ends.Write ≡ ends.Done = sym h ∙ d in cc)
done_is_done ends.Memory told h d = sym h ∙ d
done_is_done ends.Write told h d = sym h ∙ d
done_is_done ends.Start told h d = sym h ∙ d

-- a sink that has received bytes keeps them
keeps_told : (old new : Option (List ℕ)) (bytes : List ℕ) → known.Keeps old new → old ≡ Some bytes → new ≡ Some bytes
keeps_told None new bytes h e = absurd cc
keeps_told (Some xs) None bytes h e = absurd h
keeps_told (Some xs) (Some ys) bytes h e = ap (λ l. Some l) (h ∙ same_Some xs bytes e)

-- the number of bytes is that of the bytes in the end
count_kept : (old new : Option (List ℕ)) (taken : ℕ) (bytes : List ℕ) → known.Keeps old new → old ≡ Some bytes → IsCountOf taken old → IsCountOf taken new
count_kept old new taken bytes keeps e counts more h =
    let same : bytes ≡ more = same_Some bytes more (sym (keeps_told old new bytes keeps e) ∙ h) in
    counts more (e ∙ ap (λ l. Some l) same)

module _ {W : Type 0} (told : W → Option (List ℕ)) (known : Known) where
  pub one_run : (store : Blocks) (n : ℕ) (job : JobMeaning) (before after : W) (first last : ArchiveMeaning W) (end : End) (result : JobResult)
      → HasArchived told first known store job (told before) → IsFaithful store n job end (calls_of last) → IsArchived store n job end (calls_of last)
      → Keeps (HasArchived told) first last → IsEnded told last end result after → IsRun told known store n job before result after
  one_run store n job before after first last end result fresh faithful archived kept ended =
      let ds = last.deliveries in
      let same : ds ≡ _ = same_deliveries ds last.closed _ end faithful.told in
      let shown : events_of last ≡ map delivery ds ++ close end ∷ [] = faithful.told ∙ ap (λ l. map delivery l ++ close end ∷ []) (sym same) in
      let of_events : deliveries_of (events_of last) ≡ ds = told-back ds last.closed in
      let guarantee : HasArchived told last known store job (told before) = kept known store job (told before) fresh in
      let wrote : (h : told before ≡ Some []) → HasWrittenWithout known (told last.writer) store job.roots (deliveries_of (events_of last)) last.failed =
      λ h. subst (λ l. HasWrittenWithout known (told last.writer) store job.roots l last.failed) (sym of_events) (guarantee.written h) in
      record {
        end = end;
        delivered = ds;
        failed = last.failed;
        taken = last.taken;
        faithful = subst (λ l. IsFaithful store n job end (record { events = l; failed = last.failed })) shown faithful;
        ended = ended.ended;
        skips = ended.skips;
        counts = ended.counts ∙ ap (λ k. counts_of k last.store ds last.taken) guarantee.same_known ∙ ap (λ s. counts_of known s ds last.taken) guarantee.same_store;
        counted = λ h.
            let some = written-tells known (told last.writer) store job.roots ds last.failed (guarantee.written h) in
            count_kept (told last.writer) (told after) last.taken some.0 ended.flushed some.1 (guarantee.counted h);
        written = λ h.
            let some = written-tells known (told last.writer) store job.roots ds last.failed (guarantee.written h) in
            let same_told : told last.writer ≡ told after = some.1 ∙ sym (keeps_told (told last.writer) (told after) some.0 ended.flushed some.1) in
            subst (λ o. HasWrittenWithout known o store job.roots ds last.failed) same_told (guarantee.written h);
        whole = λ h done. keeps_told (told last.writer) (told after) _ ended.flushed (archived.whole (done_is_done end result.end ended.ended done) known (told last.writer) (wrote h));
        beginning = λ h bytes shows.
            let some = written-tells known (told last.writer) store job.roots ds last.failed (guarantee.written h) in
            let same_bytes : some.0 ≡ bytes = same_Some some.0 bytes (sym (keeps_told (told last.writer) (told after) some.0 ended.flushed some.1) ∙ shows) in
            archived.beginning known bytes (subst (λ o. HasWrittenWithout known o store job.roots (deliveries_of (events_of last)) last.failed) (some.1 ∙ ap (λ l. Some l) same_bytes) (wrote h));
      }

  pub runs : (store : Blocks) (n : ℕ) (jobs : List JobMeaning) (before after : List W) (first last : List (ArchiveMeaning W)) (es : List End) (results : List JobResult)
      → EachBegun told known store jobs before first → EachDelivered calls_of store n jobs es last → EachArchived calls_of store n jobs es last
      → EachKept (HasArchived told) first last → EachEnded told last es results after → EachRun told known store n jobs before results after
  runs store n [] [] [] [] [] [] [] begun delivered archived kept ended = tt
  runs store n [] [] [] [] [] [] (r ∷ rs) begun delivered archived kept ended = absurd ended
  runs store n [] [] (w ∷ ws) [] [] [] [] begun delivered archived kept ended = absurd ended
  runs store n [] [] (w ∷ ws) [] [] [] (r ∷ rs) begun delivered archived kept ended = absurd ended
  runs store n [] [] after [] [] (e ∷ es) results begun delivered archived kept ended = absurd delivered
  runs store n [] [] after [] (l ∷ ls) [] results begun delivered archived kept ended = absurd delivered
  runs store n [] [] after [] (l ∷ ls) (e ∷ es) results begun delivered archived kept ended = absurd delivered
  runs store n [] [] after (a ∷ xs) last es results begun delivered archived kept ended = absurd begun
  runs store n [] (b ∷ bs) after [] last es results begun delivered archived kept ended = absurd begun
  runs store n [] (b ∷ bs) after (a ∷ xs) last es results begun delivered archived kept ended = absurd begun
  runs store n (j ∷ js) [] after [] last es results begun delivered archived kept ended = absurd begun
  runs store n (j ∷ js) [] after (a ∷ xs) last es results begun delivered archived kept ended = absurd begun
  runs store n (j ∷ js) (b ∷ bs) after [] last es results begun delivered archived kept ended = absurd begun
  runs store n (j ∷ js) (b ∷ bs) after (a ∷ xs) [] [] results begun delivered archived kept ended = absurd delivered
  runs store n (j ∷ js) (b ∷ bs) after (a ∷ xs) [] (e ∷ es) results begun delivered archived kept ended = absurd delivered
  runs store n (j ∷ js) (b ∷ bs) after (a ∷ xs) (l ∷ ls) [] results begun delivered archived kept ended = absurd delivered
  runs store n (j ∷ js) (b ∷ bs) [] (a ∷ xs) (l ∷ ls) (e ∷ es) [] begun delivered archived kept ended = absurd ended
  runs store n (j ∷ js) (b ∷ bs) [] (a ∷ xs) (l ∷ ls) (e ∷ es) (r ∷ rs) begun delivered archived kept ended = absurd ended
  runs store n (j ∷ js) (b ∷ bs) (w ∷ ws) (a ∷ xs) (l ∷ ls) (e ∷ es) [] begun delivered archived kept ended = absurd ended
  runs store n (j ∷ js) (b ∷ bs) (w ∷ ws) (a ∷ xs) (l ∷ ls) (e ∷ es) (r ∷ rs) begun delivered archived kept ended =
      (one_run store n j b w a l e r begun.0.1 delivered.0 archived.0 kept.0 ended.0, runs store (n + 1) js bs ws xs ls es rs begun.1 delivered.1 archived.1 kept.1 ended.1)

  -- an archive more
  pub EachBegun-more : (store : Blocks) (jobs : List JobMeaning) (writers : List W) (archives : List (ArchiveMeaning W)) (job : JobMeaning) (writer : W) (archive : ArchiveMeaning W)
      → EachBegun told known store jobs writers archives → IsBegun archive store job.roots → HasArchived told archive known store job (told writer)
      → EachBegun told known store (jobs ++ job ∷ []) (writers ++ writer ∷ []) (archives ++ archive ∷ [])
  EachBegun-more store [] [] [] job writer archive so_far begun guarantee = ((begun, guarantee), tt)
  EachBegun-more store [] [] (a ∷ xs) job writer archive so_far begun guarantee = absurd so_far
  EachBegun-more store [] (w ∷ ws) [] job writer archive so_far begun guarantee = absurd so_far
  EachBegun-more store [] (w ∷ ws) (a ∷ xs) job writer archive so_far begun guarantee = absurd so_far
  EachBegun-more store (j ∷ js) [] [] job writer archive so_far begun guarantee = absurd so_far
  EachBegun-more store (j ∷ js) [] (a ∷ xs) job writer archive so_far begun guarantee = absurd so_far
  EachBegun-more store (j ∷ js) (w ∷ ws) [] job writer archive so_far begun guarantee = absurd so_far
  EachBegun-more store (j ∷ js) (w ∷ ws) (a ∷ xs) job writer archive so_far begun guarantee = (so_far.0, EachBegun-more store js ws xs job writer archive so_far.1 begun guarantee)

  -- a result more
  pub EachEnded-more : (archives : List (ArchiveMeaning W)) (es : List End) (results : List JobResult) (writers : List W) (archive : ArchiveMeaning W) (end : End) (result : JobResult) (writer : W)
      → EachEnded told archives es results writers → IsEnded told archive end result writer → EachEnded told (archives ++ archive ∷ []) (es ++ end ∷ []) (results ++ result ∷ []) (writers ++ writer ∷ [])
  EachEnded-more [] [] [] [] archive end result writer so_far one = (one, tt)
  EachEnded-more [] [] [] (w ∷ ws) archive end result writer so_far one = absurd so_far
  EachEnded-more [] [] (r ∷ rs) writers archive end result writer so_far one = absurd (no_results r rs writers so_far) where
    no_results : (r : JobResult) (rs : List JobResult) (ws : List W) → EachEnded told [] [] (r ∷ rs) ws → ⊥
    no_results r rs [] h = h
    no_results r rs (w ∷ ws) h = h
  EachEnded-more [] (e ∷ es) [] [] archive end result writer so_far one = absurd so_far
  EachEnded-more [] (e ∷ es) [] (w ∷ ws) archive end result writer so_far one = absurd so_far
  EachEnded-more [] (e ∷ es) (r ∷ rs) [] archive end result writer so_far one = absurd so_far
  EachEnded-more [] (e ∷ es) (r ∷ rs) (w ∷ ws) archive end result writer so_far one = absurd so_far
  EachEnded-more (a ∷ xs) [] [] [] archive end result writer so_far one = absurd so_far
  EachEnded-more (a ∷ xs) [] [] (w ∷ ws) archive end result writer so_far one = absurd so_far
  EachEnded-more (a ∷ xs) [] (r ∷ rs) [] archive end result writer so_far one = absurd so_far
  EachEnded-more (a ∷ xs) [] (r ∷ rs) (w ∷ ws) archive end result writer so_far one = absurd so_far
  EachEnded-more (a ∷ xs) (e ∷ es) [] [] archive end result writer so_far one = absurd so_far
  EachEnded-more (a ∷ xs) (e ∷ es) [] (w ∷ ws) archive end result writer so_far one = absurd so_far
  EachEnded-more (a ∷ xs) (e ∷ es) (r ∷ rs) [] archive end result writer so_far one = absurd so_far
  EachEnded-more (a ∷ xs) (e ∷ es) (r ∷ rs) (w ∷ ws) archive end result writer so_far one = (so_far.0, EachEnded-more xs es rs ws archive end result writer so_far.1 one)

  -- as many archives as jobs, none of which received anything
  pub begun-length : (store : Blocks) (jobs : List JobMeaning) (writers : List W) (archives : List (ArchiveMeaning W)) → EachBegun told known store jobs writers archives → length archives ≡ length jobs
  begun-length store [] [] [] h = refl
  begun-length store [] [] (a ∷ xs) h = absurd h
  begun-length store [] (w ∷ ws) [] h = absurd h
  begun-length store [] (w ∷ ws) (a ∷ xs) h = absurd h
  begun-length store (j ∷ js) [] [] h = absurd h
  begun-length store (j ∷ js) [] (a ∷ xs) h = absurd h
  begun-length store (j ∷ js) (w ∷ ws) [] h = absurd h
  begun-length store (j ∷ js) (w ∷ ws) (a ∷ xs) h = ap suc (begun-length store js ws xs h.1)

  -- an archive that was just started has no events
  no_events : (store : Blocks) (roots : List (List ℕ)) (a : ArchiveMeaning W) → IsBegun a store roots → events_of a ≡ []
  no_events store roots a h = ap (λ ds. map delivery ds ++ map close a.closed) h.no_deliveries ∙ ap (λ l. map close l) h.not_closed

  -- archives that were just started are fresh sinks
  pub begun-fresh : (store : Blocks) (jobs : List JobMeaning) (writers : List W) (archives : List (ArchiveMeaning W)) → EachBegun told known store jobs writers archives → EachFresh calls_of archives
  begun-fresh store [] [] [] h = tt
  begun-fresh store [] [] (a ∷ xs) h = absurd h
  begun-fresh store [] (w ∷ ws) [] h = absurd h
  begun-fresh store [] (w ∷ ws) (a ∷ xs) h = absurd h
  begun-fresh store (j ∷ js) [] [] h = absurd h
  begun-fresh store (j ∷ js) [] (a ∷ xs) h = absurd h
  begun-fresh store (j ∷ js) (w ∷ ws) [] h = absurd h
  begun-fresh store (j ∷ js) (w ∷ ws) (a ∷ xs) h = ((no_events store j.roots a h.0.0, h.0.0.no_failure), begun-fresh store js ws xs h.1)

  -- as many ends as sinks
  pub delivered-length : (store : Blocks) (n : ℕ) (jobs : List JobMeaning) (es : List End) (sinks : List (ArchiveMeaning W)) → EachDelivered calls_of store n jobs es sinks → length sinks ≡ length es
  delivered-length store n [] [] [] h = refl
  delivered-length store n [] [] (s ∷ ss) h = absurd h
  delivered-length store n [] (e ∷ es) [] h = absurd h
  delivered-length store n [] (e ∷ es) (s ∷ ss) h = absurd h
  delivered-length store n (j ∷ js) [] [] h = absurd h
  delivered-length store n (j ∷ js) [] (s ∷ ss) h = absurd h
  delivered-length store n (j ∷ js) (e ∷ es) [] h = absurd h
  delivered-length store n (j ∷ js) (e ∷ es) (s ∷ ss) h = ap suc (delivered-length store (n + 1) js es ss h.1)

  -- there are as many archives at the end as at the start
  pub kept-length : (first last : List (ArchiveMeaning W)) → EachKept (HasArchived told) first last → length last ≡ length first
  kept-length [] [] h = refl
  kept-length [] (l ∷ ls) h = absurd h
  kept-length (a ∷ xs) [] h = absurd h
  kept-length (a ∷ xs) (l ∷ ls) h = ap suc (kept-length xs ls h.1)

  -- as many results as jobs
  pub run-length : (store : Blocks) (n : ℕ) (jobs : List JobMeaning) (before after : List W) (results : List JobResult) → EachRun told known store n jobs before results after → length jobs ≡ length results
  run-length store n [] [] [] [] h = refl
  run-length store n [] [] (w ∷ ws) [] h = absurd h
  run-length store n [] [] [] (r ∷ rs) h = absurd h
  run-length store n [] [] (w ∷ ws) (r ∷ rs) h = absurd h
  run-length store n [] (b ∷ bs) [] [] h = absurd h
  run-length store n [] (b ∷ bs) [] (r ∷ rs) h = absurd h
  run-length store n [] (b ∷ bs) (w ∷ ws) [] h = absurd h
  run-length store n [] (b ∷ bs) (w ∷ ws) (r ∷ rs) h = absurd h
  run-length store n (j ∷ js) [] [] [] h = absurd h
  run-length store n (j ∷ js) [] [] (r ∷ rs) h = absurd h
  run-length store n (j ∷ js) [] (w ∷ ws) [] h = absurd h
  run-length store n (j ∷ js) [] (w ∷ ws) (r ∷ rs) h = absurd h
  run-length store n (j ∷ js) (b ∷ bs) [] [] h = absurd h
  run-length store n (j ∷ js) (b ∷ bs) [] (r ∷ rs) h = absurd h
  run-length store n (j ∷ js) (b ∷ bs) (w ∷ ws) [] h = absurd h
  run-length store n (j ∷ js) (b ∷ bs) (w ∷ ws) (r ∷ rs) h = ap suc (run-length store (n + 1) js bs ws rs h.1)

-- what a vector holds, when a slice of it as long was written through
pub whole_again : {A : Type 0} (n : ℕ) (new old : List A) → length new ≡ n → take n (new ++ drop (length new) old) ≡ new
whole_again n new old h = ap (λ m. take m (new ++ drop (length new) old)) (sym h) ∙ take-append_seam new (drop (length new) old)

-- the results of archives that were used as sinks, and then ended
pub ended_sinks : {W : Type 0} (told : W → Option (List ℕ)) (known : Known) (at store : Blocks) (listed jobs : List JobMeaning) (before after : List W) (archives first sinks : List (ArchiveMeaning W)) (n : ℕ) (es given : List End) (results : List JobResult)
    → at ≡ store → listed ≡ jobs → EachBegun told known at listed before archives → first ≡ archives → length first ≡ n → EachKept (HasArchived told) first sinks
    → EachDelivered calls_of store 0 jobs es sinks → EachArchived calls_of store 0 jobs es sinks → given ≡ es
    → EachEnded told (take n (sinks ++ drop (length sinks) archives)) given results after → EachRun told known store 0 jobs before results after
ended_sinks told known at store listed jobs before after archives first sinks n es given results same_store same_jobs begun same sized kept delivered archived ends_are ended =
    let again = whole_again n sinks archives (kept-length told known first sinks kept ∙ sized) in
    let begun_so = subst (λ s. EachBegun told known s jobs before archives) same_store (subst (λ l. EachBegun told known at l before archives) same_jobs begun) in
    runs told known store 0 jobs before after archives sinks es results begun_so delivered archived (subst (λ xs. EachKept (HasArchived told) xs sinks) same kept)
    (subst (λ l. EachEnded told sinks l results after) ends_are (subst (λ xs. EachEnded told xs given results after) again ended))
