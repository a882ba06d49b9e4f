-- What a delivery does to an archive, and what a sink says of it.
use Rattle.std.proofs.Common.{◌≡◌, ℕ, ◌≤◌, ◌<◌, ◌+◌, ◌-◌, ◌^◌, false, take, List, [], ◌∷◌, ◌++◌, length, map, refl, sym, ap, ◌∙◌, subst, arith}
use Rattle.std.specs.Prelude.{Option, Some, Result, Ok, Err, OnOk, OnErr, IfErr, min, slice_get}
use Rattle.std.specs.Io.KnownBytes.{Appends}
use Rattle.std.proofs.lemmas.List.{append-nil, append_assoc, length-append, length-take-le, take_all}
use Rattle.std.proofs.lemmas.Option.{same_Some}
use Rattle.std.proofs.KnownBytes.{Appends-nil}
use Rattle.ix_cid.specs.Varint.{varint_of}
use Rattle.ix_store.specs.Store.{Blocks, position_of}
use Rattle.ix_store.specs.declared.places.PlaceSet.{PlaceSet}
use Rattle.ix_walk.specs.JobMeaning.{JobMeaning}
use Rattle.ix_store.proofs.Blocks.{block_at, place_within}
use Rattle.ix_car.specs.declared.sink.Delivery.{Delivery}
use Rattle.ix_car.specs.declared.sink.End.{End}
use Rattle.ix_car.specs.declared.fault.SinkFault.{SinkFault}
use Rattle.ix_car.specs.declared.fault.SinkFault.TheVariants.{Write, Memory}
use Rattle.ix_car.specs.Events.{Event, delivery, close, IsOpen, IsRefusal}
use Rattle.ix_car.specs.Kept.{is_below, kept}
use Rattle.ix_sections.specs.Writing.{header_of}
use Rattle.ix_car.specs.Archive.{Known, known_at, is_known, archive_without}
use Rattle.ix_car.specs.Report.{at_most}
use Rattle.ix_car.specs.ArchiveMeaning.{ArchiveMeaning, known_in, events_of, HasWrittenWithout, IsCountOf, HasArchived, IsProperPrefix, TookPartOfHeader}
use Rattle.ix_car.specs.Archiving.{cut_behind, unwritten_block, text_due, HasTaken, IsAdded, IsFailed, IsDelivered}
use Rattle.ix_sections.proofs.Growth.{appended}
use Rattle.ix_car.proofs.Prefixes.{proper-behind, proper-take}
use Rattle.ix_car.proofs.FirstSound.{archive-due, due-section, due-told}

-- one more delivery is the last event of an archive that is open
events-push : (ds : List Delivery) (d : Delivery) (ends : List End) → IsOpen (map delivery ds ++ map close ends) → map delivery (ds ++ d ∷ []) ++ map close ends ≡ (map delivery ds ++ map close ends) ++ delivery d ∷ []
events-push [] d [] h = refl
events-push [] d (e ∷ es) h = absurd h
events-push (x ∷ ds) d ends h = ap (λ l. delivery x ∷ l) (events-push ds d ends h)

-- a count that stops, with what is added
count-add : (most n m k : ℕ) → k ≡ min n most → min (k + m) most ≡ min (n + m) most
count-add most n m k h = omega arith

module _ {W : Type 0} (told : W → Option (List ℕ)) (d : Delivery) (before : ArchiveMeaning W) where
  -- an accepted delivery is the last event
  pub delivers-ok : {T : Type 0} (text : List ℕ) (r : Result T SinkFault) (after : ArchiveMeaning W) → IsDelivered told d text before r after → IsOpen (events_of before) → OnOk r (events_of after ≡ events_of before ++ delivery d ∷ [])
  delivers-ok text (Ok u) after h unclosed =
      ap (λ l. map delivery l ++ map close after.closed) h.deliveries ∙ ap (λ l. map delivery (before.deliveries ++ d ∷ []) ++ map close l) h.wrote.same_close
      ∙ events-push before.deliveries d before.closed unclosed
  delivers-ok text (Err f) after h unclosed = tt

  -- and none has failed
  pub delivers-unfailed : {T : Type 0} (text : List ℕ) (r : Result T SinkFault) (after : ArchiveMeaning W) → IsDelivered told d text before r after → OnOk r (after.failed ≡ [])
  delivers-unfailed text (Ok u) after h = h.failed
  delivers-unfailed text (Err f) after h = tt

  -- a rejected one is no event
  pub delivers-err : {T : Type 0} (text : List ℕ) (r : Result T SinkFault) (after : ArchiveMeaning W) → IsDelivered told d text before r after → OnErr r (events_of after ≡ events_of before)
  delivers-err text (Ok u) after h = tt
  delivers-err text (Err Write) after h =
      ap (λ l. map delivery l ++ map close after.closed) h.deliveries ∙ ap (λ l. map delivery before.deliveries ++ map close l) h.wrote.same_close
  delivers-err text (Err Memory) after h = ap events_of h

  -- and is recorded as failed if its write failed
  pub delivers-refused : {T : Type 0} (text : List ℕ) (r : Result T SinkFault) (after : ArchiveMeaning W) → IsDelivered told d text before r after → before.failed ≡ [] → IfErr r (λ e. IsRefusal e d after.failed)
  delivers-refused text (Ok u) after h none = tt
  delivers-refused text (Err Write) after h none = h.failed
  delivers-refused text (Err Memory) after h none = ap (λ a. a.failed) h ∙ none

  -- the bytes before, where the archive has written what it should
  bytes-before : (known : Known) (store : Blocks) (job : JobMeaning) → HasWrittenWithout known (told before.writer) store job.roots before.deliveries before.failed → before.failed ≡ [] → told before.writer ≡ Some (archive_without known store job.roots (kept before.deliveries))
  bytes-before known store job h none = subst (λ f. HasWrittenWithout known (told before.writer) store job.roots before.deliveries f) none h

  -- the bytes after
  bytes-after : (text : List ℕ) (after : ArchiveMeaning W) (known : Known) (store : Blocks) (job : JobMeaning) → HasWrittenWithout known (told before.writer) store job.roots before.deliveries before.failed → before.failed ≡ [] → HasTaken told before after text → told after.writer ≡ Some (archive_without known store job.roots (kept before.deliveries) ++ text)
  bytes-after text after known store job h none took =
      appended (archive_without known store job.roots (kept before.deliveries)) text (told after.writer) (subst (λ o. Appends o (told after.writer) text) (bytes-before known store job h none) took.grown)

  -- their number
  counted-after : (text : List ℕ) (after : ArchiveMeaning W) (known : Known) (store : Blocks) (job : JobMeaning) → HasWrittenWithout known (told before.writer) store job.roots before.deliveries before.failed → IsCountOf before.taken (told before.writer) → before.failed ≡ [] → HasTaken told before after text → IsCountOf after.taken (told after.writer)
  counted-after text after known store job h count none took bytes is =
      let whole = archive_without known store job.roots (kept before.deliveries) in
      let same : bytes ≡ whole ++ text = same_Some bytes (whole ++ text) (sym is ∙ bytes-after text after known store job h none took) in
      took.counted
      ∙ count-add (2 ^ 64 - 1) (length whole) (length text) before.taken (count whole (bytes-before known store job h none))
      ∙ ap (at_most 64) (sym (length-append whole text))
      ∙ ap (λ l. at_most 64 (length l)) (sym same)

  -- what is due is the same over known CIDs and a store that are the archive's
  due-there : (known : Known) (store : Blocks) (job : JobMeaning) → known_in before ≡ known → before.store ≡ store → archive_without known store job.roots (kept (before.deliveries ++ d ∷ [])) ≡ archive_without known store job.roots (kept before.deliveries) ++ text_due (known_in before) before.store before.deliveries d
  due-there known store job listed same =
      archive-due known store job.roots before.deliveries d ∙ ap (λ s. archive_without known store job.roots (kept before.deliveries) ++ text_due known s before.deliveries d) (sym same)
      ∙ ap (λ k. archive_without known store job.roots (kept before.deliveries) ++ text_due k before.store before.deliveries d) (sym listed)

  -- after an accepted delivery the writer has the longer archive
  added-written : (after : ArchiveMeaning W) (known : Known) (store : Blocks) (job : JobMeaning) → IsAdded told d (text_due (known_in before) before.store before.deliveries d) before after → before.failed ≡ [] → known_in before ≡ known → before.store ≡ store
      → HasWrittenWithout known (told before.writer) store job.roots before.deliveries before.failed → HasWrittenWithout known (told after.writer) store job.roots after.deliveries after.failed
  added-written after known store job added none listed same h =
      let is : told after.writer ≡ Some (archive_without known store job.roots (kept (before.deliveries ++ d ∷ []))) = bytes-after (text_due (known_in before) before.store before.deliveries d) after known store job h none added.wrote ∙ ap Some (sym (due-there known store job listed same)) in
      let by_none : HasWrittenWithout known (told after.writer) store job.roots after.deliveries [] = is ∙ ap (λ l. Some (archive_without known store job.roots (kept l))) (sym added.deliveries) in
      subst (λ f. HasWrittenWithout known (told after.writer) store job.roots after.deliveries f) (sym added.failed) by_none

  -- so the fact is kept
  added-archived : (after : ArchiveMeaning W) (known : Known) (store : Blocks) (job : JobMeaning) (first : Option (List ℕ)) → IsAdded told d (text_due (known_in before) before.store before.deliveries d) before after → before.failed ≡ [] → HasArchived told before known store job first → HasArchived told after known store job first
  added-archived after known store job first added none h = record {
    same_known = added.wrote.same_known ∙ h.same_known;
    same_store = added.wrote.same_store ∙ h.same_store;
    same_roots = added.wrote.same_roots ∙ h.same_roots;
    written = λ fresh. added-written after known store job added none h.same_known h.same_store (h.written fresh);
    counted = λ fresh. counted-after (text_due (known_in before) before.store before.deliveries d) after known store job (h.written fresh) (h.counted fresh) none added.wrote;
  }

  -- after a failed one it has a proper part of that
  failed-written : (after : ArchiveMeaning W) (known : Known) (store : Blocks) (job : JobMeaning) → IsFailed told d (text_due (known_in before) before.store before.deliveries d) before after → before.failed ≡ [] → known_in before ≡ known → before.store ≡ store
      → HasWrittenWithout known (told before.writer) store job.roots before.deliveries before.failed → HasWrittenWithout known (told after.writer) store job.roots after.deliveries after.failed
  failed-written after known store job refused none listed same h =
      let whole = archive_without known store job.roots (kept before.deliveries) in
      let proper : IsProperPrefix (whole ++ refused.part) (archive_without known store job.roots (kept (before.deliveries ++ d ∷ []))) = subst (λ l. IsProperPrefix (whole ++ refused.part) l) (sym (due-there known store job listed same)) (proper-behind whole refused.part (text_due (known_in before) before.store before.deliveries d) refused.proper) in
      let by_one : HasWrittenWithout known (told after.writer) store job.roots before.deliveries (d ∷ []) = (whole ++ refused.part, bytes-after refused.part after known store job h none refused.wrote, proper) in
      let by_deliveries : HasWrittenWithout known (told after.writer) store job.roots after.deliveries (d ∷ []) = subst (λ l. HasWrittenWithout known (told after.writer) store job.roots l (d ∷ [])) (sym refused.deliveries) by_one in
      subst (λ f. HasWrittenWithout known (told after.writer) store job.roots after.deliveries f) (sym refused.failed) by_deliveries

  -- so the fact is kept too
  failed-archived : (after : ArchiveMeaning W) (known : Known) (store : Blocks) (job : JobMeaning) (first : Option (List ℕ)) → IsFailed told d (text_due (known_in before) before.store before.deliveries d) before after → before.failed ≡ [] → HasArchived told before known store job first → HasArchived told after known store job first
  failed-archived after known store job first refused none h = record {
    same_known = refused.wrote.same_known ∙ h.same_known;
    same_store = refused.wrote.same_store ∙ h.same_store;
    same_roots = refused.wrote.same_roots ∙ h.same_roots;
    written = λ fresh. failed-written after known store job refused none h.same_known h.same_store (h.written fresh);
    counted = λ fresh. counted-after refused.part after known store job (h.written fresh) (h.counted fresh) none refused.wrote;
  }

  -- an archive goes on having written what it should
  pub delivers-archived : {T : Type 0} (r : Result T SinkFault) (after : ArchiveMeaning W) → IsDelivered told d (text_due (known_in before) before.store before.deliveries d) before r after → before.failed ≡ [] → (known : Known) (store : Blocks) (job : JobMeaning) (first : Option (List ℕ)) → HasArchived told before known store job first → HasArchived told after known store job first
  delivers-archived (Ok u) after h none known store job first was = added-archived after known store job first h none was
  delivers-archived (Err Write) after h none known store job first was = failed-archived after known store job first h none was
  delivers-archived (Err Memory) after h none known store job first was = subst (λ a. HasArchived told a known store job first) (sym h) was

  -- if memory runs out the archive is unchanged
  pub delivers-memory : {T : Type 0} (text : List ℕ) (r : Result T SinkFault) (after : ArchiveMeaning W) → IsDelivered told d text before r after → r ≡ Err Memory → after ≡ before
  delivers-memory text (Ok u) after h e = absurd cc
  delivers-memory text (Err Write) after h e = absurd cc
  delivers-memory text (Err Memory) after h e = h

-- a delivery that writes nothing
pub adds-nothing : {W : Type 0} (told : W → Option (List ℕ)) (d : Delivery) (store : Blocks) (roots : List (List ℕ)) (known : Option PlaceSet) (ds es failed : List Delivery) (closed : List End) (taken : ℕ) (writer : W) → failed ≡ [] → taken ≤ 2 ^ 64 - 1 → es ≡ ds ++ d ∷ []
    → IsAdded told d [] (record { store = store; roots = roots; known = known; deliveries = ds; failed = failed; closed = closed; taken = taken; writer = writer }) (record { store = store; roots = roots; known = known; deliveries = es; failed = failed; closed = closed; taken = taken; writer = writer })
adds-nothing told d store roots known ds es failed closed taken writer none within longer =
    let stays : taken ≡ min (taken + 0) (2 ^ 64 - 1) = omega arith in record {
      wrote = record { same_known = refl; same_store = refl; same_roots = refl; same_close = refl; grown = Appends-nil (told writer); counted = stays };
      deliveries = longer;
      failed = none;
    }

-- a section is what is due
pub section-text : (known : Known) (store : Blocks) (ds : List Delivery) (d : Delivery) (place : ℕ) (head block : List ℕ) → is_below (cut_behind ds) d.visit.depth ≡ false → unwritten_block store (kept ds) d ≡ Some place → is_known known d.visit.cid ≡ false → slice_get (map (λ e. e.1) store) place ≡ Some block
    → head ≡ varint_of (length (d.visit.cid ++ block)) ++ d.visit.cid → head ++ block ≡ text_due known store ds d
section-text known store ds d place head block uncut due new at is =
    let found : position_of store d.visit.cid ≡ Some place = (due-told store (kept ds) d place due).2 in
    ap (λ l. l ++ block) is ∙ append_assoc (varint_of (length (d.visit.cid ++ block))) d.visit.cid block
    ∙ sym (due-section known store ds d place block uncut due new (block_at place store d.visit.cid block (sym found) at))

-- the position of the block of a section that is due
pub due-within : (store : Blocks) (ks : List Delivery) (d : Delivery) (place : ℕ) → unwritten_block store ks d ≡ Some place → place < length store
due-within store ks d place due = place_within place store d.visit.cid (sym (due-told store ks d place due).2)

-- a delivery whose section was written whole
pub adds-section : {W : Type 0} (told : W → Option (List ℕ)) (d : Delivery) (store : Blocks) (roots : List (List ℕ)) (known : Option PlaceSet) (ds es failed : List Delivery) (closed : List End) (taken more n : ℕ) (writer later : W) (text due : List ℕ) → failed ≡ [] → es ≡ ds ++ d ∷ [] → text ≡ due → n ≤ length text → length text ≤ n
    → Appends (told writer) (told later) (take n text) → more ≡ at_most 64 (taken + n)
    → IsAdded told d due (record { store = store; roots = roots; known = known; deliveries = ds; failed = failed; closed = closed; taken = taken; writer = writer }) (record { store = store; roots = roots; known = known; deliveries = es; failed = failed; closed = closed; taken = more; writer = later })
adds-section told d store roots known ds es failed closed taken more n writer later text due none longer is within whole grown counted =
    let many : n ≡ length due = let same : n ≡ length text = omega arith in same ∙ ap length is in record {
      wrote = record {
        same_known = refl;
        same_store = refl;
        same_roots = refl;
        same_close = refl;
        grown = subst (λ l. Appends (told writer) (told later) l) (take_all n text whole ∙ is) grown;
        counted = counted ∙ ap (λ m. at_most 64 (taken + m)) many;
      };
      deliveries = longer;
      failed = none;
    }

-- a delivery whose section was written in part
pub fails-section : {W : Type 0} (told : W → Option (List ℕ)) (d : Delivery) (store : Blocks) (roots : List (List ℕ)) (known : Option PlaceSet) (ds es failed : List Delivery) (closed : List End) (taken more n : ℕ) (writer later : W) (text due : List ℕ) → es ≡ ds → text ≡ due → n < length text
    → Appends (told writer) (told later) (take n text) → more ≡ at_most 64 (taken + n)
    → IsFailed told d due (record { store = store; roots = roots; known = known; deliveries = ds; failed = failed; closed = closed; taken = taken; writer = writer }) (record { store = store; roots = roots; known = known; deliveries = es; failed = d ∷ []; closed = closed; taken = more; writer = later })
fails-section told d store roots known ds es failed closed taken more n writer later text due same is short grown counted =
    let within : n ≤ length text = omega arith in record {
      part = take n text;
      proper = subst (λ l. IsProperPrefix (take n text) l) is (proper-take n text short);
      wrote = record {
        same_known = refl;
        same_store = refl;
        same_roots = refl;
        same_close = refl;
        grown = grown;
        counted = counted ∙ ap (λ m. at_most 64 (taken + m)) (sym (length-take-le n text within));
      };
      deliveries = same;
      failed = refl;
    }

-- a writer that took a part of a header
pub begins-in_part : {W : Type 0} (told : W → Option (List ℕ)) (writer later : W) (roots : List (List ℕ)) (header : List ℕ) (n : ℕ) → header ≡ header_of roots → n < length header → Appends (told writer) (told later) (take n header) → told writer ≡ Some [] → TookPartOfHeader (told later) roots
begins-in_part told writer later roots header n is short grown fresh = (
  take n header,
  appended [] (take n header) (told later) (subst (λ o. Appends o (told later) (take n header)) fresh grown),
  subst (λ l. IsProperPrefix (take n header) l) is (proper-take n header short),
)

-- an archive whose header was written
pub begins-archived : {W : Type 0} (told : W → Option (List ℕ)) (writer later : W) (store : Blocks) (job : JobMeaning) (roots : List (List ℕ)) (known : Option PlaceSet) (header : List ℕ) (ds : List Delivery) (n : ℕ) → roots ≡ job.roots → header ≡ header_of job.roots → ds ≡ [] → n ≤ length header → length header ≤ n → n ≤ 2 ^ 64 - 1
    → Appends (told writer) (told later) (take n header)
    → HasArchived told (record { store = store; roots = roots; known = known; deliveries = ds; failed = []; closed = []; taken = n; writer = later }) (known_at store known) store job (told writer)
begins-archived told writer later store job roots known header ds n same is none within whole fits grown =
    let took : told writer ≡ Some [] → told later ≡ Some header = λ fresh. appended [] (take n header) (told later) (subst (λ o. Appends o (told later) (take n header)) fresh grown) ∙ ap Some (take_all n header whole) in record {
      same_known = refl;
      same_store = refl;
      same_roots = same;
      written = λ fresh. took fresh ∙ ap Some (is ∙ sym (append-nil (header_of job.roots))) ∙ ap (λ l. Some (archive_without (known_at store known) store job.roots (kept l))) (sym none);
      counted = λ fresh bytes tells. let one : bytes ≡ header = same_Some bytes header (sym tells ∙ took fresh) in
          let many : n ≡ min (length header) (2 ^ 64 - 1) = omega arith in many ∙ ap (λ l. at_most 64 (length l)) (sym one);
    }

-- deliveries close nothing
pub open-push : (es : List Event) (x : Delivery) → IsOpen es → IsOpen (es ++ delivery x ∷ [])
open-push [] x h = tt
open-push (delivery y ∷ es) x h = open-push es x h
open-push (close e ∷ es) x h = absurd h

-- nothing is closed if there was no event
pub open-at_first : {W : Type 0} (a : ArchiveMeaning W) → a.deliveries ≡ [] → a.closed ≡ [] → IsOpen (events_of a)
open-at_first a none unclosed =
    let e : events_of a ≡ [] = ap (λ l. map delivery l ++ map close a.closed) none ∙ ap (λ l. map close l) unclosed in subst (λ l. IsOpen l) (sym e) tt
