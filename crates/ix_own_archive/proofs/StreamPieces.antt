-- A piece of a stream, and its end.
use Rattle.std.proofs.Common.{◌≡◌, ℕ, ◌-◌, ◌<◌, ◌^◌, Bool, true, false, List, [], ◌++◌, length, map, refl, sym, ◌∙◌, ap, subst, arith, append_assoc, append-nil, length-append}
use Rattle.std.specs.Prelude.{Ok}
use Rattle.std.specs.List.{AllByRecursion}
use Rattle.ix_cid.specs.Cid.{IsCid}
use Rattle.ix_store.specs.Store.{Blocks}
use Rattle.ix_sections.specs.declared.fault.CarKind.TheVariants as kinds
use Rattle.ix_receive.specs.declared.counts.Counts.{Counts}
use Rattle.ix_receive.specs.declared.fault.ReceiveFault.{ReceiveFault}
use Rattle.ix_receive.specs.Keeping.{kept_of}
use Rattle.ix_receive.specs.Own.{archive_bytes}
use Rattle.ix_receive.specs.Receiving.{OwnAreReceived}
use Rattle.ix_receive.specs.Reception.{Reception, nothing_received_with, IsWhole, IsUnfinished}
use Rattle.ix_own_archive.specs.declared.fault.ArchiveReason.{ArchiveReason}
use Rattle.ix_own_archive.specs.declared.fault.ArchiveReason.TheVariants.{Header, Section, Unfinished, Memory}
use Rattle.ix_own_archive.specs.declared.stream_asked.ExpectedHeader.{ExpectedHeader}
use Rattle.ix_own_archive.specs.declared.stream_asked.ExpectedHeader.TheVariants.{OfJob, Any}
use Rattle.ix_own_archive.specs.declared.stream_fault.StreamReason.{StreamReason}
use Rattle.ix_own_archive.specs.declared.stream_fault.StreamReason.TheVariants.{Archive, HeaderLength, SectionLength, Ended}
use Rattle.ix_own_archive.specs.Checking.{IsReceivedUpTo, IsRightlyNotWith}
use Rattle.ix_own_archive.specs.Fronts.{is_whole}
use Rattle.ix_own_archive.specs.Streaming.{Asked, Stream, AreChecked, AreParts, no_part, some_parts, IsWaiting, for_header, for_section, TakesOn, StopsAt, IsStreamFault, IsStop, IsStoppedAt, IsWholeStream, taken_of, IsCutAt, AreKeptOf, of_none, of_sections}
use Rattle.ix_own_archive.specs.Taking.{TakenBytes, with_piece, all_released, MovesOn, HasChecked, IsKept, before, within, IsHeld, IsHeadTaken, StopsHere, TakesPiece, StopsAtPiece, stream_of}
use Rattle.ix_own_archive.proofs.Receiving.{is-own}
use Rattle.ix_own_archive.proofs.Rightly.{end-not}
use Rattle.ix_own_archive.proofs.Fronts.{section-cut}
use Rattle.ix_own_archive.proofs.StreamHeaders.{header-cut-off, header-checked}
use Rattle.ix_own_archive.proofs.Streams.{not-moved, moved-more, so-far, is-archive, is-only, stream-fault, section-stop}

-- ---- what is kept

-- of the sections that are checked
pub are-kept : (asked : Asked) (b : TakenBytes) (old new : Reception) (kept : Blocks) → IsKept asked b old → new.sections ≡ old.sections → kept ≡ map kept_of new.sections → AreKeptOf asked b.checked kept
are-kept asked b old new kept (before none first at cut) same is =
    of_none none (is ∙ ap (map kept_of) (same ∙ ap (λ (r : Reception). r.sections) at))
are-kept asked b old new kept (within has cut) same is = of_sections old has.bytes (is ∙ ap (map kept_of) same)

-- once a part is checked, it is a header
pub kept-within : (asked : Asked) (b : TakenBytes) (r : Reception) → 0 < b.parts → IsKept asked b r → HasChecked asked b r × (is_whole asked.limits.section b.rest ≡ Ok false)
kept-within asked b r some (before none first at cut) = absurd (omega (arith, some, first))
kept-within asked b r some (within has cut) = (has, cut)

-- before the header
pub record IsKeptBefore (asked : Asked) (b : TakenBytes) (r : Reception) : Type 0 where
  pub none : b.checked ≡ []
  pub at : r ≡ nothing_received_with asked.base asked.job asked.allowed
  pub cut : is_whole asked.limits.header b.rest ≡ Ok false

pub kept-before : (asked : Asked) (b : TakenBytes) (r : Reception) → b.parts ≡ 0 → IsKept asked b r → IsKeptBefore asked b r
kept-before asked b r first (before none zero at cut) = record { none = none; at = at; cut = cut }
kept-before asked b r first (within has cut) = absurd (omega (arith, first, has.parts))

-- the parts that are checked
pub has-parts : (asked : Asked) (b : TakenBytes) (r : Reception) → HasChecked asked b r → AreParts asked b.checked (b.parts - 1)
has-parts asked b r has = some_parts r has.bytes (omega (arith, has.parts))

pub kept-parts : (asked : Asked) (b : TakenBytes) (r : Reception) → IsKept asked b r → AreParts asked b.checked (b.parts - 1)
kept-parts asked b r (before none first at cut) = no_part none (omega (arith, first))
kept-parts asked b r (within has cut) = has-parts asked b r has

pub kept-waits : (asked : Asked) (b : TakenBytes) (r : Reception) → IsKept asked b r → IsWaiting asked b.checked b.rest (b.parts - 1)
kept-waits asked b r (before none first at cut) = for_header none (omega (arith, first)) cut
kept-waits asked b r (within has cut) = for_section r has.bytes (omega (arith, has.parts)) cut

-- ---- a piece

-- before a header that isn't whole with it
pub piece-waits : (asked : Asked) (b : TakenBytes) (piece : List ℕ) (one new : TakenBytes) (r : Reception) → one ≡ with_piece piece b → b.parts ≡ 0 → IsKept asked b r → IsHeadTaken asked one new false → TakesPiece asked b piece new r
piece-waits asked b piece one new r is first kept head =
    let k = kept-before asked b r first kept in
    let same : new ≡ with_piece piece b = head.0 ∙ is in
    let cut : is_whole asked.limits.header (b.rest ++ piece) ≡ Ok false = subst (λ (n : TakenBytes). is_whole asked.limits.header n.rest ≡ Ok false) is head.1 in
    subst (λ (n : TakenBytes). TakesPiece asked b piece n r) (sym same)
    (record { moved = not-moved (with_piece piece b); kept = before k.none first k.at cut })

-- with a header that is checked
pub piece-headed : (asked : Asked) (b : TakenBytes) (piece : List ℕ) (one new : TakenBytes) (r : Reception) → one ≡ with_piece piece b → b.parts ≡ 0 → IsKept asked b r → IsHeadTaken asked one new true → HasChecked asked new r × MovesOn (with_piece piece b) new
piece-headed asked b piece one new r is first kept head =
    let k = kept-before asked b r first kept in
    let at = subst (λ (n : TakenBytes). IsHeadTaken asked n new true) is head in (
      header-checked asked (with_piece piece b) new r at.0 k.none first k.at at.1 at.2,
      moved-more (with_piece piece b) (with_piece piece b) new at.0 (not-moved (with_piece piece b)) at.2,
    )

-- all bytes with one more piece
piece-taken : (b : TakenBytes) (piece : List ℕ) (new : TakenBytes) → MovesOn (with_piece piece b) new → new.checked ++ new.rest ≡ (b.checked ++ b.rest) ++ piece
piece-taken b piece new moved =
    ap (λ (l : List ℕ). l ++ new.rest) moved.checked ∙ append_assoc b.checked moved.moved new.rest
    ∙ ap (λ (l : List ℕ). b.checked ++ l) (sym moved.rest) ∙ sym (append_assoc b.checked b.rest piece)

-- where a stream stops with a piece
pub piece-stops : (asked : Asked) (b : TakenBytes) (piece : List ℕ) (new : TakenBytes) (reason : StreamReason) → MovesOn (with_piece piece b) new → StopsHere asked new reason → StopsAtPiece asked b piece new reason
piece-stops asked b piece new reason moved here = record {
  grown = (moved.moved, moved.checked);
  released = moved.released;
  parts = here.parts;
  stop = λ more. subst (λ (l : List ℕ). IsStop asked (l ++ more) (length new.checked) reason) (piece-taken b piece new moved) (here.stop more);
}

-- no memory
memory-fault : (h : ExpectedHeader) (asked : Asked) (stream : List ℕ) (place : ℕ) → IsStreamFault h asked stream place Memory
memory-fault OfJob asked stream place = tt
memory-fault Any asked stream place = tt

pub piece-lost : (asked : Asked) (b : TakenBytes) (r : Reception) (piece : List ℕ) (new : TakenBytes) → IsKept asked b r → new ≡ b → StopsAtPiece asked b piece new (Archive Memory)
piece-lost asked b r piece new kept same =
    subst (λ (n : TakenBytes). StopsAtPiece asked b piece n (Archive Memory)) (sym same)
    (record {
      grown = ([], sym (append-nil b.checked));
      released = refl;
      parts = kept-parts asked b r kept;
      stop = λ more. (memory-fault asked.header asked (((b.checked ++ b.rest) ++ piece) ++ more) (length b.checked), λ archive of small. tt);
    })

-- ---- a receiver of a stream

pub takes-on : (asked : Asked) (b : TakenBytes) (piece : List ℕ) (new : TakenBytes) (r : Reception) (ended : Bool) → ended ≡ false → TakesPiece asked b piece new r → TakesOn (stream_of asked b ended) piece (stream_of asked new false)
takes-on asked b piece new r ended was takes = record {
  was_going = was;
  asked = refl;
  taken = piece-taken b piece new takes.moved;
  released = takes.moved.released;
  grown = (takes.moved.moved, takes.moved.checked);
  going = record { going = refl; waits = kept-waits asked new r takes.kept };
}

pub stops-at : (asked : Asked) (b : TakenBytes) (piece : List ℕ) (new : TakenBytes) (ended : Bool) (reason : StreamReason) (place : ℕ) → ended ≡ false → place ≡ length new.checked → StopsAtPiece asked b piece new reason
    → StopsAt (stream_of asked b ended) (stream_of asked new true) place
stops-at asked b piece new ended reason place was is stops = record {
  asked = refl;
  released = stops.released;
  grown = stops.grown;
  parts = stops.parts;
  ended = refl;
  stays = λ stopped. absurd (cc (was, stopped));
  offset = is;
}

-- one that has ended stays so
pub stays-stopped : (asked : Asked) (b : TakenBytes) (r : Reception) (ended : Bool) (s : Stream) (place : ℕ) → stream_of asked b ended ≡ s → ended ≡ true → IsHeld asked b r ended → place ≡ length b.checked → StopsAt s s place
stays-stopped asked b r ended s place is stopped held at =
    subst (λ (x : Stream). StopsAt x x place) is
    (record { asked = refl; released = refl; grown = ([], sym (append-nil b.checked)); parts = held.parts; ended = stopped; stays = λ _. refl; offset = at })

stopped-with : (s : Stream) (piece : List ℕ) (place : ℕ) (reason : StreamReason) → ((more : List ℕ) → IsStop s.asked ((taken_of s ++ piece) ++ more) place reason) → IsStoppedAt s piece place reason
stopped-with s piece place (Archive reason) stop = stop
stopped-with s piece place (HeaderLength n) stop = stop
stopped-with s piece place (SectionLength n) stop = stop
stopped-with s piece place Ended stop = absurd (stop [])

-- why it stops
pub stopped-at : (asked : Asked) (b : TakenBytes) (piece : List ℕ) (new : TakenBytes) (ended : Bool) (reason : StreamReason) (place : ℕ) → place ≡ length new.checked → StopsAtPiece asked b piece new reason
    → IsStoppedAt (stream_of asked b ended) piece place reason
stopped-at asked b piece new ended reason place is stops =
    stopped-with (stream_of asked b ended) piece place reason
    (λ more. subst (λ (n : ℕ). IsStop asked (((b.checked ++ b.rest) ++ piece) ++ more) n reason) (sym is) (stops.stop more))

-- why its end is refused
pub cut-at : (asked : Asked) (b : TakenBytes) (ended : Bool) (s : Stream) (place : ℕ) (reason : ArchiveReason) → stream_of asked b ended ≡ s → place ≡ length b.checked
    → IsStop asked (b.checked ++ b.rest) (length b.checked) (Archive reason) → IsCutAt s place (Archive reason)
cut-at asked b ended s place reason is at stop =
    subst (λ (x : Stream). IsCutAt x place (Archive reason)) is
    (at, subst (λ (n : ℕ). IsStop asked (b.checked ++ b.rest) n (Archive reason)) (sym at) stop)

-- what is kept, once it takes a piece or stops
pub held-on : (asked : Asked) (b : TakenBytes) (piece : List ℕ) (new : TakenBytes) (r : Reception) → TakesPiece asked b piece new r → IsHeld asked new r false
held-on asked b piece new r takes = record { parts = kept-parts asked new r takes.kept; going = λ _. takes.kept }

pub held-stopped : (asked : Asked) (b : TakenBytes) (piece : List ℕ) (new : TakenBytes) (r : Reception) (reason : StreamReason) → StopsAtPiece asked b piece new reason → IsHeld asked new r true
held-stopped asked b piece new r reason stops = record { parts = stops.parts; going = λ e. absurd (cc e) }

kept-released : (asked : Asked) (b : TakenBytes) (r : Reception) → IsKept asked b r → IsKept asked (all_released b) r
kept-released asked b r (before none first at cut) = before none first at cut
kept-released asked b r (within has cut) = within (record { parts = has.parts; bytes = has.bytes }) cut

-- or releases what is checked
pub held-released : (asked : Asked) (b new : TakenBytes) (r : Reception) (ended : Bool) → new ≡ all_released b → IsHeld asked b r ended → IsHeld asked new r ended
held-released asked b new r ended is held =
    subst (λ (n : TakenBytes). IsHeld asked n r ended) (sym is) (record { parts = held.parts; going = λ e. kept-released asked b r (held.going e) })

-- ---- the end

-- before the header is whole
pub end-before : (asked : Asked) (b : TakenBytes) (r : Reception) (rest : List ℕ) → rest ≡ b.rest → length rest < 2 ^ 63 → b.parts ≡ 0 → IsKept asked b r
    → IsStop asked (b.checked ++ b.rest) (length b.checked) (Archive (Header kinds.Truncated))
end-before asked b r rest is small first kept =
    let k = kept-before asked b r first kept in
    header-cut-off asked b.checked b.rest k.none (omega (arith, small, ap length is)) k.cut

-- inside a section
pub end-within : (asked : Asked) (b : TakenBytes) (r : Reception) → OwnAreReceived asked.base → AllByRecursion IsCid asked.job.roots → 0 < length b.rest → 0 < b.parts → IsKept asked b r
    → IsStop asked (b.checked ++ b.rest) (length b.checked) (Archive (Section kinds.Truncated))
end-within asked b r each roots some parts kept =
    let k = kept-within asked b r parts kept in
    section-stop asked b.checked r k.0.bytes each roots b.rest (Section kinds.Truncated) some (length b.rest, section-cut asked.limits.section b.rest k.1)

module _ (asked : Asked) (checked rest : List ℕ) (r : Reception) (are : AreChecked asked checked r) (none : rest ≡ []) where
  -- all was received
  pub all-received : IsReceivedUpTo asked.base asked.job asked.allowed (archive_bytes asked.job.roots r.sections ++ rest) [] r
  all-received = subst (λ (l : List ℕ). IsReceivedUpTo asked.base asked.job asked.allowed (archive_bytes asked.job.roots r.sections ++ rest) l r) none ((so-far asked checked r are rest).up)

  pub whole-stream : (counts : Counts) → IsWhole r counts → IsWholeStream asked (checked ++ rest) counts
  whole-stream counts whole = record {
    archive = archive_bytes asked.job.roots r.sections ++ rest;
    is = is-archive asked checked r are rest;
    own = is-own asked.base asked.job asked.allowed (archive_bytes asked.job.roots r.sections ++ rest) rest r counts ((so-far asked checked r are rest).up) none whole;
    accepted = record { last = r; all = all-received; whole = whole };
  }

  -- and the end is refused
  pub unfinished-stream : (fault : ReceiveFault) → OwnAreReceived asked.base → AllByRecursion IsCid asked.job.roots → IsUnfinished r fault → IsStop asked (checked ++ rest) (length checked) (Archive (Unfinished fault))
  unfinished-stream fault each roots found =
      let a = archive_bytes asked.job.roots r.sections in
      let size : length a ≡ length (a ++ rest) = omega (arith, ap length none, length-append a rest) in (
        stream-fault asked checked r are asked.header refl rest (Unfinished fault) tt (record { last = r; all = all-received; offset = size; found = found }),
        λ archive of small.
            let same = is-only asked checked r are rest archive of in
            let short : length (a ++ rest) < 2 ^ 63 = subst (λ (l : List ℕ). length l < 2 ^ 63) same small in
            subst (λ (l : List ℕ). IsRightlyNotWith asked.base asked.job l (Unfinished fault)) (sym same)
            (end-not asked.base asked.job asked.allowed (a ++ rest) each roots short rest r fault (so-far asked checked r are rest) none found),
      )
