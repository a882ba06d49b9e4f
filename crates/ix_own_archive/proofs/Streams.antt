-- A stream as far as it is checked, and what stops it, whatever follows.
use Rattle.std.proofs.Common.{◌≡◌, ℕ, ◌+◌, ◌<◌, ◌≤◌, ◌^◌, true, List, [], ◌∷◌, ◌++◌, length, take, drop, refl, sym, ◌∙◌, ap, subst, arith, append_assoc, append-nil, length-append, take-append-drop}
use Rattle.std.specs.Prelude.{Some, Ok}
use Rattle.std.specs.List.{AllByRecursion}
use Rattle.std.proofs.lemmas.List.{take_at, drop_at}
use Rattle.ix_cid.specs.Cid.{IsCid}
use Rattle.ix_cid.proofs.Results.{ok_same}
use Rattle.ix_walk.specs.JobMeaning.{JobMeaning}
use Rattle.ix_walk.proofs.Links.{all-append}
use Rattle.ix_sections.specs.Reading.{Fault, header_at}
use Rattle.ix_sections.specs.Writing.{header_of, section_with}
use Rattle.ix_receive.specs.Own.{archive_bytes}
use Rattle.ix_receive.specs.Receiving.{OwnAreReceived}
use Rattle.ix_receive.specs.Reception.{Reception}
use Rattle.ix_own_archive.specs.declared.fault.ArchiveReason.{ArchiveReason}
use Rattle.ix_own_archive.specs.declared.fault.ArchiveReason.TheVariants.{Header, OtherHeader, Section, Refused, Unfinished, Memory}
use Rattle.ix_own_archive.specs.declared.stream_asked.ExpectedHeader.{ExpectedHeader}
use Rattle.ix_own_archive.specs.declared.stream_asked.ExpectedHeader.TheVariants.{OfJob, Any}
use Rattle.ix_own_archive.specs.declared.stream_fault.StreamReason.{StreamReason}
use Rattle.ix_own_archive.specs.declared.stream_fault.StreamReason.TheVariants.{Archive, HeaderLength, SectionLength, Ended}
use Rattle.ix_own_archive.specs.Checking.{IsSectionReason, IsFaultAtWith, IsRightlyNotWith}
use Rattle.ix_own_archive.specs.Fronts.{is_whole}
use Rattle.ix_own_archive.specs.Streaming.{Asked, IsExpected, AreChecked, some_parts, IsArchiveOf, IsFaultIn, IsStreamFault, IsAbove, IsStop}
use Rattle.ix_own_archive.specs.Taking.{TakenBytes, HasChecked, HasTaken, MovesOn, IsNotNext, StopsHere}
use Rattle.ix_own_archive.proofs.Receiving.{texts_of, texts-more}
use Rattle.ix_own_archive.proofs.Rightly.{IsSoFar, one-more-so-far, section-not}
use Rattle.ix_own_archive.proofs.Fronts.{with_more, section-more, above-more, above-read}

-- ---- the archive that a stream is

-- with a header that is expected and sections, it is that of the job's roots and these sections, with the same rest
archive-of : (h : ExpectedHeader) (job : JobMeaning) (header texts checked rest : List ℕ) → IsExpected h job header → checked ≡ header ++ texts → IsArchiveOf h job (checked ++ rest) ((header_of job.roots ++ texts) ++ rest)
archive-of OfJob job header texts checked rest expected is = ap (λ (l : List ℕ). l ++ rest) (sym (is ∙ ap (λ (l : List ℕ). l ++ texts) expected))
archive-of Any job header texts checked rest expected is = (
  texts ++ rest,
  ap header_at (ap (λ (l : List ℕ). l ++ rest) is ∙ append_assoc header texts rest) ∙ expected (texts ++ rest),
  append_assoc (header_of job.roots) texts rest,
)

-- and no other
only-archive : (h : ExpectedHeader) (job : JobMeaning) (header texts checked rest archive : List ℕ) → IsExpected h job header → checked ≡ header ++ texts → IsArchiveOf h job (checked ++ rest) archive → archive ≡ (header_of job.roots ++ texts) ++ rest
only-archive OfJob job header texts checked rest archive expected is of = of ∙ ap (λ (l : List ℕ). l ++ rest) (is ∙ ap (λ (l : List ℕ). l ++ texts) expected)
only-archive Any job header texts checked rest archive expected is of =
    let read : header_at (checked ++ rest) ≡ Ok (texts ++ rest) = ap header_at (ap (λ (l : List ℕ). l ++ rest) is ∙ append_assoc header texts rest) ∙ expected (texts ++ rest) in
    let body : of.0 ≡ texts ++ rest = ok_same {E = Fault} of.0 (texts ++ rest) (sym of.1 ∙ read) in
    of.2 ∙ ap (λ (l : List ℕ). header_of job.roots ++ l) body ∙ sym (append_assoc (header_of job.roots) texts rest)

-- ---- a section that isn't received

-- why it isn't stays, whatever follows
reason-more : (limit : ℕ) (r : Reception) (b more : List ℕ) (reason : ArchiveReason) → is_whole limit b ≡ Ok true → IsSectionReason r b reason → IsSectionReason r (b ++ more) reason
reason-more limit r b more (Header kind) whole found = found
reason-more limit r b more OtherHeader whole found = found
reason-more limit r b more (Section kind) whole found =
    (found.0 + length more, section-more limit b more whole ∙ ap (with_more (λ (s : (List ℕ × List ℕ) × List ℕ). (s.0, s.1 ++ more)) (length more)) found.1)
reason-more limit r b more (Refused c fault) whole found = record {
  block = found.block;
  rest = found.rest ++ more;
  written = ap (λ (l : List ℕ). l ++ more) found.written ∙ append_assoc (section_with c (Some found.block)) found.rest more;
  cid = found.cid;
  refused = found.refused;
  rightly = found.rightly;
}
reason-more limit r b more (Unfinished fault) whole found = found
reason-more limit r b more Memory whole found = tt

-- nothing is whole in no bytes
whole-some : (limit : ℕ) (b : List ℕ) → is_whole limit b ≡ Ok true → 0 < length b
whole-some limit [] whole = absurd (cc whole)
whole-some limit (x ∷ xs) whole = omega arith

-- a reason that isn't of the header
abbrev pub IsLate : ArchiveReason → Type 0
IsLate (Header kind) = ⊥
IsLate OtherHeader = ⊥
IsLate (Section kind) = Unit {0}
IsLate (Refused c fault) = Unit {0}
IsLate (Unfinished fault) = Unit {0}
IsLate Memory = Unit {0}

is-late : (r : Reception) (b : List ℕ) (reason : ArchiveReason) → IsSectionReason r b reason → IsLate reason
is-late r b (Header kind) found = found
is-late r b OtherHeader found = found
is-late r b (Section kind) found = tt
is-late r b (Refused c fault) found = tt
is-late r b (Unfinished fault) found = tt
is-late r b Memory found = tt

module _ (asked : Asked) (checked : List ℕ) (r : Reception) (are : AreChecked asked checked r) where
  -- the archive with what was received and this rest
  abbrev jobs_archive : List ℕ → List ℕ
  jobs_archive rest = archive_bytes asked.job.roots r.sections ++ rest

  pub so-far : (rest : List ℕ) → IsSoFar asked.base asked.job asked.allowed (jobs_archive rest) rest r
  so-far rest = record { up = record { bytes = refl; same = are.same; received = are.received }; cids = are.cids }

  pub is-archive : (rest : List ℕ) → IsArchiveOf asked.header asked.job (checked ++ rest) (jobs_archive rest)
  is-archive rest = archive-of asked.header asked.job are.header (texts_of r.sections) checked rest are.expected are.bytes

  pub is-only : (rest archive : List ℕ) → IsArchiveOf asked.header asked.job (checked ++ rest) archive → archive ≡ jobs_archive rest
  is-only rest archive of = only-archive asked.header asked.job are.header (texts_of r.sections) checked rest archive are.expected are.bytes of

  -- under the header of the job's roots it is the stream
  jobs-checked : asked.header ≡ OfJob → checked ≡ archive_bytes asked.job.roots r.sections
  jobs-checked jobs = are.bytes ∙ ap (λ (l : List ℕ). l ++ texts_of r.sections) (subst (λ (h : ExpectedHeader). IsExpected h asked.job are.header) jobs are.expected)

  -- a fault of the section after what was received
  section-fault : (rest : List ℕ) (reason : ArchiveReason) → IsSectionReason r rest reason → IsFaultAtWith asked.base asked.job asked.allowed (jobs_archive rest) (length (archive_bytes asked.job.roots r.sections)) reason
  section-fault rest (Header kind) found = absurd found
  section-fault rest OtherHeader found = absurd found
  section-fault rest (Section kind) found = record { last = r; rest = rest; before = (so-far rest).up; offset = omega (arith, length-append (archive_bytes asked.job.roots r.sections) rest); found = found }
  section-fault rest (Refused c fault) found = record { last = r; rest = rest; before = (so-far rest).up; offset = omega (arith, length-append (archive_bytes asked.job.roots r.sections) rest); found = found }
  section-fault rest (Unfinished fault) found = absurd found
  section-fault rest Memory found = tt

  -- a fault of the archive at the end of what was received is one of the stream
  fault-in : (rest : List ℕ) (reason : ArchiveReason) → IsFaultAtWith asked.base asked.job asked.allowed (jobs_archive rest) (length (archive_bytes asked.job.roots r.sections)) reason → IsFaultIn asked (checked ++ rest) (length checked) reason
  fault-in rest reason found = record {
    archive = jobs_archive rest;
    is = is-archive rest;
    at = length (archive_bytes asked.job.roots r.sections);
    offset = omega (arith, length-append checked rest, length-append (archive_bytes asked.job.roots r.sections) rest);
    found = found;
  }

  fault-of_jobs : asked.header ≡ OfJob → (rest : List ℕ) (reason : ArchiveReason) → IsFaultAtWith asked.base asked.job asked.allowed (jobs_archive rest) (length (archive_bytes asked.job.roots r.sections)) reason → IsFaultAtWith asked.base asked.job asked.allowed (checked ++ rest) (length checked) reason
  fault-of_jobs jobs rest reason found = subst (λ (l : List ℕ). IsFaultAtWith asked.base asked.job asked.allowed (l ++ rest) (length l) reason) (sym (jobs-checked jobs)) found

  -- of a section or the end
  pub stream-fault : (h : ExpectedHeader) → asked.header ≡ h → (rest : List ℕ) (reason : ArchiveReason) → IsLate reason
      → IsFaultAtWith asked.base asked.job asked.allowed (jobs_archive rest) (length (archive_bytes asked.job.roots r.sections)) reason → IsStreamFault h asked (checked ++ rest) (length checked) reason
  stream-fault OfJob is rest reason late found = fault-of_jobs is rest reason found
  stream-fault Any is rest (Header kind) late found = absurd late
  stream-fault Any is rest OtherHeader late found = absurd late
  stream-fault Any is rest (Section kind) late found = fault-in rest (Section kind) found
  stream-fault Any is rest (Refused c fault) late found = fault-in rest (Refused c fault) found
  stream-fault Any is rest (Unfinished fault) late found = fault-in rest (Unfinished fault) found
  stream-fault Any is rest Memory late found = tt

  module _ (each : OwnAreReceived asked.base) (roots : AllByRecursion IsCid asked.job.roots) where
    -- where a section isn't received, the stream stops
    pub section-stop : (rest : List ℕ) (reason : ArchiveReason) → 0 < length rest → IsSectionReason r rest reason → IsStop asked (checked ++ rest) (length checked) (Archive reason)
    section-stop rest reason some found = (
      stream-fault asked.header refl rest reason (is-late r rest reason found) (section-fault rest reason found),
      λ archive of small.
          let same = is-only rest archive of in
          let short : length (jobs_archive rest) < 2 ^ 63 = subst (λ (l : List ℕ). length l < 2 ^ 63) same small in
          subst (λ (l : List ℕ). IsRightlyNotWith asked.base asked.job l reason) (sym same) (section-not asked.base asked.job asked.allowed (jobs_archive rest) each roots short rest r reason (so-far rest) some found),
    )

    -- whatever follows
    not-next : (limit : ℕ) (rest more : List ℕ) (reason : StreamReason) → limit ≡ asked.limits.section → IsNotNext limit rest r reason → IsStop asked ((checked ++ rest) ++ more) (length checked) reason
    not-next limit rest more (Archive reason) is found =
        let some = whole-some limit rest found.0 in
        subst (λ (l : List ℕ). IsStop asked l (length checked) (Archive reason)) (sym (append_assoc checked rest more))
        (section-stop (rest ++ more) reason (omega (arith, some, length-append rest more)) (reason-more limit r rest more reason found.0 found.1))
    not-next limit rest more (HeaderLength n) is found = absurd found
    not-next limit rest more (SectionLength n) is found = record {
      checked = checked;
      rest = rest ++ more;
      last = r;
      before = are;
      bytes = append_assoc checked rest more;
      offset = refl;
      above = subst (λ (m : ℕ). IsAbove m (rest ++ more) n) is (above-read limit (rest ++ more) n (above-more limit rest more n found));
    }
    not-next limit rest more Ended is found = absurd found

-- a section that isn't next stops the stream
pub stops-here : (asked : Asked) (b : TakenBytes) (r : Reception) (reason : StreamReason) → OwnAreReceived asked.base → AllByRecursion IsCid asked.job.roots → HasChecked asked b r → IsNotNext asked.limits.section b.rest r reason → StopsHere asked b reason
stops-here asked b r reason each roots has found = record { parts = some_parts r has.bytes (omega (arith, has.parts)); stop = λ more. not-next asked b.checked r has.bytes each roots asked.limits.section b.rest more reason refl found }

-- ---- a section that is received

-- bytes that end in others
pub front-taken : (n : ℕ) (b text rest : List ℕ) → b ≡ text ++ rest → n + length rest ≡ length b → (take n b ≡ text) × (drop n b ≡ rest)
front-taken n b text rest is size =
    let same : length text ≡ n = omega (arith, size, ap length is, length-append text rest) in
    (ap (take n) is ∙ take_at text rest n same, ap (drop n) is ∙ drop_at text rest n same)

-- the header and the sections with one more
one-checked : (asked : Asked) (checked rest : List ℕ) (n : ℕ) (old new : Reception) → AreChecked asked checked old → HasTaken asked.limits.section rest old new n → AreChecked asked (checked ++ take n rest) new
one-checked asked checked rest n old new are has =
    let far = one-more-so-far asked.base asked.job asked.allowed (archive_bytes asked.job.roots old.sections ++ rest) rest has.rest old new (so-far asked checked old are rest) has.received in
    let p = has.received.section in
    let text = section_with p.0 (Some p.1) in
    let taken = front-taken n rest text has.rest has.received.written has.size in
    let added : new.sections ≡ old.sections ++ p ∷ [] = ap (λ (x : Reception). x.sections) has.received.receives.after in
    let of_texts : List ℕ → List ℕ = λ l. are.header ++ l in
    record {
      header = are.header;
      expected = are.expected;
      text = are.text;
      spelled = are.spelled;
      short = are.short;
      bytes = ap (λ (l : List ℕ). checked ++ l) taken.0 ∙ ap (λ (l : List ℕ). l ++ text) are.bytes ∙ append_assoc are.header (texts_of old.sections) text
          ∙ ap of_texts (sym (texts-more old.sections p) ∙ ap texts_of (sym added));
      same = far.up.same;
      received = far.up.received;
      cids = far.cids;
      within = subst (AllByRecursion (λ (q : List ℕ × List ℕ). length (q.0 ++ q.1) ≤ asked.limits.section)) (sym added)
          (all-append (λ (q : List ℕ × List ℕ). length (q.0 ++ q.1) ≤ asked.limits.section) old.sections (p ∷ []) are.within (has.short, tt));
    }

-- and one part more
pub one-more-checked : (asked : Asked) (old new : TakenBytes) (r s : Reception) (n : ℕ) → HasChecked asked old r → HasTaken asked.limits.section old.rest r s n
    → new ≡ record { checked = old.checked ++ take n old.rest; rest = drop n old.rest; released = old.released; parts = old.parts + 1 } → HasChecked asked new s
one-more-checked asked old new r s n has taken is =
    let added : s.sections ≡ r.sections ++ taken.received.section ∷ [] = ap (λ (x : Reception). x.sections) taken.received.receives.after in
    let size : length s.sections ≡ length r.sections + 1 = ap length added ∙ length-append r.sections (taken.received.section ∷ []) in
    subst (λ (b : TakenBytes). HasChecked asked b s) (sym is)
    (record { parts = omega (arith, has.parts, size); bytes = one-checked asked old.checked old.rest n r s has.bytes taken })

-- ---- bytes that move on

pub not-moved : (b : TakenBytes) → MovesOn b b
not-moved b = record { moved = []; checked = sym (append-nil b.checked); rest = refl; released = refl }

pub moved-more : (first old new : TakenBytes) (n : ℕ) → MovesOn first old
    → new ≡ record { checked = old.checked ++ take n old.rest; rest = drop n old.rest; released = old.released; parts = old.parts + 1 } → MovesOn first new
moved-more first old new n moved is =
    let front = take n old.rest in
    let of_moved : List ℕ → List ℕ = λ l. moved.moved ++ l in
    subst (MovesOn first) (sym is)
    (record {
      moved = moved.moved ++ front;
      checked = ap (λ (l : List ℕ). l ++ front) moved.checked ∙ append_assoc first.checked moved.moved front;
      rest = moved.rest ∙ ap of_moved (sym (take-append-drop n old.rest)) ∙ sym (append_assoc moved.moved front (drop n old.rest));
      released = moved.released;
    })

-- one way after another
pub moves-on : (a b c : TakenBytes) → MovesOn a b → MovesOn b c → MovesOn a c
moves-on a b c h k =
    let of_moved : List ℕ → List ℕ = λ l. h.moved ++ l in
    record {
      moved = h.moved ++ k.moved;
      checked = k.checked ∙ ap (λ (l : List ℕ). l ++ k.moved) h.checked ∙ append_assoc a.checked h.moved k.moved;
      rest = h.rest ∙ ap of_moved k.rest ∙ sym (append_assoc h.moved k.moved c.rest);
      released = k.released ∙ h.released;
    }
