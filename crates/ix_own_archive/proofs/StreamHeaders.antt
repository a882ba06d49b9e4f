-- The header of a stream.
use Rattle.std.proofs.Common.{◌≡◌, ℕ, ◌+◌, ◌<◌, ◌^◌, true, false, List, [], ◌++◌, length, take, drop, refl, sym, ◌∙◌, ap, subst, arith, append-nil, length-append}
use Rattle.std.specs.Prelude.{Result, Option, Some, None, Ok, Err}
use Rattle.ix_cid.specs.Bytes.{AreBytes}
use Rattle.ix_cid.specs.Varint.{varint_at, varint_of}
use Rattle.ix_cid.proofs.VarintLaws.{IsVarint-varint_of}
use Rattle.ix_cid.proofs.GroupLaws.{some_group}
use Rattle.ix_cid.proofs.Results.{ok_same, bind_ok}
use Rattle.ix_walk.specs.JobMeaning.{JobMeaning}
use Rattle.ix_cbor.specs.Reading.{data_at}
use Rattle.ix_cbor.specs.Spelling.{spelling_of}
use Rattle.ix_sections.specs.declared.fault.CarKind.{CarKind}
use Rattle.ix_sections.specs.declared.fault.CarKind.TheVariants as kinds
use Rattle.ix_sections.specs.Gives.{FailsAs}
use Rattle.ix_sections.specs.Reading.{Fault, ◌>>=◌, text_at, header_at, header_fault, behind_header}
use Rattle.ix_sections.specs.Writing.{with_length, header_data, header_of}
use Rattle.ix_receive.specs.Reception.{Reception, nothing_received_with}
use Rattle.ix_receive.proofs.Received.{none-at-first}
use Rattle.ix_own_archive.specs.declared.fault.ArchiveReason.{ArchiveReason}
use Rattle.ix_own_archive.specs.declared.fault.ArchiveReason.TheVariants.{Header, OtherHeader, Section, Refused, Unfinished, Memory}
use Rattle.ix_own_archive.specs.declared.stream_asked.ExpectedHeader.{ExpectedHeader}
use Rattle.ix_own_archive.specs.declared.stream_asked.ExpectedHeader.TheVariants.{OfJob, Any}
use Rattle.ix_own_archive.specs.declared.stream_fault.StreamReason.TheVariants.{Archive, HeaderLength}
use Rattle.ix_own_archive.specs.Checking.{LacksHeader, IsHeaderReason, IsRightlyNotWith}
use Rattle.ix_own_archive.specs.Fronts.{is_whole}
use Rattle.ix_own_archive.specs.Streaming.{Asked, IsExpected, no_part, IsArchiveOf, IsStreamFault, IsRightlyNoStream, IsStop}
use Rattle.ix_own_archive.specs.Taking.{TakenBytes, IsHeaderAt, IsHeaderWrong, CantBeRead, StaysWrong, HasChecked, StopsHere}
use Rattle.ix_own_archive.proofs.Written.{text-after}
use Rattle.ix_own_archive.proofs.Headers.{header-fault}
use Rattle.ix_own_archive.proofs.Rightly.{header-not}
use Rattle.ix_own_archive.proofs.Fronts.{with_more, text-more, header-more, above-more, above-read, text-cut, header-cut, whole-within}
use Rattle.ix_own_archive.proofs.Streams.{front-taken}
use Rattle.ix_verify.proofs.TextsAgain.{text_again}

-- the header of roots, as it is written, is read as a text
jobs-text : (job : JobMeaning) (rest : List ℕ) → length (header_of job.roots) < 2 ^ 63 → text_at (header_of job.roots ++ rest) ≡ Ok (spelling_of (header_data job.roots), rest)
jobs-text job rest short =
    let text = spelling_of (header_data job.roots) in
    text_again text rest (omega (arith, short, length-append (varint_of (length text)) text))

-- a front that isn't the header of the job's roots stays so, if it is whole
lacks-more : (limit : ℕ) (job : JobMeaning) (b more : List ℕ) → AreBytes b → length (header_of job.roots) < 2 ^ 63 → is_whole limit b ≡ Ok true → LacksHeader job b → LacksHeader job (b ++ more)
lacks-more limit job b more fits short whole lacks rest same =
    let s = spelling_of (header_data job.roots) in
    let jobs : text_at (b ++ more) ≡ Ok (s, rest) = ap text_at same ∙ jobs-text job rest short in
    on_text (text_at b) refl (sym (text-more limit b more whole) ∙ jobs) where
      on_text : (r : Result (List ℕ × List ℕ) Fault) → text_at b ≡ r → with_more (λ (t : List ℕ × List ℕ). (t.0, t.1 ++ more)) (length more) r ≡ Ok (spelling_of (header_data job.roots), rest) → ⊥
      on_text (Ok t) read found =
          let front : t.0 ≡ spelling_of (header_data job.roots) = ap (λ (u : List ℕ × List ℕ). u.0) (ok_same {E = Fault} (t.0, t.1 ++ more) (spelling_of (header_data job.roots), rest) found) in
          lacks t.1 (text-after b t (varint_at b) fits refl read ∙ ap (λ (l : List ℕ). with_length l ++ t.1) front)
      on_text (Err f) read found = absurd (cc found)

-- bytes that aren't whole lack it
pub lacks-cut : (limit : ℕ) (job : JobMeaning) (b : List ℕ) → length b < 2 ^ 63 → is_whole limit b ≡ Ok false → LacksHeader job b
lacks-cut limit job b small whole rest same =
    let short : length (header_of job.roots) < 2 ^ 63 = omega (arith, small, ap length same, length-append (header_of job.roots) rest) in
    absurd (cc (sym (text-cut limit b whole) ∙ ap text_at same ∙ jobs-text job rest short))

-- what is found of a header stays, if it is whole
fails-more : (kind : CarKind) (left n : ℕ) (r s : Result (List ℕ) Fault) → ((f : Fault) → r ≡ Err f → s ≡ Err (record { kind = f.kind; left = f.left + n })) → FailsAs kind left r → FailsAs kind (left + n) s
fails-more kinds.Memory left n r s later fails = tt
fails-more kind left n r s later fails = later _ fails

reason-stays : (limit : ℕ) (b more : List ℕ) (reason : ArchiveReason) → is_whole limit b ≡ Ok true → IsHeaderReason b reason → IsHeaderReason (b ++ more) reason
reason-stays limit b more (Header kind) whole found =
    (found.0 + length more, fails-more kind found.0 (length more) (header_at b) (header_at (b ++ more)) (λ f is. header-more limit b more whole ∙ ap (with_more (λ (l : List ℕ). l ++ more) (length more)) is) found.1)
reason-stays limit b more OtherHeader whole found =
    (found.0 ++ more, header-more limit b more whole ∙ ap (with_more (λ (l : List ℕ). l ++ more) (length more)) found.1)
reason-stays limit b more (Section kind) whole found = found
reason-stays limit b more (Refused c fault) whole found = found
reason-stays limit b more (Unfinished fault) whole found = found
reason-stays limit b more Memory whole found = tt

-- ---- a header that isn't expected stops the stream

-- one that can't be read
unread-stop : (asked : Asked) → asked.header ≡ Any → (stream : List ℕ) (reason : ArchiveReason) → CantBeRead stream reason → IsRightlyNoStream asked stream reason
unread-stop asked any stream (Header kind) found archive of small =
    let there = subst (λ (h : ExpectedHeader). IsArchiveOf h asked.job stream archive) any of in
    absurd (cc (sym found.1 ∙ there.1))
unread-stop asked any stream OtherHeader found archive of small = absurd found
unread-stop asked any stream (Section kind) found archive of small = absurd found
unread-stop asked any stream (Refused c fault) found archive of small = absurd found
unread-stop asked any stream (Unfinished fault) found archive of small = absurd found
unread-stop asked any stream Memory found archive of small = tt

unread-fault : (asked : Asked) (stream : List ℕ) (reason : ArchiveReason) → CantBeRead stream reason → IsStreamFault Any asked stream 0 reason
unread-fault asked stream (Header kind) found = (refl, found)
unread-fault asked stream OtherHeader found = absurd found
unread-fault asked stream (Section kind) found = absurd found
unread-fault asked stream (Refused c fault) found = absurd found
unread-fault asked stream (Unfinished fault) found = absurd found
unread-fault asked stream Memory found = tt

-- what is wrong with it
wrong-stop : (asked : Asked) (h : ExpectedHeader) → asked.header ≡ h → (stream : List ℕ) (reason : ArchiveReason) → IsHeaderWrong h asked.job stream reason
    → IsStreamFault h asked stream 0 reason × IsRightlyNoStream asked stream reason
wrong-stop asked OfJob is stream reason wrong = (
  header-fault asked.base asked.job asked.allowed stream reason wrong.0 wrong.1,
  λ archive of small.
      let same = subst (λ (h : ExpectedHeader). IsArchiveOf h asked.job stream archive) is of in
      subst (λ (l : List ℕ). IsRightlyNotWith asked.base asked.job l reason) (sym same) (header-not asked.base asked.job stream reason wrong.0 wrong.1),
)
wrong-stop asked Any is stream reason wrong = (unread-fault asked stream reason wrong, unread-stop asked is stream reason wrong)

-- it stays wrong, whatever follows
cant-more : (limit : ℕ) (b more : List ℕ) (reason : ArchiveReason) → is_whole limit b ≡ Ok true → CantBeRead b reason → CantBeRead (b ++ more) reason
cant-more limit b more (Header kind) whole found = (found.0 + length more, header-more limit b more whole ∙ ap (with_more (λ (l : List ℕ). l ++ more) (length more)) found.1)
cant-more limit b more OtherHeader whole found = found
cant-more limit b more (Section kind) whole found = found
cant-more limit b more (Refused c fault) whole found = found
cant-more limit b more (Unfinished fault) whole found = found
cant-more limit b more Memory whole found = tt

wrong-more : (limit : ℕ) (h : ExpectedHeader) (job : JobMeaning) (b more : List ℕ) (reason : ArchiveReason) → AreBytes b → length (header_of job.roots) < 2 ^ 63 → is_whole limit b ≡ Ok true → IsHeaderWrong h job b reason → IsHeaderWrong h job (b ++ more) reason
wrong-more limit OfJob job b more reason fits short whole wrong = (lacks-more limit job b more fits short whole wrong.0, reason-stays limit b more reason whole wrong.1)
wrong-more limit Any job b more reason fits short whole wrong = cant-more limit b more reason whole wrong

-- as another header than that of the job's roots does
pub jobs-wrong : (asked : Asked) (b : List ℕ) (reason : ArchiveReason) → asked.header ≡ OfJob → AreBytes b → length (header_of asked.job.roots) < 2 ^ 63 → is_whole asked.limits.header b ≡ Ok true
    → LacksHeader asked.job b → IsHeaderReason b reason → StaysWrong asked b reason
jobs-wrong asked b reason jobs fits short whole lacks found more =
    subst (λ (h : ExpectedHeader). IsHeaderWrong h asked.job (b ++ more) reason) (sym jobs) (wrong-more asked.limits.header OfJob asked.job b more reason fits short whole (lacks, found))

-- and one that can't be read
pub any-wrong : (asked : Asked) (b : List ℕ) (reason : ArchiveReason) → asked.header ≡ Any → is_whole asked.limits.header b ≡ Ok true → CantBeRead b reason → StaysWrong asked b reason
any-wrong asked b reason any whole found more =
    subst (λ (h : ExpectedHeader). IsHeaderWrong h asked.job (b ++ more) reason) (sym any) (cant-more asked.limits.header b more reason whole found)

-- so it stops the stream
pub header-stops : (asked : Asked) (b : TakenBytes) (reason : ArchiveReason) → b.checked ≡ [] → b.parts ≡ 0 → StaysWrong asked b.rest reason → StopsHere asked b (Archive reason)
header-stops asked b reason none first wrong = record {
  parts = no_part none (omega (arith, first));
  stop = λ more.
      subst (λ (l : List ℕ). IsStop asked ((l ++ b.rest) ++ more) (length l) (Archive reason)) (sym none)
      (wrong-stop asked asked.header refl (b.rest ++ more) reason (wrong more));
}

-- as a length that is above the limit does
pub header-long : (asked : Asked) (b : TakenBytes) (n : ℕ) → b.checked ≡ [] → b.parts ≡ 0 → is_whole asked.limits.header b.rest ≡ Err n → StopsHere asked b (HeaderLength n)
header-long asked b n none first long = record {
  parts = no_part none (omega (arith, first));
  stop = λ more.
      subst (λ (l : List ℕ). IsStop asked ((l ++ b.rest) ++ more) (length l) (HeaderLength n)) (sym none)
      (refl, above-read asked.limits.header (b.rest ++ more) n (above-more asked.limits.header b.rest more n long));
}

-- and the end of a stream before the header is whole
pub header-cut-off : (asked : Asked) (checked b : List ℕ) → checked ≡ [] → length b < 2 ^ 63 → is_whole asked.limits.header b ≡ Ok false → IsStop asked (checked ++ b) (length checked) (Archive (Header kinds.Truncated))
header-cut-off asked checked b none small whole =
    subst (λ (l : List ℕ). IsStop asked (l ++ b) (length l) (Archive (Header kinds.Truncated))) (sym none)
    (wrong-stop asked asked.header refl b (Header kinds.Truncated) (cut asked.header)) where
      cut : (h : ExpectedHeader) → IsHeaderWrong h asked.job b (Header kinds.Truncated)
      cut OfJob = (lacks-cut asked.limits.header asked.job b small whole, (length b, header-cut asked.limits.header b whole))
      cut Any = (length b, header-cut asked.limits.header b whole)

-- ---- a header that is expected

-- that of the job's roots
pub jobs-header : (asked : Asked) (b rest : List ℕ) (n : ℕ) → asked.header ≡ OfJob → length b < 2 ^ 63 → is_whole asked.limits.header b ≡ Ok true → b ≡ header_of asked.job.roots ++ rest → n + length rest ≡ length b → IsHeaderAt asked b n
jobs-header asked b rest n jobs small whole is size =
    let text = spelling_of (header_data asked.job.roots) in
    let short : length (header_of asked.job.roots) < 2 ^ 63 = omega (arith, small, ap length is, length-append (header_of asked.job.roots) rest) in
    let few : length text < 2 ^ 63 = omega (arith, short, length-append (varint_of (length text)) text) in
    let same : n ≡ length (header_of asked.job.roots) = omega (arith, size, ap length is, length-append (header_of asked.job.roots) rest) in
    record {
      header = header_of asked.job.roots;
      rest = rest;
      bytes = is;
      size = same;
      some = omega (arith, same, some_group ((IsVarint-varint_of (length text) few).groups), length-append (varint_of (length text)) text);
      expected = subst (λ (h : ExpectedHeader). IsExpected h asked.job (header_of asked.job.roots)) (sym jobs) refl;
      text = text;
      spelled = refl;
      short = whole-within asked.limits.header b text rest small is whole;
    }

-- a header is good, by what is after it
good-header : (at rest found : List ℕ) (f : Option CarKind) → behind_header at rest f ≡ Ok found → (f ≡ None) × (rest ≡ found)
good-header at rest found None h = (refl, ok_same {E = Fault} rest found h)
good-header at rest found (Some kind) h = absurd (cc h)

-- any that is read is so whatever follows
pub any-header : (asked : Asked) (b rest : List ℕ) (n : ℕ) → asked.header ≡ Any → AreBytes b → length b < 2 ^ 63 → is_whole asked.limits.header b ≡ Ok true → header_at b ≡ Ok rest → n + length rest ≡ length b → IsHeaderAt asked b n
any-header asked b rest n any fits small whole read size =
    let text = bind_ok (text_at b) (λ t. behind_header b t.1 (header_fault (data_at t.0))) rest read in
    let t = text.0 in
    let good = good-header b t.1 rest (header_fault (data_at t.0)) text.2 in
    let front : b ≡ with_length t.0 ++ rest = text-after b t (varint_at b) fits refl text.1 ∙ ap (λ (l : List ℕ). with_length t.0 ++ l) good.1 in
    let sizes = length-append (with_length t.0) rest in
    let parts = length-append (varint_of (length t.0)) t.0 in
    let few : length t.0 < 2 ^ 63 = omega (arith, small, ap length front, sizes, parts) in
    let same : n ≡ length (with_length t.0) = omega (arith, size, ap length front, sizes) in
    let expected : (after : List ℕ) → header_at (with_length t.0 ++ after) ≡ Ok after =
    λ after.
    let b' = with_length t.0 ++ after in
    ap (λ (r : Result (List ℕ × List ℕ) Fault). r >>= (λ u. behind_header b' u.1 (header_fault (data_at u.0)))) (text_again t.0 after few) ∙ ap (behind_header b' after) good.0 in
    record {
      header = with_length t.0;
      rest = rest;
      bytes = front;
      size = same;
      some = omega (arith, same, some_group ((IsVarint-varint_of (length t.0) few).groups), parts);
      expected = subst (λ (h : ExpectedHeader). IsExpected h asked.job (with_length t.0)) (sym any) expected;
      text = t.0;
      spelled = refl;
      short = whole-within asked.limits.header b t.0 rest small front whole;
    }

-- the header is checked, and no section
pub header-checked : (asked : Asked) (old new : TakenBytes) (r : Reception) (n : ℕ) → old.checked ≡ [] → old.parts ≡ 0 → r ≡ nothing_received_with asked.base asked.job asked.allowed → IsHeaderAt asked old.rest n
    → new ≡ record { checked = old.checked ++ take n old.rest; rest = drop n old.rest; released = old.released; parts = old.parts + 1 } → HasChecked asked new r
header-checked asked old new r n none first is at same =
    let front = front-taken n old.rest at.header at.rest at.bytes (omega (arith, at.size, ap length at.bytes, length-append at.header at.rest)) in
    subst (HasChecked asked new) (sym is)
    (subst (λ (b : TakenBytes). HasChecked asked b (nothing_received_with asked.base asked.job asked.allowed)) (sym same)
    (record {
      parts = omega (arith, first);
      bytes = record {
        header = at.header;
        expected = at.expected;
        text = at.text;
        spelled = at.spelled;
        short = at.short;
        bytes = ap (λ (l : List ℕ). l ++ take n old.rest) none ∙ front.0 ∙ sym (append-nil at.header);
        same = refl;
        received = none-at-first asked.base asked.job;
        cids = tt;
        within = tt;
      };
    }))
