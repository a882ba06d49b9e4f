-- The tokens that are written are those of the objects, which read back as these.
use Rattle.std.proofs.Common.{◌≡◌, ℕ, suc, ◌+◌, ◌≤◌, List, [], ◌∷◌, ◌++◌, length, Option, Some, None, option_and_then, option_map, refl, sym, ap, subst, ◌∙◌, arith, append-nil, append_assoc}
use Rattle.std.specs.Prelude.{codes, string_bytes}
use Rattle.json.specs.Token.{Token, begin_object, end_object, begin_array, end_array}
use Rattle.json.specs.Lex.{tokens}
use Rattle.json.specs.Json.{Json, Members, no_members, value, if_last, max_depth, document}
use Rattle.json.specs.Print.{print}
use Rattle.json.specs.Tree.{json_tokens, items_tokens, members_tokens, depth, items_depth, members_depth}
use Rattle.json.proofs.Printed.Trees.{value-json_tokens}
use Rattle.ix_walk.specs.JobMeaning.{JobMeaning}
use Rattle.ix_car.specs.declared.archive.Skip.{Skip}
use Rattle.ix_jobs.specs.declared.results.JobResult.{JobResult}
use Rattle.std.specs.Prelude.{Result, Ok, Err}
use Rattle.json.specs.Written.{Written}
use Rattle.ix_json_report.specs.Members.{Appends, AppendsLine, IsLine}
use Rattle.ix_json_report.specs.Objects.{Detail, detail_at, skip_object, skip_items, skips_member, known_before, absent_before, place_before, job_object, optional_before, error_object, total_object}
use Rattle.ix_json_report.specs.Tokens.{end_tokens, counts_tokens, skip_tokens, all_skips_tokens, skips_tokens, known_tokens, absent_tokens, place_tokens, job_tokens, optional_tokens, message_tokens, error_tokens, total_tokens}
use Rattle.ix_json_report.specs.declared.error.ErrorNote.{ErrorNote}
use Rattle.ix_json_report.specs.declared.skips.SkipNotes.{SkipNotes}
use Rattle.ix_json_report.specs.declared.place.ArchivePlace.{ArchivePlace}
use Rattle.ix_json_report.specs.declared.place.ArchivePlace.TheVariants.{File, Part, Unknown}

-- the tokens of a skip are those of its object, and it nests no other
skip-tokens : (s : Skip) (detail : Detail) → json_tokens (skip_object s detail) ≡ skip_tokens s detail
skip-tokens s (None, None) = refl
skip-tokens s (None, (Some cause)) = refl
skip-tokens s ((Some path), None) = refl
skip-tokens s ((Some path), (Some cause)) = refl

depth-skip : (s : Skip) (detail : Detail) → depth (skip_object s detail) ≤ 1
depth-skip s (None, None) = omega arith
depth-skip s (None, (Some cause)) = omega arith
depth-skip s ((Some path), None) = omega arith
depth-skip s ((Some path), (Some cause)) = omega arith

-- the tokens of skips are those of the items
items-skips : (notes : SkipNotes) (n : ℕ) (skips : List Skip) → items_tokens (skip_items notes n skips) ≡ all_skips_tokens notes n skips ++ end_array ∷ []
items-skips notes n [] = refl
items-skips notes n (s ∷ skips) =
    ap (λ l. l ++ items_tokens (skip_items notes (n + 1) skips)) (skip-tokens s (detail_at notes n))
    ∙ ap (λ l. skip_tokens s (detail_at notes n) ++ l) (items-skips notes (n + 1) skips) ∙ sym (append_assoc (skip_tokens s (detail_at notes n)) (all_skips_tokens notes (n + 1) skips) (end_array ∷ []))

-- a list of skips nests objects alone
depth-skips : (notes : SkipNotes) (n : ℕ) (skips : List Skip) → items_depth (skip_items notes n skips) ≤ 1
depth-skips notes n [] = omega arith
depth-skips notes n (s ∷ skips) = omega (arith, depth-skip s (detail_at notes n), depth-skips notes (n + 1) skips)

-- the last member, and the end of the object
skips-last : (notes : SkipNotes) (skips : List Skip) → members_tokens (skips_member notes skips) ≡ skips_tokens notes skips ++ end_object ∷ []
skips-last notes skips = ap (λ l. Token.key (codes "skips") ∷ begin_array ∷ (l ++ end_object ∷ [])) (items-skips notes 0 skips)

-- those of one more skip
pub skips-more : (notes : SkipNotes) (n : ℕ) (skips : List Skip) (s : Skip) → all_skips_tokens notes n (skips ++ s ∷ []) ≡ all_skips_tokens notes n skips ++ skip_tokens s (detail_at notes (n + length skips))
skips-more notes n [] s = let z : n ≡ n + 0 = omega arith in append-nil (skip_tokens s (detail_at notes n)) ∙ ap (λ m. skip_tokens s (detail_at notes m)) z
skips-more notes n (t ∷ skips) s =
    let up : n + 1 + length skips ≡ n + suc (length skips) = omega arith in
    ap (λ l. skip_tokens t (detail_at notes n) ++ l) (skips-more notes (n + 1) skips s ∙ ap (λ m. all_skips_tokens notes (n + 1) skips ++ skip_tokens s (detail_at notes m)) up)
    ∙ sym (append_assoc (skip_tokens t (detail_at notes n)) (all_skips_tokens notes (n + 1) skips) (skip_tokens s (detail_at notes (n + suc (length skips)))))

known-first : (known : Option ℕ) (more : Members) → members_tokens (known_before known more) ≡ known_tokens known ++ members_tokens more
known-first None more = refl
known-first (Some n) more = refl

absent-first : (absent : Option ℕ) (more : Members) → members_tokens (absent_before absent more) ≡ absent_tokens absent ++ members_tokens more
absent-first None more = refl
absent-first (Some n) more = refl

place-first : (place : ArchivePlace) (more : Members) → members_tokens (place_before place more) ≡ place_tokens place ++ members_tokens more
place-first (File path) more = refl
place-first (Part path size) more = refl
place-first Unknown more = refl

known-depth : (known : Option ℕ) (more : Members) → members_depth (known_before known more) ≡ members_depth more
known-depth None more = refl
known-depth (Some n) more = omega arith

absent-depth : (absent : Option ℕ) (more : Members) → members_depth (absent_before absent more) ≡ members_depth more
absent-depth None more = refl
absent-depth (Some n) more = omega arith

place-depth : (place : ArchivePlace) (more : Members) → members_depth (place_before place more) ≡ members_depth more
place-depth (File path) more = omega arith
place-depth (Part path size) more = omega arith
place-depth Unknown more = refl

-- the tokens of a job are those of its object
job-tokens : (job : JobMeaning) (r : JobResult) (notes : SkipNotes) (place : ArchivePlace) → json_tokens (job_object job r notes place) ≡ job_tokens job r notes place
job-tokens job r notes place =
    let last = skips_member notes r.skips.items in
    let known = known_tokens r.counts.known in
    let absent = notes.absent in
    let gone = absent_tokens absent in
    let at = place_tokens place in
    let skips = skips_tokens notes r.skips.items in
    ap (λ l. begin_object ∷ (end_tokens job r.end ++ counts_tokens r.counts ++ l))
    (known-first r.counts.known (absent_before absent (place_before place last))
    ∙ ap (λ l. known ++ l) (absent-first absent (place_before place last) ∙ ap (λ l. gone ++ l) (place-first place last ∙ ap (λ l. at ++ l) (skips-last notes r.skips.items)))
    ∙ sym (append_assoc known gone (at ++ (skips ++ end_object ∷ [])))
    ∙ sym (append_assoc (known ++ gone) at (skips ++ end_object ∷ [])) ∙ sym (append_assoc (known ++ gone ++ at) skips (end_object ∷ [])))

job-depth : (job : JobMeaning) (r : JobResult) (notes : SkipNotes) (place : ArchivePlace) → depth (job_object job r notes place) ≤ max_depth
job-depth job r notes place =
    let last = skips_member notes r.skips.items in
    omega (arith, known-depth r.counts.known (absent_before notes.absent (place_before place last)), absent-depth notes.absent (place_before place last), place-depth place last, depth-skips notes 0 r.skips.items)

optional-first : (name : List ℕ) (text : Option (List ℕ)) (more : Members) → members_tokens (optional_before name text more) ≡ optional_tokens name text ++ members_tokens more
optional-first name None more = refl
optional-first name (Some text) more = refl

optional-depth : (name : List ℕ) (text : Option (List ℕ)) (more : Members) → members_depth (optional_before name text more) ≡ members_depth more
optional-depth name None more = refl
optional-depth name (Some text) more = omega arith

-- the tokens of an error are those of its object
error-tokens : (e : ErrorNote) → json_tokens (error_object e) ≡ error_tokens e
error-tokens e =
    let cid = option_map string_bytes e.cid.now in
    let path = option_map string_bytes e.path.now in
    let first = optional_tokens (codes "cid") cid in
    let second = optional_tokens (codes "path") path in
    ap (λ l. begin_object ∷ (message_tokens e ++ l))
    (optional-first (codes "cid") cid (optional_before (codes "path") path no_members) ∙ ap (λ l. first ++ l) (optional-first (codes "path") path no_members) ∙ sym (append_assoc first second (end_object ∷ [])))

error-depth : (e : ErrorNote) → depth (error_object e) ≤ max_depth
error-depth e =
    let cid = option_map string_bytes e.cid.now in
    let path = option_map string_bytes e.path.now in
    omega (arith, optional-depth (codes "cid") cid (optional_before (codes "path") path no_members), optional-depth (codes "path") path no_members)

-- a value whose tokens a reader finds in their text is read from it
read_back : (j : Json) → tokens (print (json_tokens j)) ≡ json_tokens j → depth j ≤ max_depth → document (print (json_tokens j)) ≡ Some j
read_back j found shallow =
    ap (option_and_then (λ p. if_last p.0 p.1)) (ap (value max_depth) (found ∙ sym (append-nil (json_tokens j))) ∙ value-json_tokens j max_depth [] shallow)

-- the line of a value with these tokens
line_of : (old new : List ℕ) (j : Json) (ts : List Token) → json_tokens j ≡ ts → depth j ≤ max_depth → IsLine old new ts → AppendsLine old new j
line_of old new j ts same shallow line = record {
  text = line.text ∙ ap (λ l. old ++ print l ++ 10 ∷ []) (sym same);
  reads_back = read_back j (subst (λ l. tokens (print l) ≡ l) (sym same) line.found) shallow;
}

pub job-line : (old new : List ℕ) (job : JobMeaning) (r : JobResult) (notes : SkipNotes) (place : ArchivePlace) → IsLine old new (job_tokens job r notes place) → AppendsLine old new (job_object job r notes place)
job-line old new job r notes place line = line_of old new (job_object job r notes place) (job_tokens job r notes place) (job-tokens job r notes place) (job-depth job r notes place) line

pub total-line : (old new : List ℕ) (rs : List JobResult) → IsLine old new (total_tokens rs) → AppendsLine old new (total_object rs)
total-line old new rs line = line_of old new (total_object rs) (total_tokens rs) refl (omega arith) line

pub error-line : (old new : List ℕ) (e : ErrorNote) → IsLine old new (error_tokens e) → AppendsLine old new (error_object e)
error-line old new e line = line_of old new (error_object e) (error_tokens e) (error-tokens e) (error-depth e) line

-- a writer that has tokens appended, and then more, has both appended
pub appends_both : {T E : Type 0} (old mid new : Written) (first second : List Token) (r : Result T E) → mid.tokens ≡ old.tokens ++ first → mid.before ≡ old.before → Appends mid new second r → Appends old new (first ++ second) r
appends_both old mid new first second (Ok x) is kept last = (last.0 ∙ ap (λ l. l ++ second) is ∙ append_assoc old.tokens first second, last.1 ∙ kept)
appends_both old mid new first second (Err e) is kept last = (last.0, last.1 ∙ kept)
