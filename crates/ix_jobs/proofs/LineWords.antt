-- Words with one space between them, read as the line of a job.
use Rattle.std.proofs.Common.{◌≡◌, ◌∙◌, sym, ap, refl, ℕ, ◌+◌, ◌-◌, ◌<◌, Bool, true, false, not, ◌&&◌, ◌==◌, List, [], ◌∷◌, ◌++◌, length, take, get_or, length-append, append_assoc, arith}
use Rattle.std.specs.Prelude.{Result, Ok, Err, nat_lt, nat_le, if◌then◌else◌}
use Rattle.std.specs.List.{All, list_all, slice_split}
use Rattle.std.specs.Str.Lines.{strip_carriage_return}
use Rattle.std.proofs.lemmas.Bool.Decides.{nat_tests}
use Rattle.std.proofs.lemmas.List.{take_all, take-append-le}
use Rattle.std.proofs.lemmas.List.Elements.{All-nil, All-cons, All-append, All-get_or}
use Rattle.std.proofs.lemmas.List.Folds.{list_all-append}
use Rattle.std.proofs.lemmas.List.Splits.{slice_split_at, slice_split_none}
use Rattle.std.proofs.lemmas.Bool.{and_parts, and_from, not-true}
use mathlib.Core.Logic.{inr}
use Rattle.ix_walk.specs.JobMeaning.{JobMeaning, is_name, is_name_byte}
use Rattle.ix_selector_json.specs.declared.fault.NotationFault.{NotationFault}
use Rattle.ix_jobs.specs.declared.fault.JobErrorKind.{JobErrorKind}
use Rattle.ix_jobs.specs.declared.fault.JobErrorKind.TheVariants.{Text, Memory}
use Rattle.ix_jobs.specs.Gives.{FailsAs}
use Rattle.ix_jobs.specs.Jobs.{◌>>=◌, is_ignored, is_text, line_job, fields_in, four_fields, job_of_fields, joined, with_line, at_line, jobs_from, jobs_up_to}
use Rattle.ix_jobs.specs.declared.job_line.LineFault.TheVariants.{Field}
use Rattle.ix_jobs.specs.JobLine.{is_visible, is_word, line_of, IsRefusedBy}

-- what no visible character is
no_space : (b : ℕ) → is_visible b ≡ true → (b == 32) ≡ false
no_space b h = let above : nat_lt 32 b ≡ true = (and_parts (nat_lt 32 b) (nat_le b 126) h).0 in grind (arith, nat_tests)

-- a visible character is no line end
no_end : (b : ℕ) → is_visible b ≡ true → (b == 10) ≡ false
no_end b h = let above : nat_lt 32 b ≡ true = (and_parts (nat_lt 32 b) (nat_le b 126) h).0 in grind (arith, nat_tests)

-- a visible character is no carriage return
no_return : (b : ℕ) → is_visible b ≡ true → (b == 13) ≡ false
no_return b h = let above : nat_lt 32 b ≡ true = (and_parts (nat_lt 32 b) (nat_le b 126) h).0 in grind (arith, nat_tests)

-- a visible character is printable
visible-printable : (b : ℕ) → is_visible b ≡ true → (nat_le 32 b && nat_le b 126) ≡ true
visible-printable b h =
    let parts = and_parts (nat_lt 32 b) (nat_le b 126) h in
    let above : nat_lt 32 b ≡ true = parts.0 in
    let least : nat_le 32 b ≡ true = grind (arith, nat_tests) in
    and_from (nat_le 32 b) (nat_le b 126) least parts.1

-- a byte of a name
of_name : (b : ℕ) → is_name_byte b ≡ true → (is_visible b ≡ true) × ((b == 35) ≡ false)
of_name b h = (grind (arith, nat_tests), grind (arith, nat_tests))

-- what holds of visible characters holds of all bytes of a word
All-visible : (P : ℕ → Type 0) → ((b : ℕ) → is_visible b ≡ true → P b) → (w : List ℕ) → list_all is_visible w ≡ true → All P w
All-visible P f [] h = All-nil P
All-visible P f (b ∷ bs) h = let parts = and_parts (is_visible b) (list_all is_visible bs) h in All-cons P b bs (f b parts.0) (All-visible P f bs parts.1)

-- a word of visible characters is text
text_of : (w : List ℕ) → list_all is_visible w ≡ true → is_text w ≡ true
text_of [] h = refl
text_of (b ∷ bs) h = let parts = and_parts (is_visible b) (list_all is_visible bs) h in and_from (nat_le 32 b && nat_le b 126) (is_text bs) (visible-printable b parts.0) (text_of bs parts.1)

-- the bytes of a name are visible
name_visible : (w : List ℕ) → list_all is_name_byte w ≡ true → list_all is_visible w ≡ true
name_visible [] h = refl
name_visible (b ∷ bs) h = let parts = and_parts (is_name_byte b) (list_all is_name_byte bs) h in and_from (is_visible b) (list_all is_visible bs) (of_name b parts.0).0 (name_visible bs parts.1)

-- what is known of a word
pub record IsWord (w : List ℕ) : Type 0 where
  pub visible : list_all is_visible w ≡ true
  pub some : (length w == 0) ≡ false

-- a text that passes the test of a single word is one
pub IsWord-word : (w : List ℕ) → is_word w ≡ true → IsWord w
IsWord-word w h =
    let parts = and_parts (not (length w == 0)) (list_all is_visible w) h in
    record { visible = parts.1; some = not-true (length w == 0) parts.0 }

-- a name is a single word
name_word : (name : List ℕ) → is_name name ≡ true → IsWord name
name_word [] h = absurd cc
name_word (b ∷ bs) h =
    let parts = and_parts (nat_le 1 (length (b ∷ bs)) && nat_le (length (b ∷ bs)) 64) (list_all is_name_byte (b ∷ bs)) h in
    let many : 0 < length (b ∷ bs) = omega arith in
    record { visible = name_visible (b ∷ bs) parts.1; some = grind (arith, nat_tests) }

-- a word, a space and what follows
module _ (P : ℕ → Type 0) (visible : (b : ℕ) → is_visible b ≡ true → P b) (space : P 32) where
  all_after : (w rest : List ℕ) → IsWord w → All P rest → All P (w ++ 32 ∷ rest)
  all_after w rest is more = All-append P w (32 ∷ rest) (All-visible P visible w is.visible) (All-cons P 32 rest space more)

-- a word, a space and text are text
text_after : (w rest : List ℕ) → IsWord w → is_text rest ≡ true → is_text (w ++ 32 ∷ rest) ≡ true
text_after w rest is more = list_all-append (λ b. nat_le 32 b && nat_le b 126) w (32 ∷ rest) ∙ and_from (is_text w) (is_text rest) (text_of w is.visible) more

-- a line that begins with a name is not ignored, as no name is empty or begins with #
not_ignored : (name rest : List ℕ) → is_name name ≡ true → is_ignored (name ++ rest) ≡ false
not_ignored [] rest h = absurd cc
not_ignored (b ∷ bs) rest h =
    let parts = and_parts (nat_le 1 (length (b ∷ bs)) && nat_le (length (b ∷ bs)) 64) (list_all is_name_byte (b ∷ bs)) h in
    (of_name b (and_parts (is_name_byte b) (list_all is_name_byte bs) parts.1).0).1

-- a job alone
jobs_from-one : (greatest : ℕ) (r : Result JobMeaning JobErrorKind) → (at_line 1 (r >>= joined 1000 []) >>= (λ jobs. jobs_from greatest 1000 (1 + 1) jobs ([] ∷ []))) ≡ (at_line 1 r >>= (λ j. Ok (j ∷ [])))
jobs_from-one greatest (Ok j) = refl
jobs_from-one greatest (Err kind) = refl

module _ (greatest : ℕ) (name roots limit selector : List ℕ) where
  abbrev body : List ℕ
  body = name ++ (32 ∷ (roots ++ (32 ∷ (limit ++ (32 ∷ selector)))))

  with_end : line_of name roots limit selector ≡ body ++ 10 ∷ []
  with_end = simp append_assoc

  module _ (named : is_name name ≡ true) (is_roots : IsWord roots) (is_limit : IsWord limit) (is_selector : IsWord selector) where
    all_of_body : (P : ℕ → Type 0) → ((b : ℕ) → is_visible b ≡ true → P b) → P 32 → All P body
    all_of_body P visible space = all_after P visible space name _ (name_word name named) (all_after P visible space roots _ is_roots (all_after P visible space limit _ is_limit (All-visible P visible selector is_selector.visible)))

    text_of_body : is_text body ≡ true
    text_of_body = text_after name _ (name_word name named) (text_after roots _ is_roots (text_after limit _ is_limit (text_of selector is_selector.visible)))

    pieces : slice_split (λ b. b == 32) body ≡ name ∷ roots ∷ limit ∷ selector ∷ []
    pieces =
        let none : (w : List ℕ) → IsWord w → All (λ b. (b == 32) ≡ false) w = λ w is. All-visible (λ b. (b == 32) ≡ false) no_space w is.visible in
        slice_split_at (λ b. b == 32) name 32 _ (none name (name_word name named)) refl
        ∙ ap (λ l. name ∷ l) (slice_split_at (λ b. b == 32) roots 32 _ (none roots is_roots) refl
        ∙ ap (λ l. roots ∷ l) (slice_split_at (λ b. b == 32) limit 32 _ (none limit is_limit) refl
        ∙ ap (λ l. limit ∷ l) (slice_split_none (λ b. b == 32) selector (none selector is_selector))))

    fields : fields_in body ≡ Ok (name, roots, limit, selector)
    fields =
        ap four_fields pieces
        ∙ (let named_word = name_word name named in rw (named_word.some, is_roots.some, is_limit.some, is_selector.some) refl)

    job : line_job greatest body ≡ job_of_fields greatest name roots limit selector
    job =
        ap (λ (t : Bool). (if t then Ok body else Err Text) >>= (λ text. fields_in text >>= (λ f. job_of_fields greatest f.0 f.1 f.2 f.3))) text_of_body
        ∙ ap (λ (r : Result (List ℕ × List ℕ × List ℕ × List ℕ) JobErrorKind). r >>= (λ f. job_of_fields greatest f.0 f.1 f.2 f.3)) fields

    some_byte : 0 < length body
    some_byte = omega (arith, length-append name (32 ∷ (roots ++ (32 ∷ (limit ++ (32 ∷ selector))))))

    kept : strip_carriage_return body ≡ body
    kept =
        let last : (get_or body (length body - 1) 0 == 13) ≡ false =
        All-get_or (λ b. (b == 13) ≡ false) body (length body - 1) 0 (omega (arith, some_byte)) (all_of_body (λ b. (b == 13) ≡ false) no_return refl) in
        ap (λ (t : Bool). if t then take (length body - 1) body else body) last

    lines : slice_split (λ b. b == 10) (line_of name roots limit selector) ≡ body ∷ [] ∷ []
    lines = ap (slice_split (λ b. b == 10)) with_end ∙ slice_split_at (λ b. b == 10) body 10 [] (all_of_body (λ b. (b == 10) ≡ false) no_end refl) refl

    joins : with_line greatest 1000 [] (strip_carriage_return body) ≡ (job_of_fields greatest name roots limit selector >>= joined 1000 [])
    joins =
        ap (with_line greatest 1000 []) kept
        ∙ ap (λ (t : Bool). if t then Ok [] else line_job greatest body >>= joined 1000 []) (not_ignored name (32 ∷ (roots ++ (32 ∷ (limit ++ (32 ∷ selector))))) named)
        ∙ ap (λ (r : Result JobMeaning JobErrorKind). r >>= joined 1000 []) job

    -- a file of the line has the job of the four words, or is rejected as they are
    pub read_alone : jobs_up_to greatest 1000 (line_of name roots limit selector) ≡ (at_line 1 (job_of_fields greatest name roots limit selector) >>= (λ j. Ok (j ∷ [])))
    read_alone =
        let with_first : Result (List JobMeaning) JobErrorKind → Result (List JobMeaning) (JobErrorKind × ℕ) = λ r. at_line 1 r >>= (λ jobs. jobs_from greatest 1000 (1 + 1) jobs ([] ∷ [])) in
        ap (jobs_from greatest 1000 1 []) lines ∙ ap with_first joins ∙ jobs_from-one greatest (job_of_fields greatest name roots limit selector)

-- what was read
pub was_read : (r : Result JobMeaning JobErrorKind) (jobs : List JobMeaning) → (at_line 1 r >>= (λ j. Ok (j ∷ []))) ≡ Ok jobs → (job : JobMeaning) × (r ≡ Ok job) × (jobs ≡ job ∷ [])
was_read (Ok job) jobs h = (job, refl, cc)
was_read (Err kind) jobs h = absurd cc

abbrev kind_in : JobErrorKind → Result (List JobMeaning) (JobErrorKind × ℕ) → JobErrorKind
kind_in other (Ok jobs) = other
kind_in other (Err fault) = fault.0

was_refused : (r : Result JobMeaning JobErrorKind) (kind : JobErrorKind) (line : ℕ) → (at_line 1 r >>= (λ j. Ok (j ∷ []))) ≡ Err (kind, line) → r ≡ Err kind
was_refused (Ok j) kind line h = absurd cc
was_refused (Err other) kind line h = ap (λ (k : JobErrorKind). Err k) (ap (kind_in other) h)

-- the fault of the line is that of the words
pub IsRefusedBy-line : (IsSpelled : List ℕ → Type 0) (IsUnspelled : NotationFault → Type 0) (greatest : ℕ) (name roots limit hex line : List ℕ) (kind : JobErrorKind) (n : ℕ) → IsSpelled (hex ++ 10 ∷ []) → jobs_up_to greatest 1000 line ≡ (at_line 1 (job_of_fields greatest name roots limit hex) >>= (λ j. Ok (j ∷ []))) → FailsAs kind (kind, n) (jobs_up_to greatest 1000 line)
    → IsRefusedBy IsSpelled IsUnspelled greatest name roots limit (Field kind)
IsRefusedBy-line IsSpelled IsUnspelled greatest name roots limit hex line Memory n made alone h = tt
IsRefusedBy-line IsSpelled IsUnspelled greatest name roots limit hex line kind n made alone h = inr (record { selector = hex; spelled = made; refused = was_refused (job_of_fields greatest name roots limit hex) kind n (sym alone ∙ h) })

-- the hex of a selector, and its line end
pub without_end : (line hex : List ℕ) → line ≡ hex ++ 10 ∷ [] → take (length line - 1) line ++ 10 ∷ [] ≡ line
without_end line hex is =
    let count : length line ≡ length hex + 1 = ap length is ∙ length-append hex (10 ∷ []) in
    let same : length line - 1 ≡ length hex = omega (arith, count) in
    let front : take (length line - 1) line ≡ hex =
    ap (λ n. take n line) same ∙ ap (take (length hex)) is ∙ take-append-le (length hex) hex (10 ∷ []) (omega arith) ∙ take_all (length hex) hex (omega arith) in
    ap (λ l. l ++ 10 ∷ []) front ∙ sym is
