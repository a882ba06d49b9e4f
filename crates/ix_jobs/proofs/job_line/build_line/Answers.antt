use Rattle.std.proofs.Common.{◌≡◌, ◌∙◌, sym, ap, subst, ℕ, ◌-◌, true, List, [], ◌∷◌, ◌++◌, length, take, Ok, rules}
use Rattle.std.specs.Prelude.{string_bytes}
use Rattle.ix_walk.specs.JobMeaning.{JobMeaning, is_name}
use Rattle.ix_jobs.specs.Jobs.{jobs_up_to, job_of_fields}
use Rattle.ix_jobs.specs.JobLine.{is_word, line_of}
use Rattle.ix_jobs.specs.JobWords.{IsSpelledBy, IsNoSelector}
use Rattle.ix_jobs.proofs.Ended.{IsSpelledBy-ended}
use Rattle.ix_jobs.proofs.LineWords.{IsWord-word, read_alone, was_read, IsRefusedBy-line, without_end}
use Rattle.ix_jobs.proofs.job_line.build_line.Goals as goal

pub returns-in-Ok-clause-read : goal.returns-in-Ok-clause-read
returns-in-Ok-clause-read c =
    let name : List ℕ = c.args.name.now in
    let roots : List ℕ = c.args.roots.now in
    let limit : List ℕ = c.args.limit.now in
    let hex : List ℕ = c.without_end.result.now in
    let made = c.in_ok-selector.ensures.spelled in
    let front : hex ≡ take (length (string_bytes c.in_ok-selector.selector) - 1) (string_bytes c.in_ok-selector.selector) = c.without_end.ensures ∙ ap (λ (l : List ℕ). take (length l - 1) l) c.as_bytes-3.ensures.value in
    let whole : hex ++ 10 ∷ [] ≡ string_bytes c.in_ok-selector.selector = ap (λ (l : List ℕ). l ++ 10 ∷ []) front ∙ without_end (string_bytes c.in_ok-selector.selector) _ (IsSpelledBy-ended c.args.selector.now _ made).1 in
    let line : string_bytes c.in_ok-line.line ≡ line_of name roots limit hex = c.in_ok-line.ensures.ok ∙ ap (λ (l : List ℕ). name ++ (32 ∷ (roots ++ (32 ∷ (limit ++ (32 ∷ l)))))) (sym whole) in
    let named : is_name name ≡ true = search rules in
    let is_roots : is_word roots ≡ true = search rules in
    let is_limit : is_word limit ≡ true = search rules in
    let is_hex : is_word hex ≡ true = search rules in
    let alone = read_alone c.args.greatest name roots limit hex named (IsWord-word roots is_roots) (IsWord-word limit is_limit) (IsWord-word hex is_hex) in
    let read : jobs_up_to c.args.greatest 1000 (string_bytes c.in_ok-line.line) ≡ Ok c.in-Ok.jobs.items = ap (jobs_up_to c.args.greatest 1000) (sym c.as_bytes-4.ensures.value) ∙ c.in-Ok.ensures.jobs in
    let was = was_read (job_of_fields c.args.greatest name roots limit hex) c.in-Ok.jobs.items (sym alone ∙ ap (jobs_up_to c.args.greatest 1000) (sym line) ∙ read) in
    record {
      is = record {
        selector = hex;
        job = was.0;
        spelled = subst (IsSpelledBy c.args.selector.now) (sym whole) made;
        meant = was.1;
        printed = line;
        read = read ∙ ap (λ (l : List JobMeaning). Ok l) was.2;
      };
      alone = was.2;
    }

pub returns-clause-refused : goal.returns-clause-refused
returns-clause-refused c =
    let name : List ℕ = c.args.name.now in
    let roots : List ℕ = c.args.roots.now in
    let limit : List ℕ = c.args.limit.now in
    let hex : List ℕ = c.without_end.result.now in
    let made = c.in_ok-selector.ensures.spelled in
    let front : hex ≡ take (length (string_bytes c.in_ok-selector.selector) - 1) (string_bytes c.in_ok-selector.selector) = c.without_end.ensures ∙ ap (λ (l : List ℕ). take (length l - 1) l) c.as_bytes-3.ensures.value in
    let whole : hex ++ 10 ∷ [] ≡ string_bytes c.in_ok-selector.selector = ap (λ (l : List ℕ). l ++ 10 ∷ []) front ∙ without_end (string_bytes c.in_ok-selector.selector) _ (IsSpelledBy-ended c.args.selector.now _ made).1 in
    let line : string_bytes c.in_ok-line.line ≡ line_of name roots limit hex = c.in_ok-line.ensures.ok ∙ ap (λ (l : List ℕ). name ++ (32 ∷ (roots ++ (32 ∷ (limit ++ (32 ∷ l)))))) (sym whole) in
    let named : is_name name ≡ true = search rules in
    let is_roots : is_word roots ≡ true = search rules in
    let is_limit : is_word limit ≡ true = search rules in
    let is_hex : is_word hex ≡ true = search rules in
    let alone = read_alone c.args.greatest name roots limit hex named (IsWord-word roots is_roots) (IsWord-word limit is_limit) (IsWord-word hex is_hex) in
    IsRefusedBy-line (IsSpelledBy c.args.selector.now) (IsNoSelector c.args.selector.now) c.args.greatest name roots limit hex c.as_bytes-4.result.now c.in-Err.fault.kind c.in-Err.fault.line (subst (IsSpelledBy c.args.selector.now) (sym whole) made)
    (ap (jobs_up_to c.args.greatest 1000) (c.as_bytes-4.ensures.value ∙ line) ∙ alone) c.in-Err.ensures.fault
