-- The set of names, with one job more.
use Rattle.std.proofs.Common.{◌≡◌, ℕ, Bool, true, false, ◌||◌, cond, List, [], ◌∷◌, ◌++◌, refl, sym, ap, ◌∙◌}
use Rattle.std.specs.Prelude.{String, bytes_eq, string_bytes, string_cmp}
use Rattle.std.specs.BTreeSet.{BTreeSet, contains_text, Updates}
use Rattle.std.proofs.lemmas.List.Folds.{list_any-append}
use Rattle.std.proofs.lemmas.Map.Text.{btree_set_updates_text}
use Rattle.ix_walk.specs.JobMeaning.{JobMeaning}
use Rattle.ix_jobs.specs.Named.{HasNames}
use Rattle.ix_jobs.specs.Jobs.{is_taken}

-- what a look-up in the set says of the jobs
pub taken-by_name : {Y : Type 0} (names : BTreeSet (String Y)) (jobs now : List JobMeaning) (name : List ℕ) (found : Bool) → HasNames names jobs → jobs ≡ now → found ≡ contains_text names name → found ≡ is_taken now name
taken-by_name names jobs now name found h is looked = looked ∙ h.names_are name ∙ ap (λ l. is_taken l name) is

either : (a b : Bool) → cond a true b ≡ (b || (a || false))
either true true = refl
either true false = refl
either false true = refl
either false false = refl

-- the set with the name of one job more
pub names-push : {Y : Type 0} (names later : BTreeSet (String Y)) (jobs more : List JobMeaning) (job : JobMeaning) (key : String Y) → HasNames names jobs → string_bytes key ≡ job.name → Updates string_cmp names later key true → more ≡ jobs ++ job ∷ [] → HasNames later more
names-push names later jobs more job key h same updates longer = record {
  names_are = λ name.
      btree_set_updates_text (string_bytes key) names later true updates name
      ∙ ap (λ b. cond (bytes_eq (string_bytes key) name) true b) (h.names_are name)
      ∙ ap (λ n. cond (bytes_eq n name) true (is_taken jobs name)) same
      ∙ either (bytes_eq job.name name) (is_taken jobs name)
      ∙ sym (list_any-append (λ j. bytes_eq j.name name) jobs (job ∷ []))
      ∙ ap (λ l. is_taken l name) (sym longer);
}
