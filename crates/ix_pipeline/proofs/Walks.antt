-- Walks of the same blocks and jobs, whatever leads there.
use Rattle.std.proofs.Common.{◌≡◌, ℕ, List, length, vec_len, sym, ap, subst, ◌∙◌}
use Rattle.std.specs.Prelude.{Result, Ok, Err, IfErr}
use Rattle.std.specs.Global.{Vec}
use Rattle.ix_store.specs.Store.{Blocks}
use Rattle.ix_walk.specs.JobMeaning.{JobMeaning}
use Rattle.ix_walk.specs.declared.job.Job.{Job}
use Rattle.ix_car.specs.Events.{Calls}
use Rattle.ix_car.specs.Headline.{Fact}
use Rattle.ix_stages.specs.JobWalks.{WalksMeaning}
use Rattle.ix_pipeline.specs.declared.flowing.Outcome.{Outcome}
use Rattle.ix_pipeline.specs.declared.plan.Plan.{Plan}
use Rattle.ix_pipeline.specs.declared.exporting.NotStarted.{NotStarted}
use Rattle.ix_pipeline.specs.Headline.{EachFresh, EachKept, EachUnused}
use Rattle.ix_pipeline.specs.Planned.{IsPlan}
use Rattle.ix_pipeline.specs.Exporting.{CanExport, HasExported}

-- the walks of these blocks and jobs
abbrev pub both : Blocks → List JobMeaning → WalksMeaning
both store jobs = record { store = store; jobs = jobs }

-- walks whose blocks and jobs are equal
pub walks_of_both : (s t : Blocks) (v w : Vec Job) (walks : WalksMeaning) → walks ≡ both s v.items → s ≡ t → v ≡ w → walks ≡ both t w.items
walks_of_both s t v w walks e f g = e ∙ (ap (λ (b : Blocks). both b v.items) f ∙ ap (λ (x : Vec Job). both t x.items) g)

module _ {S C : Type 0} {calls : S → Calls} {checked : C → List (ℕ × ℕ)} where
  -- what can be exported by these walks can be by equal ones
  pub can_export_as : {sinks : List S} {checks : Vec C} {plan : Plan} (v w : WalksMeaning) → v ≡ w → CanExport calls checked w.jobs sinks checks plan → CanExport calls checked v.jobs sinks checks plan
  can_export_as {sinks} {checks} {plan} v w e h = subst (λ (x : WalksMeaning). CanExport calls checked x.jobs sinks checks plan) (sym e) h

  -- what was exported by these walks was by equal ones
  pub exported_as : {About : Type 0} {guarantee : Fact S About} {first sinks : List S} {given : Vec C} {r : Result (Outcome C) (NotStarted C)} (v w : WalksMeaning) → v ≡ w
      → HasExported calls guarantee checked v first sinks given r → HasExported calls guarantee checked w first sinks given r
  exported_as {guarantee = guarantee} {first = first} {sinks = sinks} {given = given} {r = r} v w e h = subst (λ (x : WalksMeaning). HasExported calls guarantee checked x first sinks given r) e h

  -- what can be exported can be again, if it wasn't started: with these sinks, and with these checks as they came back
  pub can_export_again : {jobs : List JobMeaning} {sinks : List S} {plan : Plan} (now : List S) (given checks : Vec C) → now ≡ sinks → checks.items ≡ given.items → vec_len checks ≡ vec_len given
      → CanExport calls checked jobs sinks given plan → CanExport calls checked jobs now checks plan
  can_export_again {jobs} {sinks} {plan} now given checks same items len h = record {
    one_each = ap length same ∙ h.one_each;
    fresh = subst (λ (x : List S). EachFresh calls x) (sym same) h.fresh;
    unused = subst (λ (x : List C). EachUnused checked x) (sym items) h.unused;
    few = h.few;
    planned = subst (λ (n : ℕ). IsPlan plan n) (sym len) h.planned;
  }

  -- an export of what wasn't started is one of what was there first
  pub exported_again : {About : Type 0} {guarantee : Fact S About} {walks : WalksMeaning} (first now sinks : List S) (given checks : Vec C) (r : Result (Outcome C) (NotStarted C)) → now ≡ first → checks.items ≡ given.items
      → HasExported calls guarantee checked walks now sinks checks r → HasExported calls guarantee checked walks first sinks given r
  exported_again {guarantee = guarantee} first now sinks given checks r same items h = record {
    delivered = h.delivered;
    archived = h.archived;
    started = h.started;
    facts = subst (λ (x : List S). EachKept guarantee x sinks) same h.facts;
    each_checked = h.each_checked;
    not_started = again r h.not_started;
  } where
    again : (r : Result (Outcome C) (NotStarted C)) → IfErr r (λ none. (sinks ≡ now) × (none.checks.items ≡ checks.items)) → IfErr r (λ none. (sinks ≡ first) × (none.checks.items ≡ given.items))
    again (Ok out) e = tt
    again (Err none) e = (e.0 ∙ same, e.1 ∙ items)
