-- A call that checks an archive returns what was found of it.
use Rattle.std.proofs.Common.{◌≡◌, ℕ, List, ap, subst, ◌∙◌}
use Rattle.std.specs.Prelude.{Option, Some, Result, Ok}
use Rattle.std.specs.declared.alloc.AllocError.{AllocError}
use Rattle.ix_verdict.specs.declared.allow_missing.AllowMissing.{AllowMissing}
use Rattle.ix_api.specs.declared.checked.Checked.{Checked}
use Rattle.ix_api.specs.declared.checked.Checked.TheVariants.{Own, Rejected}
use Rattle.ix_api.specs.declared.object.Object.{Object}
use Rattle.ix_capi.specs.declared.status.Status.{Status}
use Rattle.ix_capi.specs.declared.status.Status.TheVariants.{Done, Memory, Refused, Handle, Known, NoCid, Range}
use Rattle.ix_capi.specs.Answers.{HasFound, IsCheckFound, IsChecked, IsCheckedBy}

module _ (archive : List ℕ) (flags : Option AllowMissing) (allowed : AllowMissing) (job : Option Object) (j : Object) (before after : Option Object) (known : Some allowed ≡ flags) (is : job ≡ Some j) where
  by_flags : (status : Status) → IsChecked archive allowed job before after status → IsCheckedBy archive flags job before after status
  by_flags status h = subst (λ o. IsCheckedBy archive o job before after status) known h

  -- what was found
  checks : (found : Checked) (status : Status) → IsCheckFound archive allowed j (Some (Ok found)) → HasFound found before after status → IsCheckedBy archive flags job before after status
  checks (Own counts) Done told h = by_flags Done (told.0, counts, is ∙ ap (λ o. Some o) told.1, h, told.2)
  checks (Own counts) Memory told h = by_flags Memory h
  checks (Own counts) Refused told h = absurd h
  checks (Own counts) Handle told h = absurd h
  checks (Own counts) Known told h = absurd h
  checks (Own counts) NoCid told h = absurd h
  checks (Own counts) Range told h = absurd h
  checks (Rejected rejection) Refused told h = by_flags Refused (told.0, rejection, is ∙ ap (λ o. Some o) told.1, h, told.2)
  checks (Rejected rejection) Memory told h = by_flags Memory h
  checks (Rejected rejection) Done told h = absurd h
  checks (Rejected rejection) Handle told h = absurd h
  checks (Rejected rejection) Known told h = absurd h
  checks (Rejected rejection) NoCid told h = absurd h
  checks (Rejected rejection) Range told h = absurd h

  -- the same of the result of a check
  pub checks_by : (answer : Result Checked AllocError) (found : Checked) (status : Status) → answer ≡ Ok found → IsCheckFound archive allowed j (Some answer)
      → HasFound found before after status → IsCheckedBy archive flags job before after status
  checks_by answer found status one told h =
      checks found status (subst (λ (r : Result Checked AllocError). IsCheckFound archive allowed j (Some r)) one told) h
