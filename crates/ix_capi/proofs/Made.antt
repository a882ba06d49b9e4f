-- A call that fills a handle returns what was meant.
use Rattle.std.proofs.Common.{◌≡◌, ℕ, List, [], ◌∷◌, sym, ap, subst, ◌∙◌}
use Rattle.std.specs.Prelude.{Option, Some, None, Result, Ok}
use Rattle.std.specs.Global.{Global}
use Rattle.std.specs.Arc.{arc_value}
use Rattle.std.specs.declared.sync.Arc.{Arc}
use Rattle.std.specs.declared.alloc.AllocError.{AllocError}
use Rattle.ix_store.specs.Store.{Blocks}
use Rattle.ix_walk.specs.JobMeaning.{JobMeaning}
use Rattle.ix_jobs.specs.Jobs.{jobs_of}
use Rattle.ix_api.specs.JobParts.{job_of_parts}
use Rattle.ix_api.specs.declared.request.Request.{Request}
use Rattle.ix_api.specs.declared.failure.Failure.{Failure}
use Rattle.ix_api.specs.declared.failure.Failure.TheVariants as failures
use Rattle.ix_api.specs.declared.object.Object.{Object}
use Rattle.ix_api.specs.declared.object.Object.TheVariants as held
use Rattle.ix_capi.specs.declared.status.Status.{Status}
use Rattle.ix_capi.specs.declared.status.Status.TheVariants.{Done, Memory, Refused, Handle, Known, NoCid, Range}
use Rattle.ix_capi.specs.Answers.{IsMade, IsFilled, IsRefused, IsJobOf, IsJobOfParts, HoldsFrozen, IsOwnerOf, HasShared, HasBase, HasLeftOut, IsExportedOf, IsExported}

-- none
pub shares_none : (store : Option Object) (s : Object) (before after : Option Object) → store ≡ Some s → IsOwnerOf s None → after ≡ before → HasShared store before after Handle
shares_none store s before after is owns same = (same, λ blocks frozen. owns blocks (subst (HoldsFrozen blocks) is frozen))

-- none
pub leaves_none : (base : Option Object) (s : Object) (before after : Option Object) → base ≡ Some s → IsOwnerOf s None → after ≡ before → HasLeftOut base before after Handle
leaves_none base s before after is owns same = (same, λ blocks wanted frozen is_job. owns blocks (subst (HoldsFrozen blocks) is frozen))

-- a base, which a job has after the call if the handle holds a job
pub leaves_base : (base : Option Object) (s : Object) (found : Result (Arc Blocks Global) AllocError) (owner : Arc Blocks Global) (before after : Option Object) (status : Status) → base ≡ Some s → found ≡ Ok owner → IsOwnerOf s (Some found)
    → HasBase owner before after status → HasLeftOut base before after status
leaves_base base s found owner before after Done is one owns made = (owner, subst (HoldsFrozen (arc_value owner)) (sym is) (subst (λ (r : Result (Arc Blocks Global) AllocError). IsOwnerOf s (Some r)) one owns), made)
leaves_base base s found owner before after Handle is one owns made = (made.0, λ blocks wanted frozen is_job. made.1 wanted is_job)
leaves_base base s found owner before after Memory is one owns made = absurd made
leaves_base base s found owner before after Refused is one owns made = absurd made
leaves_base base s found owner before after Known is one owns made = absurd made
leaves_base base s found owner before after NoCid is one owns made = absurd made
leaves_base base s found owner before after Range is one owns made = absurd made

-- a job without a base is what a line or its parts give
pub is_job_of : (line : List ℕ) (job : JobMeaning) (request : Request) → request ≡ record { job = job; base = None } → jobs_of line ≡ Ok (job ∷ []) → IsJobOf line (held.Job request)
is_job_of line job request whole read = (ap (λ r. r.base) whole, read ∙ ap (λ (r : Request). Ok (r.job ∷ [])) (sym whole))

pub is_job_of_parts : (roots selector : List ℕ) (limit : ℕ) (job : JobMeaning) (request : Request) → request ≡ record { job = job; base = None } → job_of_parts roots selector limit ≡ Ok job → IsJobOfParts roots selector limit (held.Job request)
is_job_of_parts roots selector limit job request whole made = (ap (λ r. r.base) whole, made ∙ ap (λ (r : Request). Ok r.job) (sym whole))

-- nothing
pub exports_none : (store job : Option Object) (s j : Object) (before after : Option Object) → store ≡ Some s → job ≡ Some j → IsExportedOf s j None → after ≡ before → IsExported store job before after Handle
exports_none store job s j before after is wants told same = (same, λ blocks wanted frozen is_job. told blocks wanted (subst (HoldsFrozen blocks) is frozen) (inside j (held.Job wanted) (sym wants ∙ is_job))) where
  inside : (x y : Object) → ◌≡◌ {A = Option Object} (Some x) (Some y) → x ≡ y
  inside x y e = cc

-- what is held is meant
pub filled : (meant : Object → Type 0) (fails : Failure → Type 0) (content : Object) (before after : Option Object) (status : Status) → IsFilled content before after status → meant content → IsMade meant fails before after status
filled meant fails content before after Done made is = (content, made, is)
filled meant fails content before after Memory made is = made
filled meant fails content before after Refused made is = absurd made
filled meant fails content before after Handle made is = absurd made
filled meant fails content before after Known made is = absurd made
filled meant fails content before after NoCid made is = absurd made
filled meant fails content before after Range made is = absurd made

-- an error, or lack of memory
pub refused : (meant : Object → Type 0) (fails : Failure → Type 0) (failure : Failure) (before after : Option Object) (status : Status) → IsRefused failure before after status → fails failure → IsMade meant fails before after status
refused meant fails (failures.Refused line) before after Done made told = absurd made
refused meant fails (failures.Refused line) before after Memory made told = made
refused meant fails (failures.Refused line) before after Refused made told = (line, made, told)
refused meant fails (failures.Refused line) before after Handle made told = absurd made
refused meant fails (failures.Refused line) before after Known made told = absurd made
refused meant fails (failures.Refused line) before after NoCid made told = absurd made
refused meant fails (failures.Refused line) before after Range made told = absurd made
refused meant fails failures.Memory before after Done made told = absurd made
refused meant fails failures.Memory before after Memory made told = made
refused meant fails failures.Memory before after Refused made told = absurd made
refused meant fails failures.Memory before after Handle made told = absurd made
refused meant fails failures.Memory before after Known made told = absurd made
refused meant fails failures.Memory before after NoCid made told = absurd made
refused meant fails failures.Memory before after Range made told = absurd made
