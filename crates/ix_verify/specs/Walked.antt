-- What the walk from roots comes to.
use Rattle.std.specs.Prelude.{ℕ, Bool, not, ◌&&◌, ◌||◌, List, [], ◌∷◌, map, if◌then◌else◌}
use Rattle.ix_verdict.specs.AllowMissing.{allows_cid}
use Rattle.ix_walk.specs.declared.visit.Visit.{Visit}
use Rattle.ix_walk.specs.JobMeaning.{JobMeaning}
use Rattle.ix_walk.specs.Once.{first_ones}
use Rattle.ix_store.specs.Store.{Blocks, has_cid}
use Rattle.ix_check.specs.Verdict.{verdict_of, passes}
use Rattle.ix_car.specs.Verified.{judged}
use Rattle.ix_car.specs.declared.archive.Skip.{Skip}
use Rattle.ix_verify.specs.Found.{skip_of, is_absent, IsWalkOf, IsReached}
use Rattle.ix_verdict.specs.declared.allow_missing.AllowMissing.{AllowMissing}
use Rattle.ix_verify.specs.declared.reach.Watch.{Watch}
use Rattle.ix_verify.specs.declared.reach.Reached.{Reached}

-- the report on a visit, if any
abbrev pub skip_at : (List ℕ → Bool) → Blocks → Visit → List Skip
skip_at lack store visit =
    if passes (verdict_of store visit.cid) || is_absent lack (judged store visit) then [] else skip_of (judged store visit) ∷ []

-- how many blocks that aren't there are allowed for at a visit: one or none
abbrev pub absent_at : (List ℕ → Bool) → Blocks → Visit → ℕ
absent_at lack store visit = if is_absent lack (judged store visit) then 1 else 0

-- what may be lacking on a walk: what the codecs allow, except for the CIDs of a set
abbrev pub lack_of : Watch → List ℕ → Bool
lack_of w c = allows_cid w.allowed c && not (has_cid w.roots.now c)

-- what is met on the walk of a job
abbrev pub IsReachedBy : (List ℕ → Bool) → Blocks → JobMeaning → ℕ → Reached → Type 0
IsReachedBy lack store job most r = IsWalkOf lack store job most r.skips r.absent r.is_over_limit

-- what is met from the roots that a header names on
abbrev pub IsReachedFrom : AllowMissing → Blocks → List (List ℕ) → ℕ → Reached → Type 0
IsReachedFrom allowed store roots most r = IsReached allowed store (first_ones roots) most r.skips r.absent r.is_over_limit

-- what is met from no root
abbrev pub IsReachedFromNone : Reached → Type 0
IsReachedFromNone r = (allowed : AllowMissing) (store : Blocks) (most : ℕ) → IsReached allowed store [] most r.skips r.absent r.is_over_limit

-- roots as the blocks of a store that is a set of them: each with no bytes
abbrev pub roots_as_blocks : List (List ℕ) → Blocks
roots_as_blocks roots = map (λ root. (root, [])) roots
