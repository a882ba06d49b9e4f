-- A job out of its parts: the bytes of its roots' CIDs end to end, the DAG-CBOR of its selector, and its limit.
use Rattle.std.specs.Prelude.{◌≡◌, ℕ, zero, suc, ◌-◌, false, List, [], ◌∷◌, ◌++◌, length, drop, codes}
use Rattle.std.specs.Prelude.{Option, Some, None, Result, Ok, Err}
use Rattle.ix_cid.specs.Cid.{cid_at}
use Rattle.ix_cid.specs.declared.fault.CidFault.{CidFault}
pub use Rattle.ix_cid.specs.Results.{◌>>=◌}
use Rattle.ix_cbor.specs.Data.{Data}
use Rattle.ix_cbor.specs.Reading.{Fault, decoded}
use Rattle.ix_selector.specs.Pattern.{Pattern}
use Rattle.ix_selector.specs.Reading.{selector_of}
use Rattle.ix_selector.specs.declared.fault.SelFault.{SelFault}
use Rattle.ix_walk.specs.JobMeaning.{JobMeaning}
use Rattle.ix_walk.specs.Job.{job_fault}
use Rattle.ix_walk.specs.declared.fault.JobFault.{JobFault}
use Rattle.ix_walk.specs.declared.fault.JobFault.TheVariants.{TooManyRoots}
use Rattle.ix_api.specs.declared.job_parts.PartsFault.{PartsFault}
use Rattle.ix_api.specs.declared.job_parts.PartsFault.TheVariants.{Root, Block, Selector, Job, Memory}

-- the CID at the front, and the bytes after it
abbrev pub root_at : List ℕ → Result (List ℕ × List ℕ) PartsFault
root_at bytes = told (cid_at bytes) where
  told : Result (List ℕ × ℕ) CidFault → Result (List ℕ × List ℕ) PartsFault
  told (Ok found) = Ok (found.0, drop found.1 bytes)
  told (Err fault) = Err (Root fault)

-- the CIDs that stand end to end, at most so many, after those before
abbrev pub roots_after : ℕ → List (List ℕ) → List ℕ → Result (List (List ℕ)) PartsFault
roots_after most before [] = Ok before
roots_after zero before (b ∷ bs) = Err (Job TooManyRoots)
roots_after (suc most) before (b ∷ bs) = root_at (b ∷ bs) >>= (λ r. roots_after most (before ++ r.0 ∷ []) r.1)

-- the CIDs that stand end to end, at most 64
abbrev pub roots_in : List ℕ → Result (List (List ℕ)) PartsFault
roots_in bytes = roots_after 64 [] bytes

-- the data that bytes spell, or the first fault with its place from the front
abbrev pub data_in : List ℕ → Result Data PartsFault
data_in bytes = told (decoded bytes) where
  told : Result Data Fault → Result Data PartsFault
  told (Ok d) = Ok d
  told (Err f) = Err (Block (record { kind = f.kind; place = length bytes - f.left }))

-- the selector that data is
abbrev pub selector_at : Data → Result Pattern PartsFault
selector_at d = told (selector_of d) where
  told : Result Pattern SelFault → Result Pattern PartsFault
  told (Ok p) = Ok p
  told (Err fault) = Err (Selector fault)

abbrev pub selector_in : List ℕ → Result Pattern PartsFault
selector_in bytes = data_in bytes >>= selector_at

-- the job, or its first fault
abbrev pub judged : JobMeaning → Result JobMeaning PartsFault
judged job = told (job_fault job.name job.roots job.limit) where
  told : Option JobFault → Result JobMeaning PartsFault
  told None = Ok job
  told (Some fault) = Err (Job fault)

-- the job with these parts and the name "job", which expands a block at every link
abbrev pub named_job : List (List ℕ) → Pattern → ℕ → JobMeaning
named_job roots selector limit =
    record { name = codes "job"; roots = roots; selector = selector; limit = limit; once = false }

-- the job that is so, or the first fault of its parts
abbrev pub job_of_parts : List ℕ → List ℕ → ℕ → Result JobMeaning PartsFault
job_of_parts roots selector limit =
    roots_in roots >>= (λ r. selector_in selector >>= (λ s. judged (named_job r s limit)))

-- what a call answered, seen by view, is what the definition gives, unless memory ran out
abbrev pub Gives : {X A : Type 0} → (X → A) → Result X PartsFault → Result A PartsFault → Type 0
Gives view (Ok x) meant = meant ≡ Ok (view x)
Gives view (Err Memory) meant = Unit {0}
Gives view (Err fault) meant = meant ≡ Err fault
