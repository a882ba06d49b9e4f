-- What the archive of a job is, in the end.
use Rattle.std.specs.Prelude.{◌≡◌, List, ◌++◌, Option, Some, ℕ}
use Rattle.ix_store.specs.Store.{Blocks}
use Rattle.ix_walk.specs.JobMeaning.{JobMeaning}
use Rattle.ix_car.specs.declared.sink.End.{End}
use Rattle.ix_car.specs.declared.sink.End.TheVariants.{Done}
use Rattle.ix_car.specs.Events.{Calls, deliveries_of}
use Rattle.ix_car.specs.Archive.{Known, difference_of}
use Rattle.ix_car.specs.ArchiveMeaning.{HasWrittenWithout}

-- the list begins with this
abbrev pub IsBeginning : List ℕ → List ℕ → Type 0
IsBeginning a b = (more : List ℕ) × (a ++ more ≡ b)

-- a writer's bytes are known, and begin these
abbrev pub TellsBeginning : Option (List ℕ) → List ℕ → Type 0
TellsBeginning told whole = (bytes : List ℕ) × (told ≡ Some bytes) × IsBeginning bytes whole

-- What an archive over the store and the job has written, whichever CIDs are known, if its writer's bytes are told: without the
-- sections of known CIDs, the whole archive at Done, and else its beginning.
pub record IsArchived (store : Blocks) (number : ℕ) (job : JobMeaning) (end : End) (calls : Calls) : Type 0 where
  pub whole : end ≡ Done → (known : Known) (told : Option (List ℕ)) → HasWrittenWithout known told store job.roots (deliveries_of calls.events) calls.failed → told ≡ Some (difference_of known store number job)
  pub beginning : (known : Known) (bytes : List ℕ) → HasWrittenWithout known (Some bytes) store job.roots (deliveries_of calls.events) calls.failed → IsBeginning bytes (difference_of known store number job)
