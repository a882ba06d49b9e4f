-- What the command `root` exports.
use Rattle.std.specs.Prelude.{ℕ, Bool, true, false, List, [], ◌∷◌, codes, Result, Ok}
use Rattle.ix_selector.specs.Pattern.{matcher}
use Rattle.ix_store.specs.Store.{Blocks}
use Rattle.ix_walk.specs.JobMeaning.{JobMeaning}
use Rattle.ix_car.specs.declared.sink.End.{End}
use Rattle.ix_car.specs.declared.sink.End.TheVariants.{Done, Limit, Memory, Write, Start}
use Rattle.ix_car.specs.Kept.{kept}
use Rattle.ix_car.specs.Verified.{judged_visits}
use Rattle.ix_car.specs.Archive.{archive_with}
use Rattle.ix_sections.specs.Reading.{Fault, ◌>>=◌, blocks_of}
use Rattle.ix_sections.specs.Gives.{IsFaultOf}
use Rattle.ix_run.specs.declared.fault.RunFault.{RunFault}
use Rattle.ix_run.specs.declared.fault.RunFault.TheVariants as faults

-- the job of a root: the matcher, and one visit
abbrev pub root_job : List ℕ → JobMeaning
root_job root = record { name = codes "root"; roots = root ∷ []; selector = matcher; limit = 1; once = false }

-- the archive of what is kept of the visits of that job
abbrev pub exported : Blocks → List ℕ → List ℕ
exported store root = archive_with store (root ∷ []) (kept (judged_visits store 0 (root_job root)))

-- the same from the bytes of a CARv1 file
abbrev pub exported_from : List ℕ → List ℕ → Result (List ℕ) Fault
exported_from car root = blocks_of car >>= (λ store. Ok (exported store root))

-- walked to its end or to its limit, and all was written
abbrev pub is_whole_end : End → Bool
is_whole_end Done = true
is_whole_end Limit = true
is_whole_end Memory = false
is_whole_end Write = false
is_whole_end Start = false

-- why a file is rejected: the first fault of its blocks, or memory ran out
abbrev pub IsRefusalOf : List ℕ → RunFault → Type 0
IsRefusalOf car (faults.Car fault) = IsFaultOf car fault (blocks_of car)
IsRefusalOf car faults.Memory = Unit {0}
IsRefusalOf car faults.Hex = ⊥
IsRefusalOf car (faults.Root fault) = ⊥
IsRefusalOf car (faults.Jobs fault) = ⊥
IsRefusalOf car (faults.Write number) = ⊥
