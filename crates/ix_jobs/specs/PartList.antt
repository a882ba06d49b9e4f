-- The jobs so far, of which a window is kept.
use Rattle.std.specs.Prelude.{◌≡◌, ℕ, List, length, slice_range, Result, Ok, Err}
use Rattle.ix_walk.specs.JobMeaning.{JobMeaning}
use Rattle.ix_jobs.specs.declared.fault.JobErrorKind.{JobErrorKind}
use Rattle.ix_jobs.specs.declared.part_list.PartList.{PartList}
use Rattle.ix_jobs.specs.Named.{HasNames}
use Rattle.ix_jobs.specs.Gives.{FailsAs}

-- what a list has after these jobs, where those from one on up to another are kept
pub record Keeps (start end : ℕ) (jobs : List JobMeaning) (list : PartList) : Type 0 where
  pub named : HasNames list.names jobs
  pub counted : list.count ≡ length jobs
  pub starts : list.start ≡ start
  pub ends : list.end ≡ end
  pub kept : list.jobs.items ≡ slice_range jobs start end

-- what a call that adds to such a list answered, and the list after it, are what the definition gives, unless it ran out of memory
abbrev pub KeepsMore : {X : Type 0} → ℕ → ℕ → PartList → Result X JobErrorKind → Result (List JobMeaning) JobErrorKind → Type 0
KeepsMore start end after (Ok x) meant = (jobs : List JobMeaning) × (meant ≡ Ok jobs) × Keeps start end jobs after
KeepsMore start end after (Err kind) meant = FailsAs kind kind meant

-- a call adds to whatever jobs there are what the definition adds, for each window that is kept
abbrev pub KeepsAdded : {X : Type 0} → PartList → PartList → Result X JobErrorKind → (List JobMeaning → Result (List JobMeaning) JobErrorKind) → Type 0
KeepsAdded old new answer add =
    (start end : ℕ) (before : List JobMeaning) → Keeps start end before old → KeepsMore start end new answer (add before)
