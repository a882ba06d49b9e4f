-- What a walk over a table has still to return.
use Rattle.std.specs.Prelude.{ℕ, ◌+◌, ◌≤◌, Bool, false, Option, Some, None, Result, Ok, Err}
use Rattle.ix_walk.specs.declared.visit.Visit.{Visit}
use Rattle.ix_walk.specs.declared.fault.WalkStop.{WalkStop}
use Rattle.ix_walk.specs.VisitedSet.{going_of}
use Rattle.ix_walk.specs.Walking.{walk_left, NoDeeper}
use Rattle.ix_walk.specs.WalkLeft.{WalkLeft, GivesNext, nothing_left}
use Rattle.ix_prefetch.specs.declared.state.TableState.{TableState}
use Rattle.ix_prefetch.specs.Expansions.{ExpansionTable}
use Rattle.ix_prefetch.specs.TableState.{links_left, IsWithin}

-- what is left of the walk of the table's job with this number, which has returned so many visits and keeps this, or has ended
abbrev pub left_of_table_walk : ExpansionTable → ℕ → ℕ → TableState → Bool → WalkLeft
left_of_table_walk t number given s ended = walk_left t.store number t.job.limit given (going_of t.store s.expanded) (links_left t s) ended

-- what a walk keeps: the visits returned are within the limit, and no link that waits is deeper than there are of them
pub record IsWalking (t : ExpansionTable) (given : ℕ) (s : TableState) : Type 0 where
  pub limit : given ≤ t.job.limit
  pub within : IsWithin t s
  pub shallow : NoDeeper given (links_left t s)

-- what is taken of it, and what is then left
abbrev pub TakesNext : ExpansionTable → ℕ → ℕ → TableState → Result (Option Visit) WalkStop → TableState → Type 0
TakesNext t number given old (Ok (Some v)) new =
    GivesNext (left_of_table_walk t number given old false) (Some (Ok v)) (left_of_table_walk t number (given + 1) new false) × IsWalking t (given + 1) new
TakesNext t number given old (Ok None) new = GivesNext (left_of_table_walk t number given old false) None nothing_left
TakesNext t number given old (Err stop) new = GivesNext (left_of_table_walk t number given old false) (Some (Err stop)) nothing_left
