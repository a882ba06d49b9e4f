-- Which blocks of a store are known with those of a have-list.
use Rattle.std.specs.Prelude.{◌≡◌, ℕ, Bool, false, ◌||◌, List, Option, None, Some, Ok}
use Rattle.ix_store.specs.Store.{Blocks}
use Rattle.ix_store.specs.declared.places.PlaceSet.{PlaceSet}
use Rattle.ix_store.specs.PlaceSet.{contains_place}
use Rattle.ix_jobs.specs.declared.list_fault.ListFault.{ListFault}
use Rattle.ix_jobs.specs.GivesList.{IsFaultOf}
use Rattle.ix_jobs.specs.HaveList.{cids_of}
use Rattle.ix_jobs.specs.Places.{is_listed_at}

-- a position is known already
abbrev pub is_known_at : Option PlaceSet → ℕ → Bool
is_known_at None n = false
is_known_at (Some places) n = contains_place places n

-- known are the positions of before, and those of the blocks whose CIDs are listed
pub record IsKnownWith (before : Option PlaceSet) (store : Blocks) (list : List ℕ) (places : PlaceSet) : Type 0 where
  pub cids : List (List ℕ)
  pub listed : cids_of list ≡ Ok cids
  pub known : (n : ℕ) → contains_place places n ≡ (is_listed_at store cids n || is_known_at before n)

-- the first faulty line of a have-list, or memory ran out
abbrev pub IsListFault : List ℕ → ListFault → Type 0
IsListFault list fault = IsFaultOf fault (cids_of list)
