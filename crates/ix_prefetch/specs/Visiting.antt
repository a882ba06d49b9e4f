-- Visiting a link, by a walk over a table.
use Rattle.std.specs.Prelude.{◌≡◌, ℕ, Bool, false, List, Option, Some, None, if◌then◌else◌}
use Rattle.ix_cbor.specs.Data.{Data}
use Rattle.ix_selector.specs.Residual.{Place}
use Rattle.ix_store.specs.Store.{Blocks, value_of}
use Rattle.ix_walk.specs.declared.visit.Visit.{Visit}
use Rattle.ix_walk.specs.declared.visited_set.VisitedSet.{VisitedSet}
use Rattle.ix_walk.specs.Arriving.{IsValue}
use Rattle.ix_walk.specs.Visits.{visit_of}
use Rattle.ix_walk.specs.VisitedSet.{going_of}
use Rattle.ix_walk.specs.Walking.{arrival, waiting, data_inside, expanded_after, links_inside}
use Rattle.ix_prefetch.specs.declared.link.Pair.{Pair}
use Rattle.ix_prefetch.specs.declared.state.TableState.{TableState}
use Rattle.ix_prefetch.specs.Expansions.{ExpansionTable, IsPair}
use Rattle.ix_prefetch.specs.TableState.{PutsLinks}

-- a pair of the table is that of a block and the residual of this number, and a walk, which expands a CID once or at every link to
-- it, can take its list
pub record IsUsable (t : ExpansionTable) (block : Option ℕ) (residual : ℕ) (once : Bool) (p : Pair) : Type 0 where
  pub pair : IsPair t p
  pub here : Some p.place ≡ block
  pub number : p.residual ≡ residual
  pub usable : once ≡ false → p.barren ≡ false

-- whether a walk visits the links below a CID with this residual: then the data that it expands are those of the CID, and else
-- there are none; and it records that it has
pub record EntersList (store : Blocks) (places : List Place) (cid : List ℕ) (old new : Option VisitedSet) (enters : Bool) : Type 0 where
  pub inside : (depth : ℕ) → data_inside store (going_of store old) (waiting places depth cid) ≡ (if enters then value_of store cid else None)
  pub expanded : (depth : ℕ) → going_of store new ≡ expanded_after (data_inside store (going_of store old) (waiting places depth cid)) (waiting places depth cid) (going_of store old)

-- this is the visit of its CID at its depth
abbrev pub IsVisitAt : ExpansionTable → ℕ → ℕ → Visit → Type 0
IsVisitAt t number seq v = v ≡ visit_of t.store number seq (arrival v.depth v.cid)

-- the links in a block come before those that wait, if there is a block
abbrev pub PutsInside : List Place → Option (List ℕ) → ℕ → TableState → TableState → Type 0
PutsInside places block depth old new = (value : Option Data) → IsValue value block → PutsLinks (links_inside places depth value) old new
