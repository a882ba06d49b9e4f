-- The items of a history.
use Rattle.std.specs.Prelude.{List, [], ◌∷◌, ◌++◌}
use Rattle.ix_check.specs.declared.history.GhostList.{GhostList}
use Rattle.ix_check.specs.declared.history.GhostList.TheOpen.{GhostList-F}
use Rattle.ix_check.specs.declared.history.GhostList.TheOpen as layer
use Rattle.ix_check.specs.declared.history.GhostList.TheFolds.{fold-GhostList}

-- one layer, given the items before it
abbrev pub listed_layer : {T : Type 0} → GhostList-F T (List T) → List T
listed_layer layer.Nil = []
listed_layer (layer.Snoc before item) = before.value ++ item.value ∷ []

-- the items that were recorded, in order
abbrev pub listed : {T : Type 0} → GhostList T → List T
listed {T} = fold-GhostList T (List T) listed_layer
