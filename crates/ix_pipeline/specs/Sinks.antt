-- The sinks with which a flow begins.
use Rattle.std.specs.Prelude.{◌≡◌, ◌≤◌, ℕ, List, [], length, vec_capacity}
use Rattle.std.specs.Global.{Vec}
use Rattle.ix_car.specs.declared.sink.End.{End}
use Rattle.ix_car.specs.Events.{Calls}
use Rattle.ix_car.specs.Headline.{EachFresh}

module _ {S : Type 0} (calls : S → Calls) where
  -- so many sinks, none of which received anything
  pub record AreFreshSinks (count : ℕ) (sinks : List S) : Type 0 where
    pub sized : length sinks ≡ count
    pub fresh : EachFresh calls sinks

  -- sinks that received nothing, and room for the end of each
  pub record CanCloseAll (sinks : List S) (ends : Vec End) : Type 0 where
    pub room : (ends.items ≡ []) × (length sinks ≤ vec_capacity ends)
    pub fresh : EachFresh calls sinks
