-- Sinks that were closed with one end.
use Rattle.std.specs.Prelude.{◌≡◌, List, [], ◌∷◌}
use Rattle.ix_car.specs.declared.sink.End.{End}
use Rattle.ix_car.specs.Events.{Calls, close}

module _ {S : Type 0} (calls : S → Calls) (end : End) where
  -- each sink was closed with this end, and received nothing else
  abbrev pub EachClosed : List End → List S → Type 0
  EachClosed [] [] = Unit {0}
  EachClosed (e ∷ es) (s ∷ ss) = ((e ≡ end) × ((calls s).events ≡ close end ∷ []) × ((calls s).failed ≡ [])) × EachClosed es ss
  EachClosed es ss = ⊥
