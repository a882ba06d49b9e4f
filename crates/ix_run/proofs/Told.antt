-- The results that the events of an archive give.
use Rattle.std.proofs.Common.{◌≡◌, List, [], ◌∷◌, ◌++◌, sym, ◌∙◌, ap, map}
use Rattle.ix_car.specs.declared.sink.Delivery.{Delivery}
use Rattle.ix_car.specs.declared.sink.End.{End}
use Rattle.ix_car.specs.Events.{delivery, close, deliveries_of}
use Rattle.ix_car.proofs.Archives.{told-back}

-- the deliveries, where the events are deliveries and one close
pub same_deliveries : (ds : List Delivery) (ends : List End) (told : List Delivery) (end : End) → map delivery ds ++ map close ends ≡ map delivery told ++ close end ∷ [] → ds ≡ told
same_deliveries ds ends told end h = sym (told-back ds ends) ∙ ap deliveries_of h ∙ told-back told (end ∷ [])
