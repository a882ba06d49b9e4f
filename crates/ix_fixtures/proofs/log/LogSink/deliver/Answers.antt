use Rattle.std.proofs.Common.{◌≡◌, List, [], ◌∷◌, ◌++◌, map, refl, ◌∙◌, ap}
use Rattle.std.specs.Prelude.{option_to_list}
use Rattle.ix_car.specs.declared.sink.Delivery.{Delivery}
use Rattle.ix_car.specs.declared.sink.End.{End}
use Rattle.ix_car.specs.Events.{Event, delivery, close, IsOpen}
use Rattle.ix_fixtures.proofs.log.LogSink.deliver.Goals as goal

-- an open log with one delivery more
more : (ds : List Delivery) (ends : List End) (d : Delivery) → IsOpen (map delivery ds ++ map close ends) → map delivery (ds ++ d ∷ []) ++ map close ends ≡ (map delivery ds ++ map close ends) ++ delivery d ∷ []
more [] [] d h = refl
more [] (e ∷ es) d h = absurd h
more (x ∷ ds) ends d h = ap (λ (l : List Event). delivery x ∷ l) (more ds ends d h)

pub returns-then-len-self-clause-ok : goal.returns-then-len-self-clause-ok
returns-then-len-self-clause-ok c =
    ap (λ (l : List Delivery). map delivery l ++ map close (option_to_list c.args.self.now.closed)) c.push_reserved.ensures.items
    ∙ more c.args.self.now.deliveries.items (option_to_list c.args.self.now.closed) (record { visit = c.args.visit; verdict = c.args.verdict }) c.requires.open
