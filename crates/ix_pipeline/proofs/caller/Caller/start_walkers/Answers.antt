use Rattle.std.proofs.Common.{◌≡◌, List, All, subst}
use Rattle.std.proofs.lemmas.List.Elements.{All-tail}
use Rattle.std.specs.Vec.Iter.{into_iter_items}
use Rattle.ix_stages.specs.Claims.{SeatMeaning}
use Rattle.ix_stages.specs.Seats.{JobView}
use Rattle.ix_pipeline.proofs.caller.Caller.start_walkers.Goals as goal

pub loop-claimer-preserved : goal.loop-claimer-preserved
loop-claimer-preserved g c =
    let P : SeatMeaning JobView → Type 0 = λ s. s.of ≡ c.args.shared.now.claims.now in
    let all = subst (λ (l : List (SeatMeaning JobView)). All P l) c.in-Some.ensures.steps.0 c.loop-claimer.invariant.of in
    record { can_next = tt; finite = tt; of = All-tail P c.in-Some.claimer (into_iter_items c.next.new.self) all }
