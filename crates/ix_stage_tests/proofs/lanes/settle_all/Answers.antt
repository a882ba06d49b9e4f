use Rattle.std.proofs.Common.{◌≡◌, ◌++◌, ◌∷◌, [], List, All, IfOk, Result, ap, sym, subst, ◌∙◌, append_assoc}
use Rattle.std.specs.declared.alloc.AllocError.{AllocError}
use Rattle.std.proofs.lemmas.List.Elements.{All-push}
use Rattle.ix_stages.specs.Claims.{SeatMeaning}
use Rattle.ix_stages.proofs.ClaimSettling.{all_after}
use Rattle.ix_stage_tests.specs.declared.lanes.Claimed.{Claimed}
use Rattle.ix_stage_tests.proofs.lanes.settle_all.Goals as goal

pub loop-claimed-preserved : goal.loop-claimed-preserved
loop-claimed-preserved c =
    let h = c.loop-claimed.invariant in
    let claims = c.args.claims.now in
    let left = c.next.new.self.rest.items in
    let all : c.args.all.items ≡ c.loop-claimed.yielded ++ c.in-Some.claimed ∷ left = h.1 ∙ ap (λ (l : List (Result Claimed AllocError)). c.loop-claimed.yielded ++ l) c.in-Some.ensures.steps.0 in
    let one : IfOk c.in-Some.claimed (λ d. d.seat.of ≡ claims) = all_after (λ (r : Result Claimed AllocError). IfOk r (λ d. d.seat.of ≡ claims)) c.loop-claimed.yielded c.in-Some.claimed left (subst (λ (l : List (Result Claimed AllocError)). All (λ r. IfOk r (λ d. d.seat.of ≡ claims)) l) all c.requires) in
    let is : c.in_ok-seat.field-0.seat.of ≡ claims = subst (λ (r : Result Claimed AllocError). IfOk r (λ d. d.seat.of ≡ claims)) c.in_ok-seat.was one in (
      subst (λ (l : List (SeatMeaning _)). All (λ s. s.of ≡ claims) l) (sym c.in_ok-push.ensures.items) (All-push (λ (s : SeatMeaning _). s.of ≡ claims) c.loop-claimed.seats.items c.in_ok-seat.field-0.seat h.0 is),
      all ∙ sym (append_assoc c.loop-claimed.yielded (c.in-Some.claimed ∷ []) left),
    )
