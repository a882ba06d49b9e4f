use Rattle.std.proofs.Common.{◌≡◌, ◌++◌, ◌∷◌, [], List, All, ap, sym, subst, ◌∙◌, append_assoc}
use Rattle.ix_stages.specs.declared.claim_rule.ClaimView.{ClaimView}
use Rattle.ix_stages.specs.Claims.{SeatMeaning}
use Rattle.ix_stages.specs.ClaimsJoined.{HasJoined}
use Rattle.ix_stages.proofs.ClaimSettling.{joined_more, all_after}
use Rattle.ix_stages.proofs.claims.join_all.Goals as goal

pub loop-seat-preserved : goal.loop-seat-preserved
loop-seat-preserved g c =
    let h = c.loop-seat.invariant in
    let s = c.in-Some.seat in
    let left = c.next.new.self.rest.items in
    let seats : c.args.seats.items ≡ c.loop-seat.yielded ++ s ∷ left = h.2 ∙ ap (λ (l : List (SeatMeaning g.row.T.Denot)). c.loop-seat.yielded ++ l) c.in-Some.ensures.steps.0 in
    let is : s.of ≡ c.args.claims.now = all_after (λ (s : SeatMeaning g.row.T.Denot). s.of ≡ c.args.claims.now) c.loop-seat.yielded s left (subst (λ (l : List (SeatMeaning g.row.T.Denot)). All (λ s. s.of ≡ c.args.claims.now) l) seats c.requires.seats) in (
      c.join.ensures.table ∙ h.0,
      subst (λ (v : ClaimView g.row.T.Denot). HasJoined c.args.claims.now (c.loop-seat.yielded ++ s ∷ []) v) (sym c.join.ensures.view) (joined_more _ _ _ _ is h.1),
      seats ∙ sym (append_assoc c.loop-seat.yielded (s ∷ []) left),
    )
