use Rattle.std.proofs.Common.{◌≡◌, ◌+◌, ℕ, false, ap, sym, subst, ◌∙◌, Bool, arith}
use Rattle.crossbeam_queue.specs.Passes.{view}
use Rattle.ix_stages.specs.declared.pass_view.PassView.{PassView}
use Rattle.ix_stages.specs.PassViews.{after_put}
use Rattle.ix_stages.specs.Seats.{IsNext, IsJobPass, JobView, next_after, closed_after}
use Rattle.ix_stages.proofs.QueuePuts.{puts}
use Rattle.ix_stages.proofs.SeatMoves.{may_put, next_pass, next_one}
use Rattle.ix_stages.proofs.queue.VisitQueue.try_put.Goals as goal

pub push_as-requires-clause-rule : goal.push_as-requires-clause-rule
push_as-requires-clause-rule g c =
    let s = c.seat.inside in
    let shut : s.closed ≡ false = ap (λ (v : JobView). v.closed) c.seat.view_is ∙ c.requires.going in
    let next : IsNext (record { table = s.pass.table_id; pass = view s.pass; job = s.job; next = s.next; closed = s.closed }) c.args.item = subst (λ (v : JobView). IsNext v c.args.item) (sym c.seat.view_is) c.requires.next in
    let pass : IsJobPass (view s.pass) s.job s.next false = subst (λ (b : Bool). IsJobPass (view s.pass) s.job s.next b) shut c.seat.invariant.1 in
    (puts _ _ _ _ (may_put (view s.pass) s.job s.next c.args.item pass next.0 next.1 next.2), λ items views h at. tt)

-- the visit that was put is one of the job's, of which there are fewer than 2^32
pub overflow_add-seat : goal.overflow_add-seat
overflow_add-seat g c =
    let s = c.seat.inside in
    let x = c.args.item in
    let shut : s.closed ≡ false = ap (λ (v : JobView). v.closed) c.seat.view_is ∙ c.requires.going in
    let next : IsNext (record { table = s.pass.table_id; pass = view s.pass; job = s.job; next = s.next; closed = s.closed }) x = subst (λ (v : JobView). IsNext v x) (sym c.seat.view_is) c.requires.next in
    let pass : IsJobPass (view s.pass) s.job s.next false = subst (λ (b : Bool). IsJobPass (view s.pass) s.job s.next b) shut c.seat.invariant.1 in
    let stays : closed_after x ≡ false = sym c.is_close-closes.ensures ∙ c.if-closes.false in
    let one : next_after s.next x ≡ s.next + 1 = next_one s.job s.next x next.0 stays in
    let small = (next_pass (view s.pass) s.job s.next x pass next.0 next.1 next.2).small in
    let within = small.0 in
    let few = small.1 in omega (arith, one, within, few)

pub invariant_of-seat-else-closes : goal.invariant_of-seat-else-closes
invariant_of-seat-else-closes g c =
    let s = c.seat.inside in
    let x = c.args.item in
    let shut : s.closed ≡ false = ap (λ (v : JobView). v.closed) c.seat.view_is ∙ c.requires.going in
    let next : IsNext (record { table = s.pass.table_id; pass = view s.pass; job = s.job; next = s.next; closed = s.closed }) x = subst (λ (v : JobView). IsNext v x) (sym c.seat.view_is) c.requires.next in
    let pass : IsJobPass (view s.pass) s.job s.next false = subst (λ (b : Bool). IsJobPass (view s.pass) s.job s.next b) shut c.seat.invariant.1 in
    let stays : closed_after x ≡ false = sym c.is_close-closes.ensures ∙ c.if-closes.false in
    let after = next_pass (view s.pass) s.job s.next x pass next.0 next.1 next.2 in
    let is : c.push_as.new.pass.me.0.client ≡ after_put (view s.pass) x = c.in-Ok.ensures.rule in
    let one : next_after s.next x ≡ s.next + 1 = next_one s.job s.next x next.0 stays in
    (c.push_as.ensures.queue.2 ∙ c.seat.invariant.0, subst (λ (y : PassView × ℕ × Bool). IsJobPass y.0 s.job y.1 y.2) (λ t. (sym is t, one t, (stays ∙ sym shut) t)) after)
