use Rattle.std.proofs.Common.{rules, refl, ◌≡◌, ◌+◌, List, drop, ap, sym, ◌∙◌, arith, Option, None, Some, subst}
use Rattle.std.specs.Prelude.{slice_get, MatchOption}
use Rattle.circular_buffer.specs.Buffer.{Buffer}
use Rattle.std.specs.Option.{option_flatten}
use Rattle.ix_pipeline.specs.Numbered.{Numbered, found, IsPopped}
use Rattle.ix_pipeline.proofs.Slots.{slot-get, found_at, popped, window_at}
use Rattle.ix_pipeline.proofs.ring.Ring.pop.Goals.{in-Some, in-None}
use Rattle.ix_pipeline.proofs.ring.Ring.pop.Goals as goal

pub returns-then-not-is_taken-clause-popped : goal.returns-then-not-is_taken-clause-popped
returns-then-not-is_taken-clause-popped g c = (
  refl,
  subst (λ (r : Numbered g.row.T.Denot). found r r.next ≡ None) c.self.view_is (found_at c.self.inside.next c.self.inside.window.items c.self.inside.next 0 (omega arith) (omega arith) ∙ search rules),
)

pub returns-clause-popped : goal.returns-clause-popped
returns-clause-popped g c =
    let there = c.if-not-is_taken.ensures in
    let out : c.pop_front.result ≡ slice_get c.self.inside.window.items 0 = c.pop_front.ensures.value in
    let given : c.match-pop_front.result ≡ option_flatten c.pop_front.result =
    elim c.match-pop_front.branch [ in-Some w ↦ w.result-is ∙ sym (ap option_flatten w.in-Some.is) | in-None w ↦ w.result-is ∙ sym (ap option_flatten w.in-None.is) ]
    in
    let is : c.match-pop_front.result ≡ Some there.0 = given ∙ ap option_flatten out ∙ sym (slot-get c.self.inside.window.items 0) ∙ there.1 in
    let items : c.pop_front.new.self.items ≡ drop 1 c.self.inside.window.items = ap (λ (b : Buffer (Option g.row.T.Denot)). b.items) c.pop_front.ensures.items in
    let old = subst (λ (r : Numbered g.row.T.Denot). IsPopped r there.0 (window_at (c.self.inside.next + 1) (drop 1 c.self.inside.window.items))) c.self.view_is (popped c.self.inside.next c.self.inside.window.items there.0 there.1) in
    let new = subst (λ (l : List (Option g.row.T.Denot)). IsPopped c.args.self.now there.0 (window_at (c.self.inside.next + 1) l)) (sym items) old in
    subst
    (λ (o : Option g.row.T.Denot). MatchOption o ((window_at (c.self.inside.next + 1) c.pop_front.new.self.items ≡ c.args.self.now) × (found c.args.self.now c.args.self.now.next ≡ None)) (λ x. IsPopped c.args.self.now x (window_at (c.self.inside.next + 1) c.pop_front.new.self.items)))
    (sym is) new
