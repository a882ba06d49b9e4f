use Rattle.std.proofs.Common.{◌≡◌, ℕ, ◌+◌, ◌<◌, List, ◌∷◌, take, get_or, length, sym, subst}
use Rattle.std.specs.Prelude.{None}
use Rattle.std.proofs.lemmas.List.{get_or_default, take_all}
use Rattle.std.proofs.lemmas.List.Elements.{All-get_or}
use Rattle.std.proofs.lemmas.Result.{IfOk-weaker}
use Rattle.ix_selector.specs.declared.selector_node.SelectorNode.{SelectorNode}
use Rattle.ix_selector.specs.declared.state.State.{State}
use Rattle.ix_selector.specs.declared.reached.Reached.{Reached}
use Rattle.ix_selector.specs.Enters.{Step}
use Rattle.ix_selector.specs.Residual.{step_of}
use Rattle.ix_selector.specs.Places.{places_of}
use Rattle.ix_selector.specs.States.{frames, sequence_of, place_of, seen_states, EntersAt, SomeEnter, ReachedEnters, IsState, IsStanding, Same, Joins}
use Rattle.ix_selector.specs.Reaching.{AreReached, Adds}
use Rattle.ix_selector.specs.Behind.{leads_after_from, all_lead_after, residual_after}
use Rattle.ix_selector.proofs.Reaching.{joins-same, joins-nothing}
use Rattle.ix_selector.proofs.Leading.{behind-state, behind-enters}
use Rattle.ix_selector.proofs.Residues.{Stepped, derivative-more, same-twice}
use Rattle.ix_selector.proofs.Adding.{adds-none, steps-take, derivative-exact}
use Rattle.ix_selector.proofs.stepping.derivative.Goals.{in-Some-child_of+in_ok-close_over, in_default-child_of}
use Rattle.ix_selector.proofs.stepping.derivative.Goals as goal

-- one more state makes the step
next : (nodes : List SelectorNode) (t : Step) (start old new : Reached) (xs : List State) (i : ℕ) (x : State) → i < length xs → x ≡ get_or xs i x
    → Stepped nodes t old (take i xs) × Adds nodes start old (all_lead_after (seen_states nodes (take i xs)) t)
    → AreReached nodes new → Joins (ReachedEnters nodes new) (ReachedEnters nodes old) (λ p. EntersAt nodes x (t ∷ p)) → Adds nodes old new (leads_after_from (place_of nodes x) t)
    → Stepped nodes t new (take (i + 1) xs) × Adds nodes start new (all_lead_after (seen_states nodes (take (i + 1) xs)) t)
next nodes t start old new xs i x within is so_far reached enters adds =
    (derivative-more nodes t old new xs i x within is so_far.0 reached enters, steps-take nodes t start old new xs i x within is so_far.1 adds)

pub loop-state-preserved : goal.loop-state-preserved
loop-state-preserved c =
    let nodes = c.args.nodes.now in
    let t = step_of c.args.step.now in
    let xs = c.args.states.now in
    let i = c.loop-state.state-index in
    let x : State = get_or xs i (record { place = 0; recursion = None }) in
    let start = c.new-reached.result in
    let old = c.loop-state.reached in
    let within = c.loop-state-test.true in
    let Steps : Reached → Type 0 = λ r. Stepped nodes t r (take (i + 1) xs) × Adds nodes start r (all_lead_after (seen_states nodes (take (i + 1) xs)) t) in
    elim c.match-child_of.branch [
      | in-Some-child_of+in_ok-close_over w ↦
          let new = w.close_over.new.reached in
          let leads = w.in-Some-child_of.ensures in
          let got = w.in_ok-close_over.ensures in
          subst Steps (sym w.reached-is)
          (next nodes t start old new xs i x within (get_or_default _ _ _ _ within) c.loop-state.invariant got.reached
          (joins-same (ReachedEnters nodes new) (ReachedEnters nodes old) _ (λ p. EntersAt nodes x (t ∷ p)) got.enters (behind-enters nodes x t w.in-Some-child_of.place leads.some))
          (subst (Adds nodes old new) (sym (leads.leads (frames (places_of nodes) x.recursion) (sequence_of x.recursion))) got.exact))
      | in_default-child_of w ↦
          let ends = w.in_default-child_of.ensures in
          let stands : IsStanding nodes x = All-get_or (IsStanding nodes) xs i _ within c.requires.states.1 in
          subst Steps (sym w.reached-is)
          (next nodes t start old old xs i x within (get_or_default _ _ _ _ within) c.loop-state.invariant c.loop-state.invariant.0.reached
          (joins-nothing (ReachedEnters nodes old) (λ p. EntersAt nodes x (t ∷ p)) (λ p. ends.none stands _ p))
          (subst (Adds nodes old old) (sym (ends.nowhere (frames (places_of nodes) x.recursion) (sequence_of x.recursion))) (adds-none nodes old)))
    ]

pub close_over-requires-clause-state : goal.close_over-requires-clause-state
close_over-requires-clause-state c =
    behind-state c.args.nodes.now _ (step_of c.args.step.now) c.in-Some-child_of.place (All-get_or (IsState c.args.nodes.now) c.args.states.now c.loop-state.state-index _ c.loop-state-test.true c.requires.states.0) c.in-Some-child_of.ensures.within c.in-Some-child_of.ensures.beside c.in-Some-child_of.ensures.some

pub returns-clause-enters : goal.returns-clause-enters
returns-clause-enters c =
    let nodes = c.args.nodes.now in
    let t = step_of c.args.step.now in
    let all : Stepped nodes t c.loop-state.reached c.args.states.now = subst (Stepped nodes t c.loop-state.reached) (take_all c.loop-state.state-index c.args.states.now c.loop-state-test.false) c.loop-state.invariant.0 in
    IfOk-weaker c.reenter_edges.result _ (λ r. Same (SomeEnter nodes r.items) (λ p. SomeEnter nodes c.args.states.now (t ∷ p)))
    (λ r same. same-twice (SomeEnter nodes r.items) (ReachedEnters nodes c.loop-state.reached) (λ p. SomeEnter nodes c.args.states.now (t ∷ p)) same all.enters)
    c.reenter_edges.ensures.enters

pub returns-clause-exact : goal.returns-clause-exact
returns-clause-exact c =
    let nodes = c.args.nodes.now in
    let t = step_of c.args.step.now in
    let all : Adds nodes c.new-reached.result c.loop-state.reached (all_lead_after (seen_states nodes c.args.states.now) t) =
    subst (λ l. Adds nodes c.new-reached.result c.loop-state.reached (all_lead_after (seen_states nodes l) t)) (take_all c.loop-state.state-index c.args.states.now c.loop-state-test.false) c.loop-state.invariant.1 in
    IfOk-weaker c.reenter_edges.result _ (λ r. seen_states nodes r.items ≡ residual_after (seen_states nodes c.args.states.now) t)
    (λ r is. derivative-exact nodes t c.new-reached.result c.loop-state.reached c.args.states.now r.items c.new-reached.ensures.0 c.new-reached.ensures.1 all is) c.reenter_edges.ensures.exact
