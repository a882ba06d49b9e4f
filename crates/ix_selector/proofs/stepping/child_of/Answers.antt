use Rattle.std.proofs.Common.{refl, ◌≡◌, ◌<◌, true, false, rules, arith, length, get_or, sym, subst, ◌∙◌, to_z, of_z}
use mir.Syntax.{w128}
use Rattle.std.proofs.lemmas.Int.{to_z-of_z}
use Rattle.std.proofs.lemmas.Option.{IfSome_then}
use Rattle.ix_selector.specs.declared.selector_node.SelectorNode.TheVariants.{All, Fields, Index, Range}
use Rattle.ix_selector.specs.Steps.{is_at, is_within}
use Rattle.ix_selector.specs.Places.{at, places_of, AreRising}
use Rattle.ix_selector.specs.Named.{HasName, HasNoName}
use Rattle.ix_selector.specs.Residual.{step_of}
use Rattle.ix_selector.specs.States.{Stands, LeadsTo, LeadsNowhere}
use Rattle.ix_selector.specs.Standing.{IsBeside}
use Rattle.ix_selector.proofs.Inside.{place-is, node-is}
use Rattle.ix_selector.proofs.Named.{fields_lead, fields_nowhere}
use Rattle.ix_selector.proofs.Leading.{all_leads, index_leads, index_nowhere, range_leads, range_nowhere, chosen-some, chosen-none, if-none, default-nowhere, name-below, name-number}
use Rattle.ix_selector.specs.Reaching.{LeadsAs, LeadsToNone}
use Rattle.ix_selector.proofs.Adding.{all-as, fields-as, fields-none, index-as, index-none, range-as, range-none, default-none}
use Rattle.ix_selector.proofs.stepping.child_of.Goals as goal

pub named-requires : goal.named-requires
named-requires c =
    let is = subst (λ y. y ≡ get_or c.args.nodes.now c.args.place y) c.in-Fields.is c.index-nodes-place.is in
    subst AreRising (sym c.deref.ensures.value) (node-is c.args.nodes.now c.args.place (Fields c.in-Fields.names) c.requires.table.placed c.requires.place is).1

pub returns-in-All-clause-within : goal.returns-in-All-clause-within
returns-in-All-clause-within c =
    let is = subst (λ y. y ≡ get_or c.args.nodes.now c.args.place y) c.in-All.is c.index-nodes-place.is in
    let below : c.in-All.next < c.args.place = node-is c.args.nodes.now c.args.place (All c.in-All.next) c.requires.table.placed c.requires.place is in
    omega arith

pub returns-in-All-clause-some : goal.returns-in-All-clause-some
returns-in-All-clause-some c =
    let is = subst (λ y. y ≡ get_or c.args.nodes.now c.args.place y) c.in-All.is c.index-nodes-place.is in
    let ps = places_of c.args.nodes.now in
    subst (λ s. LeadsTo s (step_of c.args.step.now) (at ps c.in-All.next)) (sym (place-is c.args.nodes.now c.args.place (All c.in-All.next) c.requires.table.placed c.requires.place is)) (all_leads (at ps c.in-All.next) (step_of c.args.step.now))

pub returns-in-Fields-clause-within : goal.returns-in-Fields-clause-within
returns-in-Fields-clause-within c =
    let is = subst (λ y. y ≡ get_or c.args.nodes.now c.args.place y) c.in-Fields.is c.index-nodes-place.is in
    let node = node-is c.args.nodes.now c.args.place (Fields c.in-Fields.names) c.requires.table.placed c.requires.place is in
    IfSome_then c.named.result c.named.ensures.some
    (λ k has.
    let below : k < c.args.place = name-below c.args.place c.in-Fields.names.items (step_of c.args.step.now) k node.0 (subst (λ l. HasName l (step_of c.args.step.now) k) c.deref.ensures.value has) in
    let place = c.requires.place in
    omega arith)

pub returns-in-Fields-clause-some : goal.returns-in-Fields-clause-some
returns-in-Fields-clause-some c =
    let is = subst (λ y. y ≡ get_or c.args.nodes.now c.args.place y) c.in-Fields.is c.index-nodes-place.is in
    let ps = places_of c.args.nodes.now in
    let node = node-is c.args.nodes.now c.args.place (Fields c.in-Fields.names) c.requires.table.placed c.requires.place is in
    IfSome_then c.named.result c.named.ensures.some
    (λ k has.
    subst (λ s. LeadsTo s (step_of c.args.step.now) (at ps k)) (sym (place-is c.args.nodes.now c.args.place (Fields c.in-Fields.names) c.requires.table.placed c.requires.place is))
    (fields_lead ps c.in-Fields.names.items (step_of c.args.step.now) k node.1 (subst (λ l. HasName l (step_of c.args.step.now) k) c.deref.ensures.value has)))

pub returns-in-Fields-clause-none : goal.returns-in-Fields-clause-none
returns-in-Fields-clause-none c =
    let is = subst (λ y. y ≡ get_or c.args.nodes.now c.args.place y) c.in-Fields.is c.index-nodes-place.is in
    let ps = places_of c.args.nodes.now in
    if-none _ _ c.named.result
    (λ none stands.
    subst (λ s. LeadsNowhere s (step_of c.args.step.now)) (sym (place-is c.args.nodes.now c.args.place (Fields c.in-Fields.names) c.requires.table.placed c.requires.place is))
    (fields_nowhere ps c.in-Fields.names.items (step_of c.args.step.now) (subst (λ l. HasNoName l (step_of c.args.step.now)) c.deref.ensures.value none)))
    c.named.ensures.none

pub returns-in-Index-clause-within : goal.returns-in-Index-clause-within
returns-in-Index-clause-within c =
    let is = subst (λ y. y ≡ get_or c.args.nodes.now c.args.place y) c.in-Index.is c.index-nodes-place.is in
    let below : c.in-Index.next < c.args.place = node-is c.args.nodes.now c.args.place (Index c.in-Index.position c.in-Index.next) c.requires.table.placed c.requires.place is in
    chosen-some (λ k. k < length c.args.nodes.now) c.is_at.result c.in-Index.next c.then_some.result c.then_some.ensures (λ e. omega arith)

pub returns-in-Index-clause-some : goal.returns-in-Index-clause-some
returns-in-Index-clause-some c =
    let is = subst (λ y. y ≡ get_or c.args.nodes.now c.args.place y) c.in-Index.is c.index-nodes-place.is in
    let ps = places_of c.args.nodes.now in
    chosen-some (λ k. LeadsTo (at ps c.args.place) (step_of c.args.step.now) (at ps k)) c.is_at.result c.in-Index.next c.then_some.result c.then_some.ensures
    (λ e.
    subst (λ s. LeadsTo s (step_of c.args.step.now) (at ps c.in-Index.next)) (sym (place-is c.args.nodes.now c.args.place (Index c.in-Index.position c.in-Index.next) c.requires.table.placed c.requires.place is))
    (index_leads c.in-Index.position (at ps c.in-Index.next) (step_of c.args.step.now) (subst (λ i. is_at i (step_of c.args.step.now) ≡ true) (to_z-of_z w128 c.in-Index.position (search rules)) (sym c.is_at.ensures ∙ e))))

pub returns-in-Index-clause-none : goal.returns-in-Index-clause-none
returns-in-Index-clause-none c =
    let is = subst (λ y. y ≡ get_or c.args.nodes.now c.args.place y) c.in-Index.is c.index-nodes-place.is in
    let ps = places_of c.args.nodes.now in
    chosen-none (Stands (at ps c.args.place) → LeadsNowhere (at ps c.args.place) (step_of c.args.step.now)) c.is_at.result c.in-Index.next c.then_some.result c.then_some.ensures
    (λ e stands.
    subst (λ s. LeadsNowhere s (step_of c.args.step.now)) (sym (place-is c.args.nodes.now c.args.place (Index c.in-Index.position c.in-Index.next) c.requires.table.placed c.requires.place is))
    (index_nowhere c.in-Index.position (at ps c.in-Index.next) (step_of c.args.step.now) (subst (λ i. is_at i (step_of c.args.step.now) ≡ false) (to_z-of_z w128 c.in-Index.position (search rules)) (sym c.is_at.ensures ∙ e))))

pub returns-in-Range-clause-within : goal.returns-in-Range-clause-within
returns-in-Range-clause-within c =
    let is = subst (λ y. y ≡ get_or c.args.nodes.now c.args.place y) c.in-Range.is c.index-nodes-place.is in
    let below : c.in-Range.next < c.args.place = node-is c.args.nodes.now c.args.place (Range c.in-Range.start c.in-Range.end c.in-Range.next) c.requires.table.placed c.requires.place is in
    chosen-some (λ k. k < length c.args.nodes.now) c.is_within.result c.in-Range.next c.then_some-in-Range.result c.then_some-in-Range.ensures (λ e. omega arith)

pub returns-in-Range-clause-some : goal.returns-in-Range-clause-some
returns-in-Range-clause-some c =
    let is = subst (λ y. y ≡ get_or c.args.nodes.now c.args.place y) c.in-Range.is c.index-nodes-place.is in
    let ps = places_of c.args.nodes.now in
    chosen-some (λ k. LeadsTo (at ps c.args.place) (step_of c.args.step.now) (at ps k)) c.is_within.result c.in-Range.next c.then_some-in-Range.result c.then_some-in-Range.ensures
    (λ e.
    subst (λ s. LeadsTo s (step_of c.args.step.now) (at ps c.in-Range.next)) (sym (place-is c.args.nodes.now c.args.place (Range c.in-Range.start c.in-Range.end c.in-Range.next) c.requires.table.placed c.requires.place is))
    (range_leads c.in-Range.start c.in-Range.end (at ps c.in-Range.next) (step_of c.args.step.now)
    (subst (λ i. is_within i c.in-Range.end (step_of c.args.step.now) ≡ true) (to_z-of_z w128 c.in-Range.start (search rules))
    (subst (λ j. is_within (to_z w128 (of_z w128 c.in-Range.start)) j (step_of c.args.step.now) ≡ true) (to_z-of_z w128 c.in-Range.end (search rules)) (sym c.is_within.ensures ∙ e)))))

pub returns-in-Range-clause-none : goal.returns-in-Range-clause-none
returns-in-Range-clause-none c =
    let is = subst (λ y. y ≡ get_or c.args.nodes.now c.args.place y) c.in-Range.is c.index-nodes-place.is in
    let ps = places_of c.args.nodes.now in
    chosen-none (Stands (at ps c.args.place) → LeadsNowhere (at ps c.args.place) (step_of c.args.step.now)) c.is_within.result c.in-Range.next c.then_some-in-Range.result c.then_some-in-Range.ensures
    (λ e stands.
    subst (λ s. LeadsNowhere s (step_of c.args.step.now)) (sym (place-is c.args.nodes.now c.args.place (Range c.in-Range.start c.in-Range.end c.in-Range.next) c.requires.table.placed c.requires.place is))
    (range_nowhere c.in-Range.start c.in-Range.end (at ps c.in-Range.next) (step_of c.args.step.now)
    (subst (λ i. is_within i c.in-Range.end (step_of c.args.step.now) ≡ false) (to_z-of_z w128 c.in-Range.start (search rules))
    (subst (λ j. is_within (to_z w128 (of_z w128 c.in-Range.start)) j (step_of c.args.step.now) ≡ false) (to_z-of_z w128 c.in-Range.end (search rules)) (sym c.is_within.ensures ∙ e)))))

pub returns-in_default-clause-none : goal.returns-in_default-clause-none
returns-in_default-clause-none c =
    let ps = places_of c.args.nodes.now in
    subst (λ s. Stands s → LeadsNowhere s (step_of c.args.step.now)) (sym (place-is c.args.nodes.now c.args.place c.index-nodes-place.result c.requires.table.placed c.requires.place c.index-nodes-place.is))
    (default-nowhere ps c.index-nodes-place.result c.in_default.not-All c.in_default.not-Fields c.in_default.not-Index c.in_default.not-Range (step_of c.args.step.now))

pub returns-in-All-clause-beside : goal.returns-in-All-clause-beside
returns-in-All-clause-beside c =
    let is = subst (λ y. y ≡ get_or c.args.nodes.now c.args.place y) c.in-All.is c.index-nodes-place.is in
    record { node = All c.in-All.next; within = c.requires.place; is = is; names = refl }

pub returns-in-Fields-clause-beside : goal.returns-in-Fields-clause-beside
returns-in-Fields-clause-beside c =
    let is = subst (λ y. y ≡ get_or c.args.nodes.now c.args.place y) c.in-Fields.is c.index-nodes-place.is in
    IfSome_then c.named.result c.named.ensures.some
    (λ k has. record {
      node = Fields c.in-Fields.names;
      within = c.requires.place;
      is = is;
      names = name-number c.in-Fields.names.items (step_of c.args.step.now) k (subst (λ l. HasName l (step_of c.args.step.now) k) c.deref.ensures.value has);
    })

pub returns-in-Index-clause-beside : goal.returns-in-Index-clause-beside
returns-in-Index-clause-beside c =
    let is = subst (λ y. y ≡ get_or c.args.nodes.now c.args.place y) c.in-Index.is c.index-nodes-place.is in
    chosen-some (IsBeside c.args.nodes.now c.args.place) c.is_at.result c.in-Index.next c.then_some.result c.then_some.ensures
    (λ e. record { node = Index c.in-Index.position c.in-Index.next; within = c.requires.place; is = is; names = refl })

pub returns-in-Range-clause-beside : goal.returns-in-Range-clause-beside
returns-in-Range-clause-beside c =
    let is = subst (λ y. y ≡ get_or c.args.nodes.now c.args.place y) c.in-Range.is c.index-nodes-place.is in
    chosen-some (IsBeside c.args.nodes.now c.args.place) c.is_within.result c.in-Range.next c.then_some-in-Range.result c.then_some-in-Range.ensures
    (λ e. record { node = Range c.in-Range.start c.in-Range.end c.in-Range.next; within = c.requires.place; is = is; names = refl })

pub returns-in-All-clause-leads : goal.returns-in-All-clause-leads
returns-in-All-clause-leads c =
    let is = subst (λ y. y ≡ get_or c.args.nodes.now c.args.place y) c.in-All.is c.index-nodes-place.is in
    all-as c.args.nodes.now c.requires.table.placed c.requires.table.laid c.args.place c.requires.place (step_of c.args.step.now) c.in-All.next is

pub returns-in-Fields-clause-leads : goal.returns-in-Fields-clause-leads
returns-in-Fields-clause-leads c =
    let is = subst (λ y. y ≡ get_or c.args.nodes.now c.args.place y) c.in-Fields.is c.index-nodes-place.is in
    let rising = (node-is c.args.nodes.now c.args.place (Fields c.in-Fields.names) c.requires.table.placed c.requires.place is).1 in
    IfSome_then c.named.result c.named.ensures.some
    (λ k has. fields-as c.args.nodes.now c.requires.table.placed c.requires.table.laid c.args.place c.requires.place (step_of c.args.step.now) c.in-Fields.names is rising k (subst (λ l. HasName l (step_of c.args.step.now) k) c.deref.ensures.value has))

pub returns-in-Fields-clause-nowhere : goal.returns-in-Fields-clause-nowhere
returns-in-Fields-clause-nowhere c =
    let is = subst (λ y. y ≡ get_or c.args.nodes.now c.args.place y) c.in-Fields.is c.index-nodes-place.is in
    if-none _ _ c.named.result (λ none. fields-none c.args.nodes.now c.requires.table.placed c.requires.table.laid c.args.place c.requires.place (step_of c.args.step.now) c.in-Fields.names is (subst (λ l. HasNoName l (step_of c.args.step.now)) c.deref.ensures.value none)) c.named.ensures.none

pub returns-in-Index-clause-leads : goal.returns-in-Index-clause-leads
returns-in-Index-clause-leads c =
    let is = subst (λ y. y ≡ get_or c.args.nodes.now c.args.place y) c.in-Index.is c.index-nodes-place.is in
    chosen-some (LeadsAs (places_of c.args.nodes.now) c.args.place (step_of c.args.step.now)) c.is_at.result c.in-Index.next c.then_some.result c.then_some.ensures
    (λ e. index-as c.args.nodes.now c.requires.table.placed c.requires.table.laid c.args.place c.requires.place (step_of c.args.step.now) c.in-Index.position c.in-Index.next is (subst (λ i. is_at i (step_of c.args.step.now) ≡ true) (to_z-of_z w128 c.in-Index.position (search rules)) (sym c.is_at.ensures ∙ e)))

pub returns-in-Index-clause-nowhere : goal.returns-in-Index-clause-nowhere
returns-in-Index-clause-nowhere c =
    let is = subst (λ y. y ≡ get_or c.args.nodes.now c.args.place y) c.in-Index.is c.index-nodes-place.is in
    chosen-none (LeadsToNone (places_of c.args.nodes.now) c.args.place (step_of c.args.step.now)) c.is_at.result c.in-Index.next c.then_some.result c.then_some.ensures
    (λ e. index-none c.args.nodes.now c.requires.table.placed c.requires.table.laid c.args.place c.requires.place (step_of c.args.step.now) c.in-Index.position c.in-Index.next is (subst (λ i. is_at i (step_of c.args.step.now) ≡ false) (to_z-of_z w128 c.in-Index.position (search rules)) (sym c.is_at.ensures ∙ e)))

pub returns-in-Range-clause-leads : goal.returns-in-Range-clause-leads
returns-in-Range-clause-leads c =
    let is = subst (λ y. y ≡ get_or c.args.nodes.now c.args.place y) c.in-Range.is c.index-nodes-place.is in
    chosen-some (LeadsAs (places_of c.args.nodes.now) c.args.place (step_of c.args.step.now)) c.is_within.result c.in-Range.next c.then_some-in-Range.result c.then_some-in-Range.ensures
    (λ e. range-as c.args.nodes.now c.requires.table.placed c.requires.table.laid c.args.place c.requires.place (step_of c.args.step.now) c.in-Range.start c.in-Range.end c.in-Range.next is
    (subst (λ i. is_within i c.in-Range.end (step_of c.args.step.now) ≡ true) (to_z-of_z w128 c.in-Range.start (search rules))
    (subst (λ j. is_within (to_z w128 (of_z w128 c.in-Range.start)) j (step_of c.args.step.now) ≡ true) (to_z-of_z w128 c.in-Range.end (search rules)) (sym c.is_within.ensures ∙ e))))

pub returns-in-Range-clause-nowhere : goal.returns-in-Range-clause-nowhere
returns-in-Range-clause-nowhere c =
    let is = subst (λ y. y ≡ get_or c.args.nodes.now c.args.place y) c.in-Range.is c.index-nodes-place.is in
    chosen-none (LeadsToNone (places_of c.args.nodes.now) c.args.place (step_of c.args.step.now)) c.is_within.result c.in-Range.next c.then_some-in-Range.result c.then_some-in-Range.ensures
    (λ e. range-none c.args.nodes.now c.requires.table.placed c.requires.table.laid c.args.place c.requires.place (step_of c.args.step.now) c.in-Range.start c.in-Range.end c.in-Range.next is
    (subst (λ i. is_within i c.in-Range.end (step_of c.args.step.now) ≡ false) (to_z-of_z w128 c.in-Range.start (search rules))
    (subst (λ j. is_within (to_z w128 (of_z w128 c.in-Range.start)) j (step_of c.args.step.now) ≡ false) (to_z-of_z w128 c.in-Range.end (search rules)) (sym c.is_within.ensures ∙ e))))

pub returns-in_default-clause-nowhere : goal.returns-in_default-clause-nowhere
returns-in_default-clause-nowhere c =
    default-none c.args.nodes.now c.requires.table.placed c.requires.table.laid c.args.place c.requires.place (step_of c.args.step.now) c.index-nodes-place.result c.index-nodes-place.is c.in_default.not-All c.in_default.not-Fields c.in_default.not-Index c.in_default.not-Range
