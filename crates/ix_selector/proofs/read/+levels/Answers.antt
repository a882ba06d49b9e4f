use Rattle.std.proofs.lemmas.Grind.{common_steps}
use Rattle.ix_selector.specs.declared.sel.Sel.TheFolds.{the_lemmas}
use Rattle.std.proofs.Common.{arith, rules, ◌≡◌, map, ◌++◌, ◌∷◌, [], subst, sym, refl, ap, ◌∙◌, List, ℕ}
use Rattle.std.specs.Prelude.{Ok}
use Rattle.std.proofs.lemmas.List.{map_push}
use Rattle.ix_cbor.specs.Data.{data_of}
use Rattle.ix_selector.specs.Pattern.{fields, pattern_of}
use Rattle.ix_selector.specs.Reading.{◌>>=◌, selector_at, fields_read, members_read}
use Rattle.ix_selector.specs.Views.{seen_field}
use Rattle.ix_selector.specs.Shapes.{around_of, entries_data, items_data, inside}
use Rattle.ix_selector.specs.Gives.{Gives}
use Rattle.ix_selector.proofs.Views.{pattern_of-fields}
use Rattle.ix_selector.proofs.Fronts.{selector_at-zero, selector_at-above, fields_on, fields_done, members_on, members_done}
use Rattle.ix_selector.proofs.read.+levels.Goals as goal

pub selector_at-returns-then-levels-eq0 : goal.selector_at-returns-then-levels-eq0
selector_at-returns-then-levels-eq0 t c = selector_at-zero c.args.levels (around_of c.args.around) (data_of c.args.node.now) c.if-levels-eq0.true

pub selector_at-returns-else-levels-eq0 : goal.selector_at-returns-else-levels-eq0
selector_at-returns-else-levels-eq0 t c =
    subst (λ m. Gives pattern_of c.selector_with.result m) (sym (selector_at-above c.args.levels (around_of c.args.around) (data_of c.args.node.now) (search rules))) c.selector_with.ensures

pub fields_inside-loop-name-preserved : goal.fields_inside-loop-name-preserved
fields_inside-loop-name-preserved t c =
    let read = selector_at c.args.levels (around_of c.args.around) in
    let k = c.loop-name-item.result.0.items in
    let s = pattern_of c.in_ok-sel.sel in
    let e : map seen_field c.push.new.self.items ≡ map seen_field c.loop-name.fields.items ++ (k, s) ∷ [] = rw c.in_ok-push.ensures.items (map_push _ c.loop-name.fields.items (c.in_ok-from_slice.field-0, c.in_ok-sel.sel) ∙ ap (λ (l : List ℕ). map seen_field c.loop-name.fields.items ++ (l, s) ∷ []) (c.in_ok-from_slice.ensures.items ∙ c.deref.ensures.value)) in
    rw e (fields_on read (map seen_field c.loop-name.fields.items) c.args.names.now c.loop-name.name-index c.loop-name-item.result k s
    (fields_read read (entries_data c.args.names.now)) c.loop-name-test.true c.loop-name-item.is refl c.in_ok-sel.ensures c.loop-name.invariant)

pub fields_inside-returns : goal.fields_inside-returns
fields_inside-returns t c =
    let read = selector_at c.args.levels (around_of c.args.around) in
    fields_done read (map seen_field c.loop-name.fields.items) c.args.names.now c.loop-name.name-index (fields_read read (entries_data c.args.names.now)) c.loop-name-test.false c.loop-name.invariant

pub members_inside-loop-node-preserved : goal.members_inside-loop-node-preserved
members_inside-loop-node-preserved t c =
    let read = selector_at c.args.levels (around_of c.args.around) in
    let e : map pattern_of c.push.new.self.items ≡ map pattern_of c.loop-node.members.items ++ pattern_of c.in_ok-sel.sel ∷ [] = rw c.in_ok-push.ensures.items (map_push _ c.loop-node.members.items c.in_ok-sel.sel) in
    rw e (members_on read (map pattern_of c.loop-node.members.items) c.args.nodes.now c.loop-node.node-index c.node-item.result (pattern_of c.in_ok-sel.sel)
    (members_read read (items_data c.args.nodes.now)) c.loop-node-test.true c.node-item.is c.in_ok-sel.ensures c.loop-node.invariant)

pub members_inside-returns : goal.members_inside-returns
members_inside-returns t c =
    let read = selector_at c.args.levels (around_of c.args.around) in
    members_done read (map pattern_of c.loop-node.members.items) c.args.nodes.now c.loop-node.node-index (members_read read (items_data c.args.nodes.now)) c.loop-node-test.false c.loop-node.invariant

pub selector_inside-returns-in_ok-fields_inside-in-Fields : goal.selector_inside-returns-in_ok-fields_inside-in-Fields
selector_inside-returns-in_ok-fields_inside-in-Fields t c =
    ap (inside (selector_at c.args.levels) (around_of c.args.around)) c.in-Fields.is
    ∙ ap (λ a. fields_read (selector_at c.args.levels a) (entries_data c.in-Fields.names.now) >>= (λ fs. Ok (fields fs))) (sym c.around_step-behind.ensures)
    ∙ ap (λ r. r >>= (λ fs. Ok (fields fs))) c.in_ok-fields_inside-in-Fields.ensures
    ∙ ap (λ s. Ok s) (sym (pattern_of-fields c.in_ok-fields_inside-in-Fields.field-0))

pub selector_inside-returns-in-Matcher : goal.selector_inside-returns-in-Matcher
selector_inside-returns-in-Matcher t c = search (rules, the_lemmas)

pub selector_inside-returns-in_ok-boxed-in-All : goal.selector_inside-returns-in_ok-boxed-in-All
selector_inside-returns-in_ok-boxed-in-All t c = search (rules, the_lemmas)

pub selector_inside-returns-in_ok-boxed-in-Index : goal.selector_inside-returns-in_ok-boxed-in-Index
selector_inside-returns-in_ok-boxed-in-Index t c = search (rules, the_lemmas)

pub selector_inside-returns-in_ok-boxed-in-Range : goal.selector_inside-returns-in_ok-boxed-in-Range
selector_inside-returns-in_ok-boxed-in-Range t c = search (rules, the_lemmas)

pub selector_inside-returns-in_ok-boxed-in-Recursive : goal.selector_inside-returns-in_ok-boxed-in-Recursive
selector_inside-returns-in_ok-boxed-in-Recursive t c = search (rules, the_lemmas)

pub selector_inside-returns-in_ok-members_inside-in-Union : goal.selector_inside-returns-in_ok-members_inside-in-Union
selector_inside-returns-in_ok-members_inside-in-Union t c = search (rules, the_lemmas)

pub selector_inside-returns-in-Edge : goal.selector_inside-returns-in-Edge
selector_inside-returns-in-Edge t c = search (rules, the_lemmas)

pub fields_inside-returns-in_err-sel : goal.fields_inside-returns-in_err-sel
fields_inside-returns-in_err-sel t c = grind (arith, common_steps)

pub members_inside-returns-in_err-sel : goal.members_inside-returns-in_err-sel
members_inside-returns-in_err-sel t c = grind (arith, common_steps)
