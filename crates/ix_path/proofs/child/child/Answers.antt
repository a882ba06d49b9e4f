use Rattle.std.proofs.Common.{[], sym, ◌∙◌, ap}
use Rattle.std.specs.Prelude.{Ok, Err}
use Rattle.ix_cbor.specs.declared.front.Front.{Front}
use Rattle.ix_cbor.specs.declared.front.Front.TheVariants as fronts
use Rattle.ix_cbor.specs.Data.{Data}
use Rattle.ix_cbor.specs.Fronts.{own_of_front}
use Rattle.ix_path.specs.declared.obstacle.Obstacle.TheVariants.{Map}
use Rattle.ix_path.specs.Children.{child_of}
use Rattle.ix_path.proofs.Nodes.{decoded_item, leaf_is, list_is, map_is}
use Rattle.ix_path.proofs.Chosen.{counted, element_yes, element_no, value_yes, value_no}
use Rattle.ix_path.proofs.child.child.Goals as goal

pub front_at-requires : goal.front_at-requires
front_at-requires c = (c.args.node.now, ([], decoded_item c.in-DagCbor.bytes.now c.args.node.now c.in-DagCbor.ensures))

pub element_at-requires-clause-items : goal.element_at-requires-clause-items
element_at-requires-clause-items c =
    let rest = c.front_at.result.1.now in
    let own = c.front_at.ensures.exact ∙ ap (λ (f : Front). Ok (own_of_front f, rest)) c.in-List.is in
    let l = list_is c.in-DagCbor.bytes.now rest c.args.node.now c.in-DagCbor.ensures c.in-List.count own in
    (l.0, l.2)

pub value_at-requires : goal.value_at-requires
value_at-requires c =
    let rest = c.front_at.result.1.now in
    let own = c.front_at.ensures.exact ∙ ap (λ (f : Front). Ok (own_of_front f, rest)) c.in-Map.is in
    let m = map_is c.in-DagCbor.bytes.now rest c.args.node.now c.in-DagCbor.ensures c.in-Map.count own in
    (m.0, m.2)

pub returns-in-Some : goal.returns-in-Some
returns-in-Some c =
    let rest = c.front_at.result.1.now in
    let s = c.args.segment.now in
    let own = c.front_at.ensures.exact ∙ ap (λ (f : Front). Ok (own_of_front f, rest)) c.in-List.is in
    let l = list_is c.in-DagCbor.bytes.now rest c.args.node.now c.in-DagCbor.ensures c.in-List.count own in
    let i = c.in-Some.ensures in
    ap (λ (d : Data). child_of d s) l.1 ∙ element_yes s l.0 c.in-Some.index c.element_at.result i.0.0 i.1 (c.element_at.ensures l.0 l.2)

pub returns-in-None : goal.returns-in-None
returns-in-None c =
    let rest = c.front_at.result.1.now in
    let s = c.args.segment.now in
    let own = c.front_at.ensures.exact ∙ ap (λ (f : Front). Ok (own_of_front f, rest)) c.in-List.is in
    let l = list_is c.in-DagCbor.bytes.now rest c.args.node.now c.in-DagCbor.ensures c.in-List.count own in
    ap (λ (d : Data). child_of d s) l.1 ∙ element_no s l.0 c.in-List.count (counted c.in-List.count rest l.0 l.2) c.in-None.ensures

pub returns-in-Some-value_at : goal.returns-in-Some-value_at
returns-in-Some-value_at c =
    let rest = c.front_at.result.1.now in
    let s = c.args.segment.now in
    let own = c.front_at.ensures.exact ∙ ap (λ (f : Front). Ok (own_of_front f, rest)) c.in-Map.is in
    let m = map_is c.in-DagCbor.bytes.now rest c.args.node.now c.in-DagCbor.ensures c.in-Map.count own in
    ap (λ (d : Data). child_of d s) m.1 ∙ value_yes s m.0 c.in-Some-value_at.value (c.in-Some-value_at.ensures m.0 m.2)

pub returns-in-None-value_at : goal.returns-in-None-value_at
returns-in-None-value_at c =
    let rest = c.front_at.result.1.now in
    let s = c.args.segment.now in
    let own = c.front_at.ensures.exact ∙ ap (λ (f : Front). Ok (own_of_front f, rest)) c.in-Map.is in
    let m = map_is c.in-DagCbor.bytes.now rest c.args.node.now c.in-DagCbor.ensures c.in-Map.count own in
    ap (λ (d : Data). child_of d s) m.1 ∙ value_no s m.0 (c.in-None-value_at.ensures m.0 m.2) ∙ ap (λ (d : Data). Err (Map d)) (sym m.1 ∙ sym c.duplicate.ensures)

pub returns-in-Null : goal.returns-in-Null
returns-in-Null c =
    let rest = c.front_at.result.1.now in
    let own = c.front_at.ensures.exact ∙ ap (λ (f : Front). Ok (own_of_front f, rest)) c.in-Null.is in
    ap (λ (d : Data). child_of d c.args.segment.now) (leaf_is c.in-DagCbor.bytes.now rest c.args.node.now c.in-DagCbor.ensures fronts.Null (λ n e. cc) (λ n e. cc) own)

pub returns-in-Bool : goal.returns-in-Bool
returns-in-Bool c =
    let rest = c.front_at.result.1.now in
    let own = c.front_at.ensures.exact ∙ ap (λ (f : Front). Ok (own_of_front f, rest)) c.in-Bool.is in
    ap (λ (d : Data). child_of d c.args.segment.now) (leaf_is c.in-DagCbor.bytes.now rest c.args.node.now c.in-DagCbor.ensures (fronts.Bool c.in-Bool.field-0) (λ n e. cc) (λ n e. cc) own)

pub returns-in-Int : goal.returns-in-Int
returns-in-Int c =
    let rest = c.front_at.result.1.now in
    let own = c.front_at.ensures.exact ∙ ap (λ (f : Front). Ok (own_of_front f, rest)) c.in-Int.is in
    ap (λ (d : Data). child_of d c.args.segment.now) (leaf_is c.in-DagCbor.bytes.now rest c.args.node.now c.in-DagCbor.ensures (fronts.Int c.in-Int.field-0) (λ n e. cc) (λ n e. cc) own)

pub returns-in-Bits64 : goal.returns-in-Bits64
returns-in-Bits64 c =
    let rest = c.front_at.result.1.now in
    let own = c.front_at.ensures.exact ∙ ap (λ (f : Front). Ok (own_of_front f, rest)) c.in-Bits64.is in
    ap (λ (d : Data). child_of d c.args.segment.now) (leaf_is c.in-DagCbor.bytes.now rest c.args.node.now c.in-DagCbor.ensures (fronts.Bits64 c.in-Bits64.field-0) (λ n e. cc) (λ n e. cc) own)

pub returns-in-Bytes : goal.returns-in-Bytes
returns-in-Bytes c =
    let rest = c.front_at.result.1.now in
    let own = c.front_at.ensures.exact ∙ ap (λ (f : Front). Ok (own_of_front f, rest)) c.in-Bytes.is in
    ap (λ (d : Data). child_of d c.args.segment.now) (leaf_is c.in-DagCbor.bytes.now rest c.args.node.now c.in-DagCbor.ensures (fronts.Bytes c.in-Bytes.field-0) (λ n e. cc) (λ n e. cc) own)

pub returns-in-Text : goal.returns-in-Text
returns-in-Text c =
    let rest = c.front_at.result.1.now in
    let own = c.front_at.ensures.exact ∙ ap (λ (f : Front). Ok (own_of_front f, rest)) c.in-Text.is in
    ap (λ (d : Data). child_of d c.args.segment.now) (leaf_is c.in-DagCbor.bytes.now rest c.args.node.now c.in-DagCbor.ensures (fronts.Text c.in-Text.field-0) (λ n e. cc) (λ n e. cc) own)

pub returns-in-Link : goal.returns-in-Link
returns-in-Link c =
    let rest = c.front_at.result.1.now in
    let own = c.front_at.ensures.exact ∙ ap (λ (f : Front). Ok (own_of_front f, rest)) c.in-Link.is in
    ap (λ (d : Data). child_of d c.args.segment.now) (leaf_is c.in-DagCbor.bytes.now rest c.args.node.now c.in-DagCbor.ensures (fronts.Link c.in-Link.field-0) (λ n e. cc) (λ n e. cc) own)
