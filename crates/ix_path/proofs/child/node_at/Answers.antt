use Rattle.std.proofs.Common.{◌-◌, List, ℕ, length, take, sym, ◌∙◌, ap, arith}
use Rattle.std.specs.Prelude.{Ok}
use Rattle.ix_path.proofs.Nodes.{item_alone, item_shorter, rest_same, spelled_node}
use Rattle.ix_path.proofs.child.node_at.Goals as goal

pub slice_bounds-of-count : goal.slice_bounds-of-count
slice_bounds-of-count c =
    let at = c.args.at.now in
    let h = c.requires in
    let n = rest_same at c.skipped-rest.result.now h.0 h.1.0 c.skipped-rest.ensures h.1.1 in
    item_shorter at c.skipped-rest.result.now h.0 (λ i. omega (arith, c.type_inv.at i)) (h.1.1 ∙ ap (λ (l : List ℕ). Ok (h.0, l)) (sym n))

pub of-requires : goal.of-requires
of-requires c =
    let at = c.args.at.now in
    let h = c.requires in
    let n = rest_same at c.skipped-rest.result.now h.0 h.1.0 c.skipped-rest.ensures h.1.1 in
    (h.0, item_alone at c.skipped-rest.result.now h.0 (λ i. omega (arith, c.type_inv.at i)) (h.1.1 ∙ ap (λ (l : List ℕ). Ok (h.0, l)) (sym n)))

pub returns : goal.returns
returns c = λ d h.
    let at = c.args.at.now in
    let n = rest_same at c.skipped-rest.result.now d h.0 c.skipped-rest.ensures h.1 in
    c.of.ensures ∙ spelled_node (take (length at - length c.skipped-rest.result.now) at) d
    (item_alone at c.skipped-rest.result.now d (λ i. omega (arith, c.type_inv.at i)) (h.1 ∙ ap (λ (l : List ℕ). Ok (d, l)) (sym n)))
