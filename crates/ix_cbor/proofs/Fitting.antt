-- Which members and entries fit into the levels that are left.
use Rattle.std.proofs.Common.{◌≡◌, ℕ, ◌-◌, ◌<◌, ◌≢◌, ◌^◌, Bool, IsTrue, List, [], ◌∷◌, length, map, refl, sym, ap, ◌∙◌, subst, arith}
use Rattle.std.specs.Prelude.{◌↔◌, None}
use Rattle.std.specs.Global.{Vec}
use Rattle.ix_cbor.specs.declared.node.Node.{Node}
use Rattle.ix_cbor.specs.declared.node.Node.TheVariants.{rolls-List, rolls-Map}
use Rattle.ix_cbor.specs.declared.node.Node.TheVariants as variants
use Rattle.ix_cbor.specs.declared.node.Node.TheFolds.{fold-roll-Node}
use Rattle.ix_cbor.specs.declared.node.Node.TheOpen as layer
use Rattle.ix_cbor.specs.Data.{Data, Items, Entries, list, data_of, data_step, entry_of, entries_of, node_items, node_entries}
use Rattle.ix_cbor.specs.Data as data_model
use Rattle.ix_cbor.specs.Spelling.{item_count, entry_count}
use Rattle.ix_cbor.specs.Fits.{Fits, ItemsFit, EntriesFit}

-- as many data as members
pub item_count-nodes : (nodes : List Node) → item_count (node_items nodes) ≡ length nodes
item_count-nodes [] = refl
item_count-nodes (x ∷ nodes) = omega (arith, item_count-nodes nodes)

-- as many entries as keys
pub entry_count-nodes : (entries : List (Vec ℕ × Node)) → entry_count (node_entries entries) ≡ length entries
entry_count-nodes [] = refl
entry_count-nodes (e ∷ entries) = omega (arith, entry_count-nodes entries)

-- a list fits where its members fit into one level less
pub list-fits : (n : ℕ) (ds : Items) → item_count ds < 2 ^ 64 → n ≢ 0 → (Fits n (list ds) ↔ ItemsFit (n - 1) ds)
list-fits n ds count above =
    (λ h. record { parts = h.parts.1; nesting = omega (arith, h.nesting) }, λ h. record { parts = (count, h.parts); nesting = omega (arith, h.nesting) })

-- a map fits where its values fit into one level less, and its keys rise
pub map-fits : (n : ℕ) (es : Entries) → entry_count es < 2 ^ 64 → n ≢ 0 → (Fits n (data_model.map es) ↔ EntriesFit (n - 1) None es)
map-fits n es count above =
    (λ h. record { parts = h.parts.1; nesting = omega (arith, h.nesting); above = tt }, λ h. record { parts = (count, h.parts); nesting = omega (arith, h.nesting) })

-- the data of a node with members
pub data_of-list : (v : Vec Node) → data_of (variants.List v) ≡ list (node_items v.items)
data_of-list v = ap data_of (sym (rolls-List v)) ∙ fold-roll-Node Data data_step (layer.List v)

-- keys and values, each value before its key
each-entry : (entries : List (Vec ℕ × Node)) → map (λ (e : Vec ℕ × Data). (e.0.items, e.1)) (map (λ (e : Vec ℕ × Node). (e.0, data_of e.1)) entries) ≡ map entry_of entries
each-entry [] = refl
each-entry (e ∷ entries) = ap (λ es. entry_of e ∷ es) (each-entry entries)

-- the data of a node with keys and values
pub data_of-map : (v : Vec (Vec ℕ × Node)) → data_of (variants.Map v) ≡ data_model.map (node_entries v.items)
data_of-map v = ap data_of (sym (rolls-Map v)) ∙ fold-roll-Node Data data_step (layer.Map v) ∙ ap (λ es. data_model.map (entries_of es)) (each-entry v.items)

-- a test of what means the same
iff_by : {P Q R : Type 0} → (P ↔ Q) → (R ↔ Q) → (P ↔ R)
iff_by a b = (λ p. b.1 (a.0 p), λ r. a.1 (b.0 r))

-- the test of a node with members is that of its members
pub list-tested : (n : ℕ) (node : Node) (v : Vec Node) (members : List Node) (r : Bool) → node ≡ variants.List v → members ≡ v.items → length members < 2 ^ 64 → n ≢ 0
    → (IsTrue r ↔ ItemsFit (n - 1) (node_items members)) → (IsTrue r ↔ Fits n (data_of node))
list-tested n node v members r is same count above tested =
    let e : data_of node ≡ list (node_items members) = ap data_of is ∙ data_of-list v ∙ ap (λ m. list (node_items m)) (sym same) in
    subst (λ d. IsTrue r ↔ Fits n d) (sym e) (iff_by tested (list-fits n (node_items members) (omega (arith, item_count-nodes members)) above))

-- the test of a node with keys and values is that of these
pub map-tested : (n : ℕ) (node : Node) (v : Vec (Vec ℕ × Node)) (entries : List (Vec ℕ × Node)) (r : Bool) → node ≡ variants.Map v → entries ≡ v.items → length entries < 2 ^ 64 → n ≢ 0
    → (IsTrue r ↔ EntriesFit (n - 1) None (node_entries entries)) → (IsTrue r ↔ Fits n (data_of node))
map-tested n node v entries r is same count above tested =
    let e : data_of node ≡ data_model.map (node_entries entries) = ap data_of is ∙ data_of-map v ∙ ap (λ m. data_model.map (node_entries m)) (sym same) in
    subst (λ d. IsTrue r ↔ Fits n d) (sym e) (iff_by tested (map-fits n (node_entries entries) (omega (arith, entry_count-nodes entries)) above))
