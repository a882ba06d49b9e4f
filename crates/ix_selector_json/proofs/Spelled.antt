-- What was made of items and members has a spelling.
use Rattle.std.proofs.Common.{◌≡◌, ℕ, suc, ◌^◌, ◌<◌, ◌≤◌, List, [], ◌∷◌, ◌++◌, length, get_or, sym, ap, ◌∙◌, subst, arith}
use Rattle.std.specs.Prelude.{None}
use Rattle.std.specs.List.{All}
use Rattle.std.specs.Global.{Vec}
use Rattle.std.proofs.lemmas.List.Elements.{All-head, All-tail, All-push}
use Rattle.std.proofs.lemmas.List.Sorted.{All-permutation}
use Rattle.json.specs.Json.{object, array}
use Rattle.json.specs.declared.value.Value.{Value}
use Rattle.json.specs.declared.value.Value as value
use Rattle.json.specs.Tree.{depth, members_depth, items_depth}
use Rattle.json.specs.Value.{value_view, items_view, members_view}
use Rattle.json.proofs.Trees.{view-Object, view-Array}
use Rattle.ix_cbor.specs.declared.node.Node.{Node}
use Rattle.ix_cbor.specs.declared.node.Node.TheVariants as variants
use Rattle.ix_cbor.specs.Data.{Data, data_of, list, node_items, node_entries}
use Rattle.ix_cbor.specs.Data as data_model
use Rattle.ix_cbor.specs.Spelling.{Rises, item_count, entry_count}
use Rattle.ix_cbor.specs.Fits.{Fits, ItemsFit, EntriesFit}
use Rattle.ix_cbor.proofs.Fitting.{item_count-nodes, entry_count-nodes, data_of-list, data_of-map}
use Rattle.ix_selector_json.specs.Saying.{AreIntegers, ItemsAreIntegers, MembersAreIntegers, AreInOrder, key_of}
use Rattle.ix_selector_json.proofs.Sayings.{Entry, Member}
use Rattle.ix_selector_json.proofs.KeyOrder.{IsBelow, AreSorted, sorted_from_rise}
use Rattle.ix_selector_json.proofs.Unread.{item_integers, item_within, member_integers, member_within}

-- data that fits a depth fits a greater one
fits_deeper : (m n : ℕ) (d : Data) → m ≤ n → Fits m d → Fits n d
fits_deeper m n d l h = record { parts = h.parts; nesting = omega (arith, h.nesting) }

-- each node has a spelling, and nests at most n deep
abbrev pub NodesFit : ℕ → List Node → Type 0
NodesFit n [] = Unit {0}
NodesFit n (x ∷ nodes) = Fits n (data_of x) × NodesFit n nodes

-- one more node that fits, at the end
nodes_push : (n : ℕ) (nodes : List Node) (x : Node) → NodesFit n nodes → Fits n (data_of x) → NodesFit n (nodes ++ x ∷ [])
nodes_push n [] x h fits = (fits, tt)
nodes_push n (y ∷ nodes) x h fits = (h.0, nodes_push n nodes x h.1 fits)

abbrev pub ItemsFitSoFar : {A : Type 0} → List (Value A) → List Node → Type 0
ItemsFitSoFar values nodes = ItemsAreIntegers (items_view values) → NodesFit (items_depth (items_view values)) nodes

-- one more element that fits
pub one_more_fits : {A : Type 0} (values : List (Value A)) (i : ℕ) (x : Value A) (nodes after : List Node) (n : Node) → i < length values → x ≡ get_or values i x
    → (AreIntegers (value_view x) → Fits (depth (value_view x)) (data_of n)) → after ≡ nodes ++ n ∷ [] → ItemsFitSoFar values nodes → ItemsFitSoFar values after
one_more_fits {A} values i x nodes after n l is fits pushed so_far integers =
    let mine : AreIntegers (value_view x) = subst (λ (y : Value A). AreIntegers (value_view y)) (sym is) (item_integers values i x l integers) in
    let within : depth (value_view x) ≤ items_depth (items_view values) = subst (λ (y : Value A). depth (value_view y) ≤ items_depth (items_view values)) (sym is) (item_within values i x l) in
    subst (NodesFit (items_depth (items_view values))) (sym pushed) (nodes_push _ nodes n (so_far integers) (fits_deeper _ _ (data_of n) within (fits mine)))

-- nodes that fit are a list that fits
pub all_items_fit : (n : ℕ) (nodes : List Node) → NodesFit n nodes → ItemsFit n (node_items nodes)
all_items_fit n [] h = record { parts = tt; nesting = omega arith }
all_items_fit n (x ∷ nodes) h = let more = all_items_fit n nodes h.1 in record { parts = (h.0.parts, more.parts); nesting = omega (arith, h.0.nesting, more.nesting) }

-- an array's node fits where its items do
pub array_fits : {A : Type 0} (x : Value A) (items : _) (v : Vec Node) (values : List (Value A)) → x ≡ value.Array items → values ≡ items.items → length v.items < 2 ^ 64
    → (ItemsAreIntegers (items_view values) → ItemsFit (items_depth (items_view values)) (node_items v.items)) → AreIntegers (value_view x) → Fits (depth (value_view x)) (data_of (variants.List v))
array_fits x items v values is same small fits =
    let seen : value_view x ≡ array (items_view values) = ap value_view is ∙ view-Array items ∙ ap (λ js. array (items_view js)) (sym same) in
    subst (λ j. AreIntegers j → Fits (depth j) (data_of (variants.List v))) (sym seen)
    (λ integers. subst (Fits (suc (items_depth (items_view values)))) (sym (data_of-list v)) (within (items_depth (items_view values)) (node_items v.items) (omega (arith, item_count-nodes v.items)) (fits integers))) where
      within : (n : ℕ) (ds : data_model.Items) → item_count ds < 2 ^ 64 → ItemsFit n ds → Fits (suc n) (list ds)
      within n ds count h = record { parts = (count, h.parts); nesting = omega (arith, h.nesting) }

-- the key is short enough, and the value has a spelling and nests at most n deep
abbrev pub EntryFits : ℕ → Entry → Type 0
EntryFits n e = (length (key_of e) < 2 ^ 64) × Fits n (data_of e.1)

abbrev pub MembersFitSoFar : {A : Type 0} → List (Member A) → List Entry → Type 0
MembersFitSoFar values entries = MembersAreIntegers (members_view values) → All (EntryFits (members_depth (members_view values))) entries

pub one_more_entry_fits : {A : Type 0} (values : List (Member A)) (i : ℕ) (x : Member A) (entries after : List Entry) (k : Vec ℕ) (n : Node)
    → i < length values → x ≡ get_or values i x → length k.items < 2 ^ 64 → (AreIntegers (value_view x.1) → Fits (depth (value_view x.1)) (data_of n))
    → after ≡ entries ++ (k, n) ∷ [] → MembersFitSoFar values entries → MembersFitSoFar values after
one_more_entry_fits {A} values i x entries after k n l is small fits pushed so_far integers =
    let D = members_depth (members_view values) in
    let mine : AreIntegers (value_view x.1) = subst (λ (y : Member A). AreIntegers (value_view y.1)) (sym is) (member_integers values i x l integers) in
    let deep : depth (value_view x.1) ≤ D = subst (λ (y : Member A). depth (value_view y.1) ≤ D) (sym is) (member_within values i x l) in
    subst (All (EntryFits D)) (sym pushed) (All-push (EntryFits D) entries (k, n) (so_far integers) (small, fits_deeper _ D (data_of n) deep (fits mine)))

rises_first : (k : List ℕ) (es : List Entry) → IsBelow k es → Rises k (node_entries es)
rises_first k [] h = tt
rises_first k (e ∷ es) h = h.0

entries_fit : (n : ℕ) (es : List Entry) → AreSorted es → All (EntryFits n) es → EntriesFit n None (node_entries es)
entries_fit n [] sorted h = record { parts = tt; nesting = omega arith; above = tt }
entries_fit n (e ∷ es) sorted h =
    let mine = All-head (EntryFits n) e es h in
    let more = entries_fit n es sorted.1 (All-tail (EntryFits n) e es h) in
    record { parts = (mine.0, mine.1.parts, rises_first (key_of e) es sorted.0, more.parts); nesting = omega (arith, mine.1.nesting, more.nesting); above = tt }

-- entries in the order of their keys fit where they do in another
pub sorted_fit : (n : ℕ) (entries sorted : List Entry) → AreInOrder entries sorted → All (EntryFits n) entries → EntriesFit n None (node_entries sorted)
sorted_fit n entries sorted order fits = entries_fit n sorted (sorted_from_rise sorted order.rise) (All-permutation (EntryFits n) entries sorted order.same fits)

-- an object's node fits where its entries do
pub object_fits : {A : Type 0} (x : Value A) (members : _) (v : Vec Entry) (values : List (Member A)) → x ≡ value.Object members → values ≡ members.items → length v.items < 2 ^ 64
    → (MembersAreIntegers (members_view values) → EntriesFit (members_depth (members_view values)) None (node_entries v.items)) → AreIntegers (value_view x) → Fits (depth (value_view x)) (data_of (variants.Map v))
object_fits x members v values is same small fits =
    let seen : value_view x ≡ object (members_view values) = ap value_view is ∙ view-Object members ∙ ap (λ ms. object (members_view ms)) (sym same) in
    subst (λ j. AreIntegers j → Fits (depth j) (data_of (variants.Map v))) (sym seen)
    (λ integers. subst (Fits (suc (members_depth (members_view values)))) (sym (data_of-map v)) (within (members_depth (members_view values)) (node_entries v.items) (omega (arith, entry_count-nodes v.items)) (fits integers))) where
      within : (n : ℕ) (es : data_model.Entries) → entry_count es < 2 ^ 64 → EntriesFit n None es → Fits (suc n) (data_model.map es)
      within n es count h = record { parts = (count, h.parts); nesting = omega (arith, h.nesting) }
