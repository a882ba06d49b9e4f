-- What loops over items and members have said so far.
use Rattle.std.proofs.Common.{◌≡◌, ℕ, ◌+◌, ◌<◌, ◌≤◌, List, [], ◌∷◌, ◌++◌, length, map, get_or, drop, refl, sym, ap, ◌∙◌, subst}
use Rattle.std.specs.Prelude.{IsPermutation}
use Rattle.std.specs.Borrow.{Bor}
use Rattle.std.specs.Global.{Vec}
use Rattle.std.proofs.lemmas.List.{drop_all, append-nil, map_push}
use Rattle.std.proofs.lemmas.List.Sorted.{IsPermutation-map}
use Rattle.json.specs.declared.value.Value.{Value}
use Rattle.json.specs.declared.value.Value as value
use Rattle.json.specs.Json.{object, Members, no_members, member}
use Rattle.json.specs.Strict.{keys}
use Rattle.json.specs.Value.{value_view, items_view, members_view}
use Rattle.json.proofs.Trees.{view-Object}
use Rattle.ix_cid.proofs.Lists.{drop_read}
use Rattle.ix_cbor.specs.declared.node.Node.{Node}
use Rattle.ix_cbor.specs.declared.node.Node.TheVariants as variants
use Rattle.ix_cbor.specs.Data.{Data, data_of, entry_of}
use Rattle.ix_cbor.proofs.Fitting.{data_of-map}
use Rattle.ix_selector_json.specs.Saying.{Says, ItemsSay, MembersSay, EntriesSay, key_of}

-- what the rest of the items says, after the nodes so far, all of them say
abbrev pub ItemsSoFar : {A : Type 0} → List (Value A) → ℕ → List Node → Type 0
ItemsSoFar values i nodes = (more : List Data) → ItemsSay (items_view (drop i values)) more → ItemsSay (items_view values) (map data_of nodes ++ more)

-- an element at the front of the rest is one at the end of the first part
pub shifted : {A : Type 0} (xs : List A) (x : A) (ys : List A) → xs ++ x ∷ ys ≡ (xs ++ x ∷ []) ++ ys
shifted [] x ys = refl
shifted (y ∷ xs) x ys = ap (λ l. y ∷ l) (shifted xs x ys)

-- one more element of an array is represented by one more node
pub one_more_item : {A : Type 0} (values : List (Value A)) (i : ℕ) (x : Value A) (nodes after : List Node) (n : Node) → i < length values → x ≡ get_or values i x
    → Says (value_view x) (data_of n) → after ≡ nodes ++ n ∷ [] → ItemsSoFar values i nodes → ItemsSoFar values (i + 1) after
one_more_item values i x nodes after n l is says pushed so_far more h =
    let here : ItemsSay (items_view (drop i values)) (data_of n ∷ more) =
    subst (λ vs. ItemsSay (items_view vs) (data_of n ∷ more)) (sym (drop_read values i x l is)) (data_of n, more, says, h, refl) in
    let same : map data_of nodes ++ data_of n ∷ more ≡ map data_of after ++ more =
    shifted (map data_of nodes) (data_of n) more ∙ ap (λ ds. ds ++ more) (sym (map_push data_of nodes n) ∙ ap (map data_of) (sym pushed)) in
    subst (ItemsSay (items_view values)) same (so_far (data_of n ∷ more) here)

-- at the end of the array its nodes represent all elements
pub all_items : {A : Type 0} (values : List (Value A)) (i : ℕ) (nodes : List Node) → length values ≤ i → ItemsSoFar values i nodes → ItemsSay (items_view values) (map data_of nodes)
all_items values i nodes l so_far =
    subst (ItemsSay (items_view values)) (append-nil (map data_of nodes)) (so_far [] (subst (λ vs. ItemsSay (items_view vs) []) (sym (drop_all i values l)) refl))

abbrev pub Member : Type 0 → Type 0
Member A = Bor (List ℕ) × Value A

abbrev pub Entry : Type 0
Entry = Vec ℕ × Node

-- what the rest of the members says, after the entries so far, all of them say
abbrev pub MembersSoFar : {A : Type 0} → List (Member A) → ℕ → List Entry → Type 0
MembersSoFar values i entries =
    (more : List (List ℕ × Data)) → MembersSay (members_view (drop i values)) more → MembersSay (members_view values) (map entry_of entries ++ more)

-- one more member of an object is represented by one more entry
pub one_more_member : {A : Type 0} (values : List (Member A)) (i : ℕ) (x : Member A) (entries after : List Entry) (k : Vec ℕ) (n : Node)
    → i < length values → x ≡ get_or values i x → k.items ≡ x.0.now → Says (value_view x.1) (data_of n) → after ≡ entries ++ (k, n) ∷ []
    → MembersSoFar values i entries → MembersSoFar values (i + 1) after
one_more_member values i x entries after k n l is named says pushed so_far more h =
    let here : MembersSay (members_view (drop i values)) ((x.0.now, data_of n) ∷ more) =
    subst (λ vs. MembersSay (members_view vs) ((x.0.now, data_of n) ∷ more)) (sym (drop_read values i x l is)) (data_of n, more, says, h, refl) in
    let grown : map entry_of entries ++ (x.0.now, data_of n) ∷ [] ≡ map entry_of after =
    ap (λ name. map entry_of entries ++ (name, data_of n) ∷ []) (sym named) ∙ sym (map_push entry_of entries (k, n)) ∙ ap (map entry_of) (sym pushed) in
    let same : map entry_of entries ++ (x.0.now, data_of n) ∷ more ≡ map entry_of after ++ more =
    shifted (map entry_of entries) (x.0.now, data_of n) more ∙ ap (λ es. es ++ more) grown in
    subst (MembersSay (members_view values)) same (so_far ((x.0.now, data_of n) ∷ more) here)

-- at the end of the object its entries represent all members
pub all_members : {A : Type 0} (values : List (Member A)) (i : ℕ) (entries : List Entry) → length values ≤ i → MembersSoFar values i entries → MembersSay (members_view values) (map entry_of entries)
all_members values i entries l so_far =
    subst (MembersSay (members_view values)) (append-nil (map entry_of entries)) (so_far [] (subst (λ vs. MembersSay (members_view vs) []) (sym (drop_all i values l)) refl))

-- the keys of what members say are theirs
pub said_keys : (ms : Members) (es : List (List ℕ × Data)) → MembersSay ms es → map (λ e. e.0) es ≡ keys ms
said_keys no_members es h = ap (map (λ e. e.0)) h
said_keys (member k j ms) es h = ap (map (λ e. e.0)) h.4 ∙ ap (λ ks. k ∷ ks) (said_keys ms h.1 h.3)

-- the entries of data have the keys of the nodes
entry_keys : (es : List Entry) → map (λ e. e.0) (map entry_of es) ≡ map key_of es
entry_keys [] = refl
entry_keys (e ∷ es) = ap (λ ks. key_of e ∷ ks) (entry_keys es)

-- so are those of the entries that say the same
pub entries_keys : (ms : Members) (es : List Entry) → MembersSay ms (map entry_of es) → map key_of es ≡ keys ms
entries_keys ms es says = sym (entry_keys es) ∙ said_keys ms (map entry_of es) says

-- in another order they say it too
pub say_in_order : (ms : Members) (entries sorted : List Entry) → MembersSay ms (map entry_of entries) → IsPermutation entries sorted → EntriesSay ms (map entry_of sorted)
say_in_order ms entries sorted says moved = (map entry_of entries, says, IsPermutation-map entry_of entries sorted moved)

-- an object says the map of its entries
pub object_says : {A : Type 0} (x : Value A) (members : _) (v : Vec Entry) (values : List (Member A)) → x ≡ value.Object members → values ≡ members.items
    → EntriesSay (members_view values) (map entry_of v.items) → Says (value_view x) (data_of (variants.Map v))
object_says x members v values is same says =
    let seen : value_view x ≡ object (members_view values) = ap value_view is ∙ view-Object members ∙ ap (λ ms. object (members_view ms)) (sym same) in
    subst (λ j. Says j (data_of (variants.Map v))) (sym seen) (map entry_of v.items, says.0, says.1, says.2, data_of-map v)
