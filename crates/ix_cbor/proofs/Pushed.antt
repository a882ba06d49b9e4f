-- What is appended, after a head.
use Rattle.std.proofs.Common.{◌≡◌, ℕ, ◌+◌, ◌<◌, ◌++◌, List, ◌∷◌, length, drop, get_or, sym, ap, ◌∙◌, subst, append_assoc, ℤ, pos, negsuc, ◌-ℤ◌, ◌<ℤ◌, arith}
use Rattle.std.specs.Prelude.{OnOk, Result}
use Rattle.std.specs.Global.{Vec}
use Rattle.std.proofs.lemmas.Int.{ints}
use Rattle.std.proofs.lemmas.Result.{on_ok_weaker}
use Rattle.std.proofs.lemmas.List.{drop_more}
use Rattle.ix_cbor.specs.declared.node.Node.{Node}
use Rattle.ix_cbor.specs.declared.node.Node.TheVariants as variants
use Rattle.ix_cbor.specs.Data.{data_of, integer, node_items, node_entries}
use Rattle.ix_cbor.specs.Data as data_model
use Rattle.ix_cbor.specs.Spelling.{head_of, item_count, entry_count, spelling_of, items_spelling, entries_spelling, IsSpellable, AreRising}
use Rattle.ix_cbor.proofs.Fitting.{item_count-nodes, entry_count-nodes, data_of-list, data_of-map}

-- the first value of those that are left has a spelling
pub value-spellable : (entries : List (Vec ℕ × Node)) (i : ℕ) (e : Vec ℕ × Node) → i < length entries → e ≡ get_or entries i e → AreRising (node_entries (drop i entries)) → IsSpellable (data_of e.1)
value-spellable entries i e lt at h =
    let left = subst (λ l. AreRising (node_entries l)) (drop_more entries i e lt ∙ ap (λ x. x ∷ drop (i + 1) entries) (sym at)) h in left.1

-- the keys of a map with a spelling rise
pub map-rising : (node : Node) (v : Vec (Vec ℕ × Node)) (entries : List (Vec ℕ × Node)) → node ≡ variants.Map v → entries ≡ v.items → IsSpellable (data_of node) → AreRising (node_entries entries)
map-rising node v entries is same h =
    let spellable = subst IsSpellable (ap data_of is ∙ data_of-map v ∙ ap (λ m. data_model.map (node_entries m)) (sym same)) h in spellable.1

-- a list's spelling is its head and that of its members
pub list-pushed : {T E : Type 0} (r : Result T E) (node : Node) (v : Vec Node) (members : List Node) (count : ℕ) (old mid new : List ℕ)
    → node ≡ variants.List v → members ≡ v.items → count ≡ length v.items → mid ≡ old ++ head_of 4 count
    → OnOk r (new ≡ mid ++ items_spelling (node_items members)) → OnOk r (new ≡ old ++ spelling_of (data_of node))
list-pushed r node v members count old mid new is same counted head =
    let spelled : mid ++ items_spelling (node_items members) ≡ old ++ spelling_of (data_of node) =
    ap (λ m. m ++ items_spelling (node_items members)) head ∙ append_assoc old (head_of 4 count) (items_spelling (node_items members))
    ∙ ap (λ n. old ++ (head_of 4 n ++ items_spelling (node_items members))) (counted ∙ sym (item_count-nodes v.items))
    ∙ ap (λ m. old ++ (head_of 4 (item_count (node_items v.items)) ++ items_spelling (node_items m))) same
    ∙ ap (λ d. old ++ spelling_of d) (sym (data_of-list v) ∙ ap data_of (sym is)) in
    on_ok_weaker r (λ e. e ∙ spelled)

-- a map's spelling is its head and that of its keys and values
pub map-pushed : {T E : Type 0} (r : Result T E) (node : Node) (v : Vec (Vec ℕ × Node)) (entries : List (Vec ℕ × Node)) (count : ℕ) (old mid new : List ℕ)
    → node ≡ variants.Map v → entries ≡ v.items → count ≡ length v.items → mid ≡ old ++ head_of 5 count
    → OnOk r (new ≡ mid ++ entries_spelling (node_entries entries)) → OnOk r (new ≡ old ++ spelling_of (data_of node))
map-pushed r node v entries count old mid new is same counted head =
    let spelled : mid ++ entries_spelling (node_entries entries) ≡ old ++ spelling_of (data_of node) =
    ap (λ m. m ++ entries_spelling (node_entries entries)) head ∙ append_assoc old (head_of 5 count) (entries_spelling (node_entries entries))
    ∙ ap (λ n. old ++ (head_of 5 n ++ entries_spelling (node_entries entries))) (counted ∙ sym (entry_count-nodes v.items))
    ∙ ap (λ m. old ++ (head_of 5 (entry_count (node_entries v.items)) ++ entries_spelling (node_entries m))) same
    ∙ ap (λ d. old ++ spelling_of d) (sym (data_of-map v) ∙ ap data_of (sym is)) in
    on_ok_weaker r (λ e. e ∙ spelled)

-- an integer below 0 is spelled by -1 less it
negative-spelled : (n : ℤ) (a : ℕ) → n <ℤ pos 0 → pos a ≡ negsuc 0 -ℤ n → head_of 1 a ≡ spelling_of (integer n)
negative-spelled (pos k) a below is = absurd (omega (arith, ints))
negative-spelled (negsuc k) a below is = let e : a ≡ k = omega (arith, ints) in ap (head_of 1) e

-- so is one that is pushed
pub negative-pushed : {T E : Type 0} (r : Result T E) (n : ℤ) (a : ℕ) (old new : List ℕ) → n <ℤ pos 0 → pos a ≡ negsuc 0 -ℤ n → OnOk r (new ≡ old ++ head_of 1 a) → OnOk r (new ≡ old ++ spelling_of (integer n))
negative-pushed r n a old new below is = on_ok_weaker r (λ e. e ∙ ap (λ s. old ++ s) (negative-spelled n a below is))
