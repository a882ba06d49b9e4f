-- Items traversed, child by child.
use Rattle.std.proofs.Common.{◌≡◌, ℕ, ◌-◌, ◌≤◌, false, List, [], ◌∷◌, refl, sym, ◌∙◌, ap, subst, arith}
use Rattle.std.specs.Prelude.{Some, None, Ok, nat_lt, if◌then◌else◌}
use Rattle.std.proofs.lemmas.Bool.{le-ltb}
use Rattle.std.specs.Result.{result_ok}
use Rattle.ix_cbor.specs.declared.front.Front.{Front}
use Rattle.ix_cbor.specs.declared.front.Front.TheVariants as fronts
use Rattle.ix_cbor.specs.Data.{Data, Items, Entries, null, boolean, integer, float, bytes, text, link}
use Rattle.ix_cbor.specs.Data as nodes
use Rattle.ix_cbor.specs.Reading.{◌>>=◌, own_at, Own, item_at, items_at, entries_at, with_members}
use Rattle.ix_cbor.specs.Fronts.{own_of_front}
use Rattle.ix_cbor.proofs.Fronts.{item_at-above}
use Rattle.ix_cbor.proofs.Deeper.{item_deeper, items_also, entries_also}
use Rattle.ix_cbor.proofs.Steps.{bind_ok, ok_same, ok_data, as_list, as_map}
use Rattle.ix_selector.specs.Enters.{Step}
use Rattle.ix_selector.specs.Residual.{Place, ResidualEnters}
use Rattle.ix_walk.specs.declared.subtree.Children.TheVariants.{Members, Values}
use Rattle.ix_walk.specs.declared.subtree.Child.TheVariants.{Link, Open}
use Rattle.ix_walk.specs.declared.subtree.PendingLink.{PendingLink}
use Rattle.ix_selector.specs.Behind.{residual_after}
use Rattle.ix_walk.specs.Walking.{when_entered, links_below, members, values, weight_of, part_at}
use Rattle.ix_walk.specs.Descent.{may_hold_links, entered_by, Enters, child_links, IsNode, IsChild}

-- ---- one item

-- so many members are here
pub members_here : (count left : ℕ) (b rest : List ℕ) (ds : Items) → left ≤ count → items_at (item_at 512) left b ≡ Ok (ds, rest) → part_at (Members count left) b ≡ Some (members (count - left) ds, rest)
members_here count left b rest ds h e =
    let fits : nat_lt count left ≡ false = le-ltb count left h in
    ap (λ t. if t then None else result_ok (items_at (item_at 512) left b >>= (λ ds. Ok (members (count - left) ds.0, ds.1)))) fits
    ∙ ap (λ r. result_ok (r >>= (λ ds. Ok (members (count - left) ds.0, ds.1)))) e

-- the entries that can be read are what is left of the map
pub values_here : (left : ℕ) (b rest : List ℕ) (es : Entries) → entries_at (item_at 512) None left b ≡ Ok (es, rest) → part_at (Values left) b ≡ Some (values es, rest)
values_here left b rest es e = ap (λ r. result_ok (r >>= (λ es. Ok (values es.0, es.1)))) e

-- an item by its front: what is read where it is
item_by_front : (f : Front) (at behind rest : List ℕ) (d : Data) → own_at at ≡ Ok (own_of_front f, behind) → item_at 512 at ≡ Ok (d, rest)
    → with_members (Some (item_at 511)) at (own_of_front f, behind) ≡ Ok (d, rest)
item_by_front f at behind rest d own e =
    ap (λ r. r >>= with_members (Some (item_at 511)) at) (sym own) ∙ sym (item_at-above 512 at (omega arith)) ∙ e

-- what an item without members is
ok_data-kept : (x d : Data) (behind rest : List ℕ) (P : Data → List ℕ → Type 0) → ok_data (x, behind) ≡ ok_data (d, rest) → P x behind → P d rest
ok_data-kept x d behind rest P e p = subst (λ (y : Data × List ℕ). P y.0 y.1) (ok_same (x, behind) (d, rest) e) p

-- a list whose members are read
list_enters : (places : List Place) (depth n : ℕ) (behind rest : List ℕ) (d : Data) → (items_at (item_at 511) n behind >>= as_list) ≡ Ok (d, rest)
    → Enters (links_below places depth d) (weight_of d) rest (Some (Open (record { residual = places; children = Members n n; depth = depth; resume_at = None }))) behind
list_enters places depth n behind rest d e =
    let m = bind_ok (items_at (item_at 511) n behind) as_list (d, rest) e in
    let z : n - n ≡ 0 = omega arith in
    let here = members_here n n behind m.0.1 m.0.0 (omega arith) (items_also (item_at 511) (item_at 512) (item_deeper 511) n behind m.0 m.1) in
    let first : part_at (Members n n) behind ≡ Some (members 0 m.0.0, m.0.1) = here ∙ ap (λ k. Some (members k m.0.0, m.0.1)) z in
    ok_data-kept (nodes.list m.0.0) d m.0.1 rest
    (λ x l. Enters (links_below places depth x) (weight_of x) l (Some (Open (record { residual = places; children = Members n n; depth = depth; resume_at = None }))) behind) m.2
    (refl, members 0 m.0.0, first, record { reaches = refl; light = omega arith })

-- a map whose keys and values are read
map_enters : (places : List Place) (depth n : ℕ) (behind rest : List ℕ) (d : Data) → (entries_at (item_at 511) None n behind >>= as_map) ≡ Ok (d, rest)
    → Enters (links_below places depth d) (weight_of d) rest (Some (Open (record { residual = places; children = Values n; depth = depth; resume_at = None }))) behind
map_enters places depth n behind rest d e =
    let m = bind_ok (entries_at (item_at 511) None n behind) as_map (d, rest) e in
    let here = values_here n behind m.0.1 m.0.0 (entries_also (item_at 511) (item_at 512) (item_deeper 511) None n behind m.0 m.1) in
    ok_data-kept (nodes.map m.0.0) d m.0.1 rest
    (λ x l. Enters (links_below places depth x) (weight_of x) l (Some (Open (record { residual = places; children = Values n; depth = depth; resume_at = None }))) behind) m.2
    (refl, values m.0.0, here, record { reaches = refl; light = omega arith })

-- an item without links
flat_enters : (places : List Place) (depth : ℕ) (x d : Data) (behind rest : List ℕ) → links_below places depth x ≡ [] → ok_data (x, behind) ≡ ok_data (d, rest)
    → Enters (links_below places depth d) (weight_of d) rest None behind
flat_enters places depth x d behind rest nothing e =
    ok_data-kept x d behind rest (λ y l. Enters (links_below places depth y) (weight_of y) l None behind) e (refl, nothing)

-- what is entered depends on the front alone
by_front : (f : Front) (places : List Place) (depth : ℕ) (at behind rest : List ℕ) (d : Data) → with_members (Some (item_at 511)) at (own_of_front f, behind) ≡ Ok (d, rest)
    → Enters (links_below places depth d) (weight_of d) rest (entered_by places f depth) behind
by_front fronts.Null places depth at behind rest d e = flat_enters places depth null d behind rest refl e
by_front (fronts.Bool b) places depth at behind rest d e = flat_enters places depth (boolean b) d behind rest refl e
by_front (fronts.Int n) places depth at behind rest d e = flat_enters places depth (integer n) d behind rest refl e
by_front (fronts.Bits64 bits) places depth at behind rest d e = flat_enters places depth (float bits) d behind rest refl e
by_front (fronts.Bytes b) places depth at behind rest d e = flat_enters places depth (bytes b.now) d behind rest refl e
by_front (fronts.Text t) places depth at behind rest d e = flat_enters places depth (text t.now) d behind rest refl e
by_front (fronts.Link c) places depth at behind rest d e =
    ok_data-kept (link c.now) d behind rest
    (λ x l. Enters (links_below places depth x) (weight_of x) l (Some (Link (record { residual = places; cid = c.now; depth = depth }))) behind) e (refl, refl)
by_front (fronts.List n) places depth at behind rest d e = list_enters places depth n behind rest d e
by_front (fronts.Map n) places depth at behind rest d e = map_enters places depth n behind rest d e

-- an item that is entered
pub node_enters : (f : Front) (places : List Place) (depth : ℕ) (at behind : List ℕ) → own_at at ≡ Ok (own_of_front f, behind) → IsNode places at depth (entered_by places f depth) behind
node_enters f places depth at behind own = λ d rest e. by_front f places depth at behind rest d (item_by_front f at behind rest d own e)

-- ---- a child

-- where a residual enters, something is left
pub some_entered : (r : List Place) → ResidualEnters r [] → r ≡ [] → ⊥
some_entered [] enters none = elim enters.among [ ]
some_entered (x ∷ r) enters none = absurd cc

-- a child that is entered has what is below it
entered_is : (places more : List Place) (links : List Place → List PendingLink) (t : Step) → (more ≡ [] → ⊥) → more ≡ residual_after places t → links more ≡ when_entered (residual_after places t) (links (residual_after places t))
entered_is places [] links t some is = absurd (some refl)
entered_is places (x ∷ xs) links t some is = ap (λ r. when_entered r (links r)) is

-- a child that the selector enters, with its residual
pub child_entered : (f : Front) (places more : List Place) (t : Step) (depth : ℕ) (at behind : List ℕ) → own_at at ≡ Ok (own_of_front f, behind) → (more ≡ [] → ⊥) → more ≡ residual_after places t
    → IsChild places t at depth (entered_by more f depth) behind
child_entered f places more t depth at behind own some is = λ d rest e.
    subst (λ z. Enters z (weight_of d) rest (entered_by more f depth) behind) (entered_is places more (λ r. links_below r depth d) t some is) (node_enters f more depth at behind own d rest e)

-- a child that isn't has nothing
pub child_apart : (places : List Place) (t : Step) (depth : ℕ) (at end : List ℕ) → ((d : Data) (rest : List ℕ) → item_at 512 at ≡ Ok (d, rest) → end ≡ rest) → residual_after places t ≡ []
    → IsChild places t at depth None end
child_apart places t depth at end ends is = λ d rest e. (ends d rest e, ap (λ r. when_entered r (links_below r depth d)) is)

-- an item in which no link can be has nothing, whether it is entered or not
when_flat : (r : List Place) (links : List PendingLink) → links ≡ [] → when_entered r links ≡ []
when_flat [] links e = refl
when_flat (x ∷ xs) links e = e

-- a child without links
flat_child : (places : List Place) (t : Step) (depth : ℕ) (x d : Data) (behind rest : List ℕ) → ((r : List Place) → links_below r depth x ≡ []) → ok_data (x, behind) ≡ ok_data (d, rest)
    → Enters (child_links places t depth d) (weight_of d) rest None behind
flat_child places t depth x d behind rest nothing e =
    ok_data-kept x d behind rest (λ y l. Enters (child_links places t depth y) (weight_of y) l None behind) e
    (refl, when_flat (residual_after places t) (links_below (residual_after places t) depth x) (nothing (residual_after places t)))

-- an item whose front excludes links has none
flat_front : (f : Front) (places : List Place) (t : Step) (depth : ℕ) (at behind rest : List ℕ) (d : Data) → may_hold_links f ≡ false → with_members (Some (item_at 511)) at (own_of_front f, behind) ≡ Ok (d, rest)
    → Enters (child_links places t depth d) (weight_of d) rest None behind
flat_front fronts.Null places t depth at behind rest d flat e = flat_child places t depth null d behind rest (λ r. refl) e
flat_front (fronts.Bool b) places t depth at behind rest d flat e = flat_child places t depth (boolean b) d behind rest (λ r. refl) e
flat_front (fronts.Int n) places t depth at behind rest d flat e = flat_child places t depth (integer n) d behind rest (λ r. refl) e
flat_front (fronts.Bits64 bits) places t depth at behind rest d flat e = flat_child places t depth (float bits) d behind rest (λ r. refl) e
flat_front (fronts.Bytes b) places t depth at behind rest d flat e = flat_child places t depth (bytes b.now) d behind rest (λ r. refl) e
flat_front (fronts.Text s) places t depth at behind rest d flat e = flat_child places t depth (text s.now) d behind rest (λ r. refl) e
flat_front (fronts.Link c) places t depth at behind rest d flat e = absurd cc
flat_front (fronts.List n) places t depth at behind rest d flat e = absurd cc
flat_front (fronts.Map n) places t depth at behind rest d flat e = absurd cc

-- so it isn't entered
pub child_flat : (f : Front) (places : List Place) (t : Step) (depth : ℕ) (at behind : List ℕ) → own_at at ≡ Ok (own_of_front f, behind) → may_hold_links f ≡ false → IsChild places t at depth None behind
child_flat f places t depth at behind own flat = λ d rest e. flat_front f places t depth at behind rest d flat (item_by_front f at behind rest d own e)

-- an item is there only where its front is
pub item_has_front : (b : List ℕ) (x : Data × List ℕ) → item_at 512 b ≡ Ok x → (own : Own × List ℕ) × (own_at b ≡ Ok own)
item_has_front b x e =
    let m = bind_ok (own_at b) (with_members (Some (item_at 511)) b) x (sym (item_at-above 512 b (omega arith)) ∙ e) in (m.0, m.1)

-- an item without members ends where its front does
whole_ends : (x d : Data) (behind rest : List ℕ) → ok_data (x, behind) ≡ ok_data (d, rest) → behind ≡ rest
whole_ends x d behind rest e = ap (λ (y : Data × List ℕ). y.1) (ok_same (x, behind) (d, rest) e)

-- an item that is neither list nor map ends after its front
ends_by : (f : Front) (at behind rest : List ℕ) (d : Data) → ((n : ℕ) → f ≡ fronts.List n → ⊥) → ((n : ℕ) → f ≡ fronts.Map n → ⊥) → with_members (Some (item_at 511)) at (own_of_front f, behind) ≡ Ok (d, rest) → behind ≡ rest
ends_by fronts.Null at behind rest d not_list not_map e = whole_ends null d behind rest e
ends_by (fronts.Bool b) at behind rest d not_list not_map e = whole_ends (boolean b) d behind rest e
ends_by (fronts.Int n) at behind rest d not_list not_map e = whole_ends (integer n) d behind rest e
ends_by (fronts.Bits64 bits) at behind rest d not_list not_map e = whole_ends (float bits) d behind rest e
ends_by (fronts.Bytes b) at behind rest d not_list not_map e = whole_ends (bytes b.now) d behind rest e
ends_by (fronts.Text s) at behind rest d not_list not_map e = whole_ends (text s.now) d behind rest e
ends_by (fronts.Link c) at behind rest d not_list not_map e = whole_ends (link c.now) d behind rest e
ends_by (fronts.List n) at behind rest d not_list not_map e = absurd (not_list n refl)
ends_by (fronts.Map n) at behind rest d not_list not_map e = absurd (not_map n refl)

-- and so the bytes after its front are those after it
pub leaf_ends : (f : Front) (at behind : List ℕ) → own_at at ≡ Ok (own_of_front f, behind) → ((n : ℕ) → f ≡ fronts.List n → ⊥) → ((n : ℕ) → f ≡ fronts.Map n → ⊥) → (d : Data) (rest : List ℕ) → item_at 512 at ≡ Ok (d, rest) → behind ≡ rest
leaf_ends f at behind own not_list not_map d rest e = ends_by f at behind rest d not_list not_map (item_by_front f at behind rest d own e)
