-- What the error of an item or a member says of the whole.
use Rattle.std.proofs.Common.{◌≡◌, ℕ, zero, suc, ◌<◌, ◌≤◌, List, [], ◌∷◌, length, get_or, sym, ap, ◌∙◌, subst, arith}
use Rattle.json.specs.declared.value.Value.{Value}
use Rattle.json.specs.declared.value.Value as value
use Rattle.json.specs.Json.{object, Members}
use Rattle.json.specs.Strict.{keys, AreDistinct, HasUniqueKeys, ItemsHaveUniqueKeys, MembersHaveUniqueKeys}
use Rattle.json.specs.Tree.{depth, items_depth, members_depth}
use Rattle.json.specs.Value.{value_view, items_view, members_view}
use Rattle.json.proofs.Trees.{view-Object}
use Rattle.ix_selector_json.specs.declared.fault.NotationFault.{NotationFault}
use Rattle.ix_selector_json.specs.declared.fault.NotationFault.TheVariants.{Json as NoJson, Repeated, Number, Hex, Block, Selector, Name, Memory}
use Rattle.ix_selector_json.specs.Saying.{AreIntegers, ItemsAreIntegers, MembersAreIntegers, IsUnread}
use Rattle.ix_selector_json.proofs.Sayings.{Member}

-- the same error, where what is so of the whole is so of the part
pub unread_weaker : {P Q R S : Type 0} (e : NotationFault) → (R → P) → (S → Q) → IsUnread P Q e → IsUnread R S e
unread_weaker (NoJson p) f g h = h
unread_weaker Repeated f g h = λ s. h (g s)
unread_weaker Number f g h = λ r. h (f r)
unread_weaker Hex f g h = h
unread_weaker (Block b) f g h = h
unread_weaker (Selector s) f g h = h
unread_weaker Name f g h = h
unread_weaker Memory f g h = h

-- an element of an array of integers alone has integers alone
pub item_integers : {A : Type 0} (values : List (Value A)) (i : ℕ) (d : Value A) → i < length values → ItemsAreIntegers (items_view values) → AreIntegers (value_view (get_or values i d))
item_integers [] i d l h = absurd (omega arith)
item_integers (v ∷ values) zero d l h = h.0
item_integers (v ∷ values) (suc i) d l h = item_integers values i d (omega arith) h.1

-- an element of an array without repeated keys has none
item_unique : {A : Type 0} (values : List (Value A)) (i : ℕ) (d : Value A) → i < length values → ItemsHaveUniqueKeys (items_view values) → HasUniqueKeys (value_view (get_or values i d))
item_unique [] i d l h = absurd (omega arith)
item_unique (v ∷ values) zero d l h = h.0
item_unique (v ∷ values) (suc i) d l h = item_unique values i d (omega arith) h.1

-- an element nests less deep than its array
pub item_within : {A : Type 0} (values : List (Value A)) (i : ℕ) (d : Value A) → i < length values → depth (value_view (get_or values i d)) ≤ items_depth (items_view values)
item_within [] i d l = absurd (omega arith)
item_within (v ∷ values) zero d l = omega arith
item_within (v ∷ values) (suc i) d l = omega (arith, item_within values i d (omega arith))

-- an item's error is the array's
pub item_unread : {A : Type 0} (values : List (Value A)) (i : ℕ) (x : Value A) (e : NotationFault) → i < length values → x ≡ get_or values i x
    → IsUnread (AreIntegers (value_view x)) (HasUniqueKeys (value_view x)) e → IsUnread (ItemsAreIntegers (items_view values)) (ItemsHaveUniqueKeys (items_view values)) e
item_unread {A} values i x e l is h =
    unread_weaker e (λ r. subst (λ (y : Value A). AreIntegers (value_view y)) (sym is) (item_integers values i x l r))
    (λ s. subst (λ (y : Value A). HasUniqueKeys (value_view y)) (sym is) (item_unique values i x l s)) h

-- a member of an object of integers alone has integers alone
pub member_integers : {A : Type 0} (values : List (Member A)) (i : ℕ) (d : Member A) → i < length values → MembersAreIntegers (members_view values) → AreIntegers (value_view (get_or values i d).1)
member_integers [] i d l h = absurd (omega arith)
member_integers (v ∷ values) zero d l h = h.0
member_integers (v ∷ values) (suc i) d l h = member_integers values i d (omega arith) h.1

-- a member of an object without repeated keys has none
member_unique : {A : Type 0} (values : List (Member A)) (i : ℕ) (d : Member A) → i < length values → MembersHaveUniqueKeys (members_view values) → HasUniqueKeys (value_view (get_or values i d).1)
member_unique [] i d l h = absurd (omega arith)
member_unique (v ∷ values) zero d l h = h.0
member_unique (v ∷ values) (suc i) d l h = member_unique values i d (omega arith) h.1

-- a member nests less deep than its object
pub member_within : {A : Type 0} (values : List (Member A)) (i : ℕ) (d : Member A) → i < length values → depth (value_view (get_or values i d).1) ≤ members_depth (members_view values)
member_within [] i d l = absurd (omega arith)
member_within (v ∷ values) zero d l = omega arith
member_within (v ∷ values) (suc i) d l = omega (arith, member_within values i d (omega arith))

-- a member's error is the object's
pub member_unread : {A : Type 0} (values : List (Member A)) (i : ℕ) (x : Member A) (e : NotationFault) → i < length values → x ≡ get_or values i x
    → IsUnread (AreIntegers (value_view x.1)) (HasUniqueKeys (value_view x.1)) e
    → IsUnread (MembersAreIntegers (members_view values)) (AreDistinct (keys (members_view values)) × MembersHaveUniqueKeys (members_view values)) e
member_unread {A} values i x e l is h =
    unread_weaker e (λ r. subst (λ (y : Member A). AreIntegers (value_view y.1)) (sym is) (member_integers values i x l r))
    (λ s. subst (λ (y : Member A). HasUniqueKeys (value_view y.1)) (sym is) (member_unique values i x l s.1)) h

-- and the error of its members is that of an object
pub object_unread : {A : Type 0} (x : Value A) (members : _) (values : List (Member A)) (e : NotationFault) → x ≡ value.Object members → values ≡ members.items
    → IsUnread (MembersAreIntegers (members_view values)) (AreDistinct (keys (members_view values)) × MembersHaveUniqueKeys (members_view values)) e
    → IsUnread (AreIntegers (value_view x)) (HasUniqueKeys (value_view x)) e
object_unread x members values e is same h =
    let seen : value_view x ≡ object (members_view values) = ap value_view is ∙ view-Object members ∙ ap (λ ms. object (members_view ms)) (sym same) in
    subst (λ j. IsUnread (AreIntegers j) (HasUniqueKeys j) e) (sym seen) h

-- members of which two have one key
pub repeated_unread : (ms : Members) (e : NotationFault) → e ≡ Repeated → ¬ AreDistinct (keys ms)
    → IsUnread (MembersAreIntegers ms) (AreDistinct (keys ms) × MembersHaveUniqueKeys ms) e
repeated_unread ms e is twice =
    subst (IsUnread (MembersAreIntegers ms) (AreDistinct (keys ms) × MembersHaveUniqueKeys ms)) (sym is) (λ u. twice u.0)
