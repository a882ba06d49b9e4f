-- Why data isn't printed, from a part to the whole.
use Rattle.std.proofs.Common.{◌≡◌, ℕ, zero, suc, ◌<◌, List, [], ◌∷◌, length, get_or, inl, inr, sym, subst, arith}
use Rattle.std.specs.Str.{IsUtf8}
use Rattle.ix_cbor.specs.declared.node.Node.{Node}
use Rattle.ix_cbor.specs.Data.{Data, data_of, node_items, node_entries}
use Rattle.ix_selector_json.specs.declared.fault.NotationFault.{NotationFault}
use Rattle.ix_selector_json.specs.declared.fault.NotationFault.TheVariants.{Json, Repeated, Number, Hex, Block, Selector, Name, Memory}
use Rattle.ix_selector_json.specs.Notation.{IsSelectorOf, IsHexOf, IsHexRefused}
use Rattle.ix_selector_json.proofs.Selectors.{selector_plain}
use Rattle.ix_selector_json.specs.Printed.{HasBadText, ItemsHaveBadText, EntriesHaveBadText, HasOtherKind, ItemsHaveOtherKind, EntriesHaveOtherKind, IsUnprinted}
use Rattle.ix_selector_json.proofs.Sayings.{Entry}

-- the same error, where what it says of a part holds of the whole
pub unprinted_weaker : {P Q R S : Type 0} (e : NotationFault) → (P → R) → (Q → S) → IsUnprinted P Q e → IsUnprinted R S e
unprinted_weaker (Json p) f g h = h
unprinted_weaker Repeated f g h = h
unprinted_weaker Number f g h = h
unprinted_weaker Hex f g h = h
unprinted_weaker (Block b) f g h = h
unprinted_weaker (Selector s) f g h = g h
unprinted_weaker Name f g h = f h
unprinted_weaker Memory f g h = h

-- a list with an element of a bad text has one
bad_member : (nodes : List Node) (i : ℕ) (d : Node) → i < length nodes → HasBadText (data_of (get_or nodes i d)) → ItemsHaveBadText (node_items nodes)
bad_member [] i d l h = absurd (omega arith)
bad_member (x ∷ nodes) zero d l h = inl h
bad_member (x ∷ nodes) (suc i) d l h = inr (bad_member nodes i d (omega arith) h)

-- a list with an element of another kind has one
other_member : (nodes : List Node) (i : ℕ) (d : Node) → i < length nodes → HasOtherKind (data_of (get_or nodes i d)) → ItemsHaveOtherKind (node_items nodes)
other_member [] i d l h = absurd (omega arith)
other_member (x ∷ nodes) zero d l h = inl h
other_member (x ∷ nodes) (suc i) d l h = inr (other_member nodes i d (omega arith) h)

-- what a member's error says of the list
pub member_unprinted : (nodes : List Node) (i : ℕ) (x : Node) (e : NotationFault) → i < length nodes → x ≡ get_or nodes i x
    → IsUnprinted (HasBadText (data_of x)) (HasOtherKind (data_of x)) e → IsUnprinted (ItemsHaveBadText (node_items nodes)) (ItemsHaveOtherKind (node_items nodes)) e
member_unprinted nodes i x e l is h =
    unprinted_weaker e (λ b. bad_member nodes i x l (subst (λ y. HasBadText (data_of y)) is b)) (λ o. other_member nodes i x l (subst (λ y. HasOtherKind (data_of y)) is o)) h

-- a map with a key that is not UTF-8 has a bad text
bad_key : (entries : List Entry) (i : ℕ) (d : Entry) → i < length entries → ¬ IsUtf8 (get_or entries i d).0.items → EntriesHaveBadText (node_entries entries)
bad_key [] i d l h = absurd (omega arith)
bad_key (x ∷ entries) zero d l h = inl h
bad_key (x ∷ entries) (suc i) d l h = inr (inr (bad_key entries i d (omega arith) h))

-- a map with a value of a bad text has one
bad_value : (entries : List Entry) (i : ℕ) (d : Entry) → i < length entries → HasBadText (data_of (get_or entries i d).1) → EntriesHaveBadText (node_entries entries)
bad_value [] i d l h = absurd (omega arith)
bad_value (x ∷ entries) zero d l h = inr (inl h)
bad_value (x ∷ entries) (suc i) d l h = inr (inr (bad_value entries i d (omega arith) h))

-- a map with a value of another kind has one
other_value : (entries : List Entry) (i : ℕ) (d : Entry) → i < length entries → HasOtherKind (data_of (get_or entries i d).1) → EntriesHaveOtherKind (node_entries entries)
other_value [] i d l h = absurd (omega arith)
other_value (x ∷ entries) zero d l h = inl h
other_value (x ∷ entries) (suc i) d l h = inr (other_value entries i d (omega arith) h)

-- what a key's error says of the map
pub key_unprinted : (entries : List Entry) (i : ℕ) (x : Entry) (k : List ℕ) (e : NotationFault) → i < length entries → x ≡ get_or entries i x → k ≡ x.0.items
    → (e ≡ Name) × ¬ IsUtf8 k → IsUnprinted (EntriesHaveBadText (node_entries entries)) (EntriesHaveOtherKind (node_entries entries)) e
key_unprinted entries i x k e l is same h =
    let bad : ¬ IsUtf8 (get_or entries i x).0.items = subst (λ (y : Entry). ¬ IsUtf8 y.0.items) is (subst (λ s. ¬ IsUtf8 s) same h.1) in
    subst (IsUnprinted (EntriesHaveBadText (node_entries entries)) (EntriesHaveOtherKind (node_entries entries))) (sym h.0) (bad_key entries i x l bad)

-- and a value's
pub value_unprinted : (entries : List Entry) (i : ℕ) (x : Entry) (e : NotationFault) → i < length entries → x ≡ get_or entries i x
    → IsUnprinted (HasBadText (data_of x.1)) (HasOtherKind (data_of x.1)) e → IsUnprinted (EntriesHaveBadText (node_entries entries)) (EntriesHaveOtherKind (node_entries entries)) e
value_unprinted entries i x e l is h =
    unprinted_weaker e (λ b. bad_value entries i x l (subst (λ (y : Entry). HasBadText (data_of y.1)) is b))
    (λ o. other_value entries i x l (subst (λ (y : Entry). HasOtherKind (data_of y.1)) is o)) h

-- a selector that is not printed
pub unprinted : (text : List ℕ) (d : Data) (e : NotationFault) → IsHexOf text d → IsSelectorOf d → IsUnprinted (HasBadText d) (HasOtherKind d) e → IsHexRefused text e
unprinted text d (Json p) spelled read h = h
unprinted text d Repeated spelled read h = h
unprinted text d Number spelled read h = h
unprinted text d Hex spelled read h = absurd h
unprinted text d (Block b) spelled read h = absurd h
unprinted text d (Selector s) spelled read h = absurd (selector_plain d read.pattern read.read h)
unprinted text d Name spelled read h = record { selector_data = d; spelled = spelled; selector = read; name = h }
unprinted text d Memory spelled read h = h
