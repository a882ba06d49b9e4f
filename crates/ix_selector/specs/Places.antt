-- The places of a selector, by number: itself and the selectors inside it, each after those inside it.
use Rattle.std.specs.Prelude.{◌≡◌, ◌⊎◌, ℕ, ◌+◌, ◌<◌, ◌≤◌, List, [], ◌∷◌, ◌++◌, map, get_or, length}
use Rattle.std.specs.Global.{Vec}
use Rattle.std.specs.declared.cmp.Ordering.TheVariants.{Less}
use Rattle.ix_cbor.specs.Spelling.{key_cmp}
use Rattle.ix_selector.specs.declared.selector_node.SelectorNode.{SelectorNode}
use Rattle.ix_selector.specs.declared.selector_node.SelectorNode.TheVariants.{Matcher, All, Fields, Index, Range, Recursive, Union, Edge}
use Rattle.ix_selector.specs.Pattern.{Pattern, matcher, all, fields, index, range, recursive, union, edge, fields_of, members_of, pattern_of}
use Rattle.ix_selector.specs.declared.sel.Sel.{Sel}
use Rattle.ix_selector.specs.Views.{seen_field}

-- the selector at a place
abbrev pub at : List Pattern → ℕ → Pattern
at places n = get_or places n edge

-- a key, and the selector at its place
abbrev pub named_at : List Pattern → Vec ℕ × ℕ → List ℕ × Pattern
named_at places f = (f.0.items, at places f.1)

-- the selector that a node is, with those at the places that it names
abbrev pub seen : List Pattern → SelectorNode → Pattern
seen places Matcher = matcher
seen places (All k) = all (at places k)
seen places (Fields names) = fields (fields_of (map (named_at places) names.items))
seen places (Index i k) = index i (at places k)
seen places (Range i j k) = range i j (at places k)
seen places (Recursive limit k) = recursive limit (at places k)
seen places (Union ks) = union (members_of (map (at places) ks.items))
seen places Edge = edge

-- the selectors at all places, after some
abbrev pub seen_after : List Pattern → List SelectorNode → List Pattern
seen_after before [] = before
seen_after before (x ∷ xs) = seen_after (before ++ seen before x ∷ []) xs

-- the selectors at all places of a table
abbrev pub places_of : List SelectorNode → List Pattern
places_of nodes = seen_after [] nodes

-- the key is before each of these
abbrev pub IsBefore : List ℕ → List (Vec ℕ × ℕ) → Type 0
IsBefore k [] = Unit {0}
IsBefore k (f ∷ fs) = (key_cmp k f.0.items ≡ Less) × IsBefore k fs

-- each key is before those after it
abbrev pub AreRising : List (Vec ℕ × ℕ) → Type 0
AreRising [] = Unit {0}
AreRising (f ∷ fs) = IsBefore f.0.items fs × AreRising fs

-- each number is below a bound
abbrev pub AreBelow : ℕ → List ℕ → Type 0
AreBelow n [] = Unit {0}
AreBelow n (k ∷ ks) = (k < n) × AreBelow n ks

-- each number of a name is below a bound
abbrev pub AreNamedBelow : ℕ → List (Vec ℕ × ℕ) → Type 0
AreNamedBelow n [] = Unit {0}
AreNamedBelow n (f ∷ fs) = (f.1 < n) × AreNamedBelow n fs

-- a node at this place: it names places before it alone, and its keys rise
abbrev pub IsNode : ℕ → SelectorNode → Type 0
IsNode n Matcher = Unit {0}
IsNode n (All k) = k < n
IsNode n (Fields names) = AreNamedBelow n names.items × AreRising names.items
IsNode n (Index i k) = k < n
IsNode n (Range i j k) = k < n
IsNode n (Recursive limit k) = k < n
IsNode n (Union ks) = AreBelow n ks.items
IsNode n Edge = Unit {0}

-- nodes from a place on
abbrev pub AreNodes : ℕ → List SelectorNode → Type 0
AreNodes n [] = Unit {0}
AreNodes n (x ∷ xs) = IsNode n x × AreNodes (n + 1) xs

-- ---- which places a node names

-- the number is in the list
abbrev pub IsNumber : List ℕ → ℕ → Type 0
IsNumber [] k = ⊥
IsNumber (j ∷ js) k = (j ≡ k) ⊎ IsNumber js k

-- the number belongs to one of the names
abbrev pub HasNumber : List (Vec ℕ × ℕ) → ℕ → Type 0
HasNumber [] k = ⊥
HasNumber (f ∷ fs) k = (f.1 ≡ k) ⊎ HasNumber fs k

-- the node names the place
abbrev pub Names : SelectorNode → ℕ → Type 0
Names Matcher k = ⊥
Names (All j) k = j ≡ k
Names (Fields names) k = HasNumber names.items k
Names (Index i j) k = j ≡ k
Names (Range i l j) k = j ≡ k
Names (Recursive limit j) k = j ≡ k
Names (Union js) k = IsNumber js.items k
Names Edge k = ⊥

-- no node names the place
abbrev pub IsFree : List SelectorNode → ℕ → Type 0
IsFree [] k = Unit {0}
IsFree (x ∷ xs) k = (Names x k → ⊥) × IsFree xs k

-- no two nodes name one place
abbrev pub AreNamedOnce : List SelectorNode → Type 0
AreNamedOnce [] = Unit {0}
AreNamedOnce (x ∷ xs) = ((k : ℕ) → Names x k → IsFree xs k) × AreNamedOnce xs

-- the nodes name places from a number on
abbrev pub AreFrom : ℕ → List SelectorNode → Type 0
AreFrom m [] = Unit {0}
AreFrom m (x ∷ xs) = ((k : ℕ) → Names x k → m ≤ k) × AreFrom m xs

-- no node names the place, which is from a number on
abbrev pub IsFreeFrom : ℕ → List SelectorNode → ℕ → Type 0
IsFreeFrom m xs k = (m ≤ k) × IsFree xs k

-- ---- what is appended to the places that are there

-- the selector is at the place
abbrev pub IsAtPlace : List SelectorNode → Pattern → ℕ → Type 0
IsAtPlace nodes s n = (n < length nodes) × (at (places_of nodes) n ≡ s)

-- the node, appended to these, is the selector
abbrev pub IsNodeOf : List SelectorNode → Pattern → SelectorNode → Type 0
IsNodeOf nodes s x = IsNode (length nodes) x × (seen (places_of nodes) x ≡ s)

-- the numbers of the names are the places of these fields
abbrev pub AreFieldsAt : List SelectorNode → List (Vec ℕ × Sel) → List (Vec ℕ × ℕ) → Type 0
AreFieldsAt nodes fs names =
    AreNamedBelow (length nodes) names × AreRising names × (map (named_at (places_of nodes)) names ≡ map seen_field fs)

-- the numbers are the places of these members
abbrev pub AreMembersAt : List SelectorNode → List Sel → List ℕ → Type 0
AreMembersAt nodes ss ks = AreBelow (length nodes) ks × (map (at (places_of nodes)) ks ≡ map pattern_of ss)
