-- How the places of a selector are numbered: those inside a selector one after another, and itself after them.
use Rattle.std.specs.Prelude.{◌≡◌, ℕ, ◌+◌, ◌<◌, ◌≤◌, List, [], ◌∷◌, map, get_or, length}
use Rattle.std.specs.Global.{Vec}
use Rattle.ix_selector.specs.declared.selector_node.SelectorNode.{SelectorNode}
use Rattle.ix_selector.specs.declared.selector_node.SelectorNode.TheVariants.{Matcher, All, Fields, Index, Range, Recursive, Union, Edge}
use Rattle.ix_selector.specs.Pattern.{Pattern, IsSelector}
use Rattle.ix_selector.specs.Places.{at, places_of, AreNodes, AreNamedOnce, IsNumber, IsFreeFrom}
use Rattle.ix_selector.specs.Grown.{Grows}
use Rattle.ix_selector.specs.Behind.{inside_of}
use Rattle.ix_selector.specs.Ordered.{IsOrdered}

-- the number of a named place
abbrev pub number_of : Vec ℕ × ℕ → ℕ
number_of f = f.1

-- the places that a node names
abbrev pub numbers_of : SelectorNode → List ℕ
numbers_of Matcher = []
numbers_of (All k) = k ∷ []
numbers_of (Fields names) = map number_of names.items
numbers_of (Index i k) = k ∷ []
numbers_of (Range i j k) = k ∷ []
numbers_of (Recursive limit k) = k ∷ []
numbers_of (Union ks) = ks.items
numbers_of Edge = []

-- the selectors at these places, and all that is inside them, are the places from m, included, to n, excluded, in order
abbrev pub AreRow : List Pattern → ℕ → List ℕ → ℕ → Type 0
AreRow places m [] n = m ≡ n
AreRow places m (k ∷ ks) n = (k ≡ m + inside_of (at places k)) × AreRow places (k + 1) ks n

-- what is inside the node at place n is right before it
pub record IsLaid (places : List Pattern) (n : ℕ) (x : SelectorNode) : Type 0 where
  pub first : ℕ
  pub row : AreRow places first (numbers_of x) n

-- so it is at each place from m on
pub record AreLaidFrom (m : ℕ) (nodes : List SelectorNode) : Type 0 where
  pub laid : (n : ℕ) (x : SelectorNode) → m ≤ n → n < length nodes → x ≡ get_or nodes n x → IsLaid (places_of nodes) n x

-- nodes were appended, and what is inside each of them is right before it
abbrev pub GrowsInOrder : List SelectorNode → List SelectorNode → Type 0
GrowsInOrder old new = Grows old new × AreLaidFrom (length old) new

-- what was appended, in order, are the selectors at these places, which no node names yet, and all that is inside them
pub record GrowsBy (old new : Vec SelectorNode) (numbers : List ℕ) : Type 0 where
  pub grows : GrowsInOrder old.items new.items
  pub free : (k : ℕ) → IsNumber numbers k → IsFreeFrom (length old.items) new.items k
  pub row : AreRow (places_of new.items) (length old.items) numbers (length new.items)

-- the number of a selector whose places are appended to these
abbrev pub IsNumberAfter : List SelectorNode → Pattern → ℕ → Type 0
IsNumberAfter nodes s n = n ≡ length nodes + inside_of s

-- each node names places before it alone, no two name one place, and what is inside a node is right before it
pub record IsTable (nodes : List SelectorNode) : Type 0 where
  pub placed : AreNodes 0 nodes
  pub once : AreNamedOnce nodes
  pub laid : AreLaidFrom 0 nodes

-- these are the places of a selector, and the last of them is its own
abbrev pub IsTableOf : List SelectorNode → ℕ → Type 0
IsTableOf nodes root =
    IsSelector (at (places_of nodes) root) × IsTable nodes × (root + 1 ≡ length nodes)
    × (root ≡ inside_of (at (places_of nodes) root))

-- the last of these places is that of the selector
abbrev pub IsRootOf : List SelectorNode → Pattern → ℕ → Type 0
IsRootOf nodes s root = (root + 1 ≡ length nodes) × (at (places_of nodes) root ≡ s)

-- a selector that obeys the rules on edges, and in which names rise
pub record IsSound (s : Pattern) : Type 0 where
  pub selector : IsSelector s
  pub ordered : IsOrdered s
