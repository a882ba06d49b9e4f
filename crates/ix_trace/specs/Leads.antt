-- Where the steps of a path lead: within data, and from block to block.
use Rattle.std.specs.Prelude.{◌≡◌, ℕ, List, [], ◌∷◌, ◌++◌, Some}
use Rattle.ix_cbor.specs.Data.{Data, Items, Entries, list, map, link, entry}
use Rattle.ix_selector.specs.Enters.{Step, key, nth, Path}
use Rattle.ix_store.specs.Store.{Blocks, value_of}
use Rattle.ix_path.specs.Children.{nth_item}

-- a map has this key with this value
pub data HasEntry : List ℕ → Data → Entries → Type 0 where
  first : {k : List ℕ} {d : Data} {es : Entries} → HasEntry k d (entry k d es)
  later : {k l : List ℕ} {d e : Data} {es : Entries} → HasEntry k d es → HasEntry k d (entry l e es)

-- the step goes from a node to this child: from a list to the element at a position, from a map to the value of a key
pub data HasChild : Data → Step → Data → Type 0 where
  element : {ds : Items} {n : ℕ} {d : Data} → nth_item n ds ≡ Some d → HasChild (list ds) (nth n) d
  value : {es : Entries} {k : List ℕ} {d : Data} → HasEntry k d es → HasChild (map es) (key k) d

-- the steps lead from a node to another one of the same block
abbrev pub LeadsWithin : Data → Path → Data → Type 0
LeadsWithin d [] e = d ≡ e
LeadsWithin d (t ∷ p) e = (c : Data) × HasChild d t c × LeadsWithin c p e

-- The path leads from a CID to another one: no steps to itself, and on from a CID by steps in its data that lead to a link.
pub data Leads : Blocks → List ℕ → Path → List ℕ → Type 0 where
  here : {store : Blocks} {c : List ℕ} → Leads store c [] c
  onward : {store : Blocks} {root b : List ℕ} (c : List ℕ) (p q : Path) (d : Data) → Leads store root p c → value_of store c ≡ Some d → LeadsWithin d q (link b)
      → Leads store root (p ++ q) b
