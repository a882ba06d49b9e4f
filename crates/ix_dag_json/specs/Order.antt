-- The order of a map's entries in DAG-JSON: by the bytes of their keys. DAG-CBOR has shorter keys first.
use Rattle.std.specs.Prelude.{◌≡◌, ℕ, List, [], ◌∷◌, IsPermutation}
use Rattle.std.specs.Ordering.{nat_cmp}
use Rattle.std.specs.Cmp.Lexicographic.{slice_cmp}
use Rattle.std.specs.List.Sorted.{IsSortedByKey}
use Rattle.ix_cbor.specs.Data.{Data, Items, Entries, null, boolean, integer, float, bytes, text, list, map, link, no_items, item, no_entries, entry, items_of, entries_of}

-- the entries rise by the bytes of their keys
abbrev pub Rise : List (List ℕ × Data) → Type 0
Rise es = IsSortedByKey (λ e. e.0) (slice_cmp nat_cmp) es

abbrev mutual
  -- the same data, the entries of each map by the bytes of their keys
  pub Orders : Data → Data → Type 0
  Orders null d = d ≡ null
  Orders (boolean b) d = d ≡ boolean b
  Orders (integer n) d = d ≡ integer n
  Orders (float bits) d = d ≡ float bits
  Orders (bytes b) d = d ≡ bytes b
  Orders (text t) d = d ≡ text t
  Orders (list ds) d = (ordered : List Data) × ItemsOrder ds ordered × (d ≡ list (items_of ordered))
  Orders (map es) d =
      (sorted : List (List ℕ × Data)) × (ordered : List (List ℕ × Data)) × EntriesOrder es ordered × IsPermutation ordered sorted × Rise sorted
      × (d ≡ map (entries_of sorted))
  Orders (link c) d = d ≡ link c

  -- each element in its place
  pub ItemsOrder : Items → List Data → Type 0
  ItemsOrder no_items ds = ds ≡ []
  ItemsOrder (item x xs) ds = (d : Data) × (more : List Data) × Orders x d × ItemsOrder xs more × (ds ≡ d ∷ more)

  -- each value in its place
  pub EntriesOrder : Entries → List (List ℕ × Data) → Type 0
  EntriesOrder no_entries es = es ≡ []
  EntriesOrder (entry k x xs) es = (d : Data) × (more : List (List ℕ × Data)) × Orders x d × EntriesOrder xs more × (es ≡ (k, d) ∷ more)

-- the entries are those of a map, each value in order, by the bytes of their keys
abbrev pub MapOrders : Entries → List (List ℕ × Data) → Type 0
MapOrders es sorted = (ordered : List (List ℕ × Data)) × EntriesOrder es ordered × IsPermutation ordered sorted × Rise sorted
