-- What is at bytes inside a block that is read: data, and the elements of a list or entries of a map.
use Rattle.std.specs.Prelude.{◌≡◌, ℕ, ℤ, Bool, true, false, List, [], ◌∷◌, Option, Some, None, Ok}
use Rattle.std.specs.Borrow.{Bor}
use Rattle.ix_cbor.specs.Data.{Data, Items, Entries, integer, list, map, link}
use Rattle.ix_cbor.specs.Reading.{Own, leaf, list_of, map_of, item_at, items_at, entries_at}

-- the bytes begin with an item that is the data, in which lists and maps nest at most n deep
abbrev pub StandsAt : ℕ → List ℕ → Data → Type 0
StandsAt n b d = (rest : List ℕ) × (item_at n b ≡ Ok (d, rest))

-- the bytes begin with so many entries of a block's map
abbrev pub EntriesAreAt : ℕ → List ℕ → Entries → Type 0
EntriesAreAt count b es = (rest : List ℕ) × (entries_at (item_at 511) None count b ≡ Ok (es, rest))

-- the bytes begin with so many elements of a list in a block's map
abbrev pub MembersAreAt : ℕ → List ℕ → Items → Type 0
MembersAreAt count b ds = (rest : List ℕ) × (items_at (item_at 510) count b ≡ Ok (ds, rest))

-- the value in a block's map is at the bytes, or there is neither
abbrev pub ValueIsAt : Option (Bor (List ℕ)) → Option Data → Type 0
ValueIsAt (Some b) (Some d) = StandsAt 511 b.now d
ValueIsAt (Some b) None = ⊥
ValueIsAt None (Some d) = ⊥
ValueIsAt None None = Unit {0}

-- the count of a map and the bytes of its entries, or none for data that is not a map
abbrev pub IsMapAt : Option (ℕ × Bor (List ℕ)) → Data → Type 0
IsMapAt (Some m) (map es) = EntriesAreAt m.0 m.1.now es
IsMapAt (Some m) other = ⊥
IsMapAt None (map es) = ⊥
IsMapAt None other = Unit {0}

-- the same of a list
abbrev pub IsListAt : Option (ℕ × Bor (List ℕ)) → Data → Type 0
IsListAt (Some m) (list ds) = MembersAreAt m.0 m.1.now ds
IsListAt (Some m) other = ⊥
IsListAt None (list ds) = ⊥
IsListAt None other = Unit {0}

-- the integer that a value is
abbrev pub integer_in : Option Data → Option ℤ
integer_in (Some (integer n)) = Some n
integer_in other = None

-- the same by an item's own head, and the counts of a map and a list
abbrev pub own_integer : Own → Option ℤ
own_integer (leaf d) = integer_in (Some d)
own_integer other = None

-- the count of a map, by an item's own head
abbrev pub own_map : Own → Option ℕ
own_map (map_of n) = Some n
own_map other = None

-- the count of a list
abbrev pub own_list : Own → Option ℕ
own_list (list_of n) = Some n
own_list other = None

-- whether it is a link
abbrev pub own_is_link : Own → Bool
own_is_link (leaf (link c)) = true
own_is_link other = false

-- the CID of a link, and none of another item
abbrev pub own_links : Own → List (List ℕ)
own_links (leaf (link c)) = c ∷ []
own_links other = []
