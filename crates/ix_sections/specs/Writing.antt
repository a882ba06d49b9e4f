-- How a CARv1 file is written: a header with the roots, and sections of a CID and a block, each with its length before it.
use Rattle.std.specs.Prelude.{ℕ, pos, List, [], ◌∷◌, ◌++◌, length, Option, Some, None, codes}
use Rattle.ix_cid.specs.Varint.{varint_of}
use Rattle.ix_cbor.specs.Data.{Data, Items, integer, list, map, link, no_items, item, no_entries, entry}
use Rattle.ix_cbor.specs.Spelling.{spelling_of}

-- bytes with their length before them
abbrev pub with_length : List ℕ → List ℕ
with_length text = varint_of (length text) ++ text

-- links to these CIDs
abbrev pub links_to : List (List ℕ) → Items
links_to [] = no_items
links_to (c ∷ cs) = item (link c) (links_to cs)

-- the map of a header
abbrev pub header_data : List (List ℕ) → Data
header_data roots = map (entry (codes "roots") (list (links_to roots)) (entry (codes "version") (integer (pos 1)) no_entries))

-- the header, with its length before it
abbrev pub header_of : List (List ℕ) → List ℕ
header_of roots = with_length (spelling_of (header_data roots))

-- a section, or nothing if the store has no block
abbrev pub section_with : List ℕ → Option (List ℕ) → List ℕ
section_with c None = []
section_with c (Some block) = with_length (c ++ block)
