-- The sections of a CARv1 file, each in place, and the roots that its header names.
use Rattle.std.specs.Prelude.{ℕ, zero, suc, ◌-◌, List, [], ◌∷◌, ◌++◌, length, codes, Option, Some, None, Result, Ok, Err}
use Rattle.ix_cbor.specs.Data.{Data, Items, list, map, link, no_items, item}
use Rattle.ix_cbor.specs.Reading.{data_at}
use Rattle.ix_store.specs.Store.{Blocks, with_block}
use Rattle.ix_sections.specs.Reading.{Fault, ◌>>=◌, text_at, value_at, section_at, header_at}

-- a section: the offset of its length, its CID and its block
pub record SectionMeaning : Type 0 where
  pub place : ℕ
  pub cid : List ℕ
  pub block : List ℕ

-- the CID and the block at an offset
abbrev pub placed : ℕ → List ℕ × List ℕ → SectionMeaning
placed place p = record { place = place; cid = p.0; block = p.1 }

-- The sections up to the end of a file of so many bytes, after those so far. A section takes a byte at least, so the number of
-- bytes is a bound on their number.
unfoldable pub sections_after : ℕ → ℕ → List SectionMeaning → List ℕ → Result (List SectionMeaning) Fault
sections_after size n so_far [] = Ok so_far
sections_after size zero so_far (x ∷ b) = Ok so_far
sections_after size (suc n) so_far (x ∷ b) = section_at (x ∷ b) >>= (λ s. sections_after size n (so_far ++ placed (size - length (x ∷ b)) s.0 ∷ []) s.1)

-- the sections in the bytes that end a file of so many, or the first error
abbrev pub sections_in : ℕ → List ℕ → Result (List SectionMeaning) Fault
sections_in size b = sections_after size (length b) [] b

-- the sections of a file, or the first error
abbrev pub section_list : List ℕ → Result (List SectionMeaning) Fault
section_list b = header_at b >>= (λ rest. sections_in (length b) rest)

-- the CIDs of the links in a list
abbrev pub links_in : Items → List (List ℕ)
links_in no_items = []
links_in (item (link c) ds) = c ∷ links_in ds
links_in (item other ds) = links_in ds

-- the CIDs of the links, if the value is a list
abbrev pub links_of : Option Data → List (List ℕ)
links_of None = []
links_of (Some (list ds)) = links_in ds
links_of (Some other) = []

-- the roots that a header's data names, in their order
abbrev pub roots_in : Option Data → List (List ℕ)
roots_in None = []
roots_in (Some (map es)) = links_of (value_at (codes "roots") es)
roots_in (Some other) = []

-- the roots that the header's bytes name
abbrev pub roots_after : Result (List ℕ × List ℕ) Fault → List (List ℕ)
roots_after (Ok t) = roots_in (data_at t.0)
roots_after (Err e) = []

-- the roots of a file; none if it has no header
abbrev pub roots_of : List ℕ → List (List ℕ)
roots_of b = roots_after (text_at b)

-- a store with the blocks of sections, the first of each CID
abbrev pub with_sections : Blocks → List SectionMeaning → Blocks
with_sections store [] = store
with_sections store (s ∷ ss) = with_sections (with_block store (s.cid, s.block)) ss

-- a store with the blocks of a file's sections too, the first of each CID, or the file's error
abbrev pub with_first_of_each : Blocks → Result (List SectionMeaning) Fault → Result Blocks Fault
with_first_of_each store (Ok sections) = Ok (with_sections store sections)
with_first_of_each store (Err e) = Err e

-- the blocks of a file's sections, or its error
abbrev pub first_of_each : Result (List SectionMeaning) Fault → Result Blocks Fault
first_of_each sections = with_first_of_each [] sections
