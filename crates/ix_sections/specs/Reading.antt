-- Reading a CARv1 file: its blocks, or the first error.
use Rattle.std.specs.Prelude.{ℕ, zero, suc, ◌+◌, pos, negsuc, Bool, true, false, List, [], ◌∷◌, length, take, drop, nat_lt, ◌==◌, if◌then◌else◌, bytes_eq, codes, Option, Some, None, Result, Ok, Err}
use Rattle.ix_cid.specs.Varint.{varint_at}
use Rattle.ix_cid.specs.Cid.{cid_at}
use Rattle.ix_cid.specs.declared.fault.VarintFault.{VarintFault}
use Rattle.ix_cid.specs.declared.fault.VarintFault.TheVariants as varints
use Rattle.ix_cid.specs.declared.fault.CidFault.{CidFault}
pub use Rattle.ix_cid.specs.Results.{◌>>=◌}
use Rattle.ix_cbor.specs.Data.{Data, Items, Entries, integer, list, map, link, no_items, item, no_entries, entry}
use Rattle.ix_cbor.specs.Reading.{data_at}
use Rattle.ix_store.specs.Store.{Blocks, with_block}
use Rattle.ix_sections.specs.declared.fault.CarKind.{CarKind}
use Rattle.ix_sections.specs.declared.fault.CarKind.TheVariants.{Truncated, Varint, Header, Version, SectionCid}

-- what is wrong, and how many bytes there are from its offset to the end
pub record Fault : Type 0 where
  pub kind : CarKind
  pub left : ℕ

-- an error at the front of these bytes
abbrev pub fails : {A : Type 0} → CarKind → List ℕ → Result A Fault
fails kind at = Err (record { kind = kind; left = length at })

-- the bytes whose length was read, and the bytes after them
abbrev pub text_after : List ℕ → Result (ℕ × ℕ) VarintFault → Result (List ℕ × List ℕ) Fault
text_after b (Ok v) = if nat_lt (length b) (v.1 + v.0) then fails Truncated b else Ok (take v.0 (drop v.1 b), drop (v.1 + v.0) b)
text_after b (Err varints.Truncated) = fails Truncated b
text_after b (Err varints.TooLong) = fails Varint b
text_after b (Err varints.NotMinimal) = fails Varint b

-- the bytes whose length is at the front, and the bytes after them
abbrev pub text_at : List ℕ → Result (List ℕ × List ℕ) Fault
text_at b = text_after b (varint_at b)

-- the value of a key
abbrev pub value_at : List ℕ → Entries → Option Data
value_at key no_entries = None
value_at key (entry k d es) = if bytes_eq k key then Some d else value_at key es

-- whether each element is a link
abbrev pub are_links : Items → Bool
are_links no_items = true
are_links (item (link c) ds) = are_links ds
are_links (item other ds) = false

-- whether the value is a list of links
abbrev pub has_roots : Option Data → Bool
has_roots None = false
has_roots (Some (list ds)) = are_links ds
has_roots (Some other) = false

-- the version is tested first, then the roots
abbrev pub version_fault : Option Data → Bool → Option CarKind
version_fault (Some (integer (pos n))) roots = if n == 1 then (if roots then None else Some Header) else Some (Version (pos n))
version_fault (Some (integer (negsuc n))) roots = Some (Version (negsuc n))
version_fault other roots = Some Header

-- what is wrong with a header's data, if anything
abbrev pub header_fault : Option Data → Option CarKind
header_fault (Some (map es)) = version_fault (value_at (codes "version") es) (has_roots (value_at (codes "roots") es))
header_fault other = Some Header

-- the bytes after the header, by what is wrong with it
abbrev pub behind_header : List ℕ → List ℕ → Option CarKind → Result (List ℕ) Fault
behind_header at rest None = Ok rest
behind_header at rest (Some kind) = fails kind at

-- the bytes after the header
abbrev pub header_at : List ℕ → Result (List ℕ) Fault
header_at b = text_at b >>= (λ t. behind_header b t.1 (header_fault (data_at t.0)))

-- a CID and a block
abbrev pub pair_of : List ℕ → List ℕ → Result (List ℕ × ℕ) CidFault → Result (List ℕ × List ℕ) Fault
pair_of at section (Ok c) = Ok (c.0, drop c.1 section)
pair_of at section (Err e) = fails SectionCid at

-- the section at the front, and the bytes after it
abbrev pub section_at : List ℕ → Result ((List ℕ × List ℕ) × List ℕ) Fault
section_at b = text_at b >>= (λ t. pair_of b t.0 (cid_at t.0) >>= (λ p. Ok (p, t.1)))

-- the sections up to the end; a section takes a byte at least, so the number of bytes is a bound on their number
unfoldable pub sections_at : ℕ → Blocks → List ℕ → Result Blocks Fault
sections_at n store [] = Ok store
sections_at zero store (x ∷ b) = Ok store
sections_at (suc n) store (x ∷ b) = section_at (x ∷ b) >>= (λ s. sections_at n (with_block store s.0) s.1)

-- the blocks of the sections in the bytes after a header, the first of each CID, or the first error
abbrev pub blocks_in : List ℕ → Result Blocks Fault
blocks_in b = sections_at (length b) [] b

-- the blocks of a file, or the first error
abbrev pub blocks_of : List ℕ → Result Blocks Fault
blocks_of b = header_at b >>= (λ rest. blocks_in rest)

-- the blocks of a file's sections added to those of a store, the first of each CID; or the file's first error
abbrev pub blocks_after : Blocks → List ℕ → Result Blocks Fault
blocks_after store b = header_at b >>= (λ rest. sections_at (length rest) store rest)
