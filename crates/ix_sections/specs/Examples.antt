-- Examples, computed.
use Rattle.std.specs.Prelude.{◌≡◌, ℕ, List, [], ◌∷◌, ◌++◌, refl, Ok, Err, length, pos, replicate, codes}
use Rattle.ix_cbor.specs.Reading.{item_at}
use Rattle.ix_sections.specs.declared.fault.CarKind.TheVariants.{Truncated, Header, Version, SectionCid}
use Rattle.ix_sections.specs.Writing.{header_of}
use Rattle.ix_sections.specs.Reading.{blocks_of, sections_at}

-- a root's header is 59 bytes with its length, that of one named twice 100, and 24 roots take a head of two bytes
abbrev pub root : List ℕ
root = 1 ∷ 0x55 ∷ 0x12 ∷ 0x20 ∷ replicate 32 7

pub header_length : length (header_of (root ∷ [])) ≡ 59
header_length = refl

pub header_of_two : length (header_of (root ∷ root ∷ [])) ≡ 100
header_of_two = refl

pub header_of_24 : length (header_of (replicate 24 root)) ≡ 1004
header_of_24 = refl

pub empty_file : blocks_of [] ≡ Err (record { kind = Truncated; left = 0 })
unfolding sections_at item_at
empty_file = refl

pub empty_header : blocks_of (0 ∷ []) ≡ Err (record { kind = Header; left = 1 })
unfolding sections_at item_at
empty_header = refl

pub version_two : blocks_of (10 ∷ 0xa1 ∷ 0x67 ∷ codes "version" ++ 2 ∷ []) ≡ Err (record { kind = Version (pos 2); left = 11 })
unfolding sections_at item_at
version_two = refl

abbrev pub no_roots : List ℕ
no_roots = 17 ∷ 0xa2 ∷ 0x65 ∷ codes "roots" ++ 0x80 ∷ 0x67 ∷ codes "version" ++ 1 ∷ []

pub no_sections : blocks_of no_roots ≡ Ok []
unfolding sections_at item_at
no_sections = refl

pub empty_section : blocks_of (no_roots ++ 0 ∷ []) ≡ Err (record { kind = SectionCid; left = 1 })
unfolding sections_at item_at
empty_section = refl

pub one_section : blocks_of (no_roots ++ 6 ∷ 1 ∷ 0x55 ∷ 0 ∷ 0 ∷ 8 ∷ 9 ∷ []) ≡ Ok ((1 ∷ 0x55 ∷ 0 ∷ 0 ∷ [], 8 ∷ 9 ∷ []) ∷ [])
unfolding sections_at item_at
one_section = refl
