-- The words for what is wrong with a CARv1 file.
use Rattle.std.specs.Prelude.{ℕ, List, ◌++◌, codes}
use Rattle.std.specs.Fmt.{signed_decimal}
use Rattle.ix_sections.specs.declared.fault.CarKind.{CarKind}
use Rattle.ix_sections.specs.declared.fault.CarKind.TheVariants.{Truncated, Varint, Header, Version, SectionCid, Memory}

-- the words for an error, in ASCII
abbrev pub fault_words : CarKind → List ℕ
fault_words Truncated = codes "truncated"
fault_words Varint = codes "varint"
fault_words Header = codes "header"
fault_words (Version n) = codes "version " ++ signed_decimal n
fault_words SectionCid = codes "cid"
fault_words Memory = codes "memory"
