-- The words for the errors of CIDs and their texts.
use Rattle.std.specs.Prelude.{ℕ, List, ◌++◌, codes}
use Rattle.std.specs.Fmt.{decimal}
use Rattle.ix_cid.specs.declared.fault.CidFault.{CidFault}
use Rattle.ix_cid.specs.declared.fault.CidFault.TheVariants.{Truncated, Varint, Version, Memory, Multibase, Base32, Rest}

-- the words for an error, in ASCII
abbrev pub fault_words : CidFault → List ℕ
fault_words Truncated = codes "truncated"
fault_words Varint = codes "varint"
fault_words (Version n) = codes "version " ++ decimal n
fault_words Memory = codes "memory"
fault_words Multibase = codes "multibase"
fault_words Base32 = codes "base32"
fault_words Rest = codes "rest"
