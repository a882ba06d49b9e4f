-- The numbers of major types (RFC 8949 section 3.1).
use Rattle.std.specs.Prelude.{ℕ}
use Rattle.ix_cbor.specs.declared.major.Major.{Major}
use Rattle.ix_cbor.specs.declared.major.Major.TheVariants.{Unsigned, Negative, Bytes, Text, List, Map, Tag, Simple}

-- the major type's number
abbrev pub number_of : Major → ℕ
number_of Unsigned = 0
number_of Negative = 1
number_of Bytes = 2
number_of Text = 3
number_of List = 4
number_of Map = 5
number_of Tag = 6
number_of Simple = 7
