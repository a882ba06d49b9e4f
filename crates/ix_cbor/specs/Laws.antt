-- What the laws say of spellings and first errors.
use Rattle.std.specs.Prelude.{◌≡◌, ◌↔◌, ◌⊎◌, ℕ, List, [], ◌++◌, Some, Ok, Err}
use Rattle.ix_cid.specs.Bytes.{AreBytes}
use Rattle.ix_cbor.specs.Data.{Data}
use Rattle.ix_cbor.specs.Spelling.{spelling_of, IsCanonical, Spells}
use Rattle.ix_cbor.specs.Reading.{Fault, decoded, data_at}
use Rattle.ix_cbor.specs.FirstFault.{FirstFault}

-- data have at most one spelling
abbrev pub HasOneSpelling : Type 0
HasOneSpelling = (b c : List ℕ) (d : Data) → Spells b d → Spells c d → b ≡ c

-- bytes spell at most one
abbrev pub SpellsNoOther : Type 0
SpellsNoOther = (b : List ℕ) (d e : Data) → Spells b d → Spells b e → d ≡ e

-- nothing follows a spelling in another
abbrev pub NoSpellingBeginsAnother : Type 0
NoSpellingBeginsAnother =
    (d e : Data) (rest : List ℕ) → IsCanonical d → IsCanonical e → spelling_of e ≡ spelling_of d ++ rest → rest ≡ []

-- and what it begins is its own
abbrev pub BeginsOnlyItself : Type 0
BeginsOnlyItself =
    (d e : Data) (rest : List ℕ) → IsCanonical d → IsCanonical e → spelling_of e ≡ spelling_of d ++ rest → d ≡ e

-- data are read exactly if the bytes spell them
abbrev pub DecodesWhatIsSpelled : Type 0
DecodesWhatIsSpelled = (b : List ℕ) (d : Data) → AreBytes b → (decoded b ≡ Ok d ↔ Spells b d)

-- the same of the option
abbrev pub FindsWhatIsSpelled : Type 0
FindsWhatIsSpelled = (b : List ℕ) (d : Data) → AreBytes b → (data_at b ≡ Some d ↔ Spells b d)

-- an error is returned exactly if it is the first one
abbrev pub FailsAtFirstFault : Type 0
FailsAtFirstFault = (b : List ℕ) (f : Fault) → AreBytes b → (decoded b ≡ Err f ↔ FirstFault b f)

-- no two errors are the first one
abbrev pub HasOneFirstFault : Type 0
HasOneFirstFault = (b : List ℕ) (f g : Fault) → FirstFault b f → FirstFault b g → f ≡ g

-- bytes that spell data have no error
abbrev pub NoFaultIfSpelled : Type 0
NoFaultIfSpelled = (b : List ℕ) (d : Data) (f : Fault) → Spells b d → ¬ FirstFault b f

-- bytes spell data or have a first error
abbrev pub IsSpelledOrFaulty : Type 0
IsSpelledOrFaulty = (b : List ℕ) → AreBytes b → ((d : Data) × Spells b d) ⊎ ((f : Fault) × FirstFault b f)

-- what is spelled is read again
abbrev pub DecodesItsSpelling : Type 0
DecodesItsSpelling = (d : Data) → IsCanonical d → decoded (spelling_of d) ≡ Ok d
