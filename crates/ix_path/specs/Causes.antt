-- Why the bytes that a CID names are malformed.
use Rattle.std.specs.Prelude.{◌≡◌, ◌≢◌, ℕ, ◌-◌, ◌≤◌, Bool, true, false, List, length, Option, Some, None, Ok, codes}
use Rattle.ix_cbor.specs.declared.fault.CborFault.{CborFault}
use Rattle.ix_cbor.specs.declared.fault.CborKind.{CborKind}
use Rattle.ix_cbor.specs.declared.fault.CborKind.TheVariants as kinds
use Rattle.ix_cbor.specs.FirstFault.{FirstFault}
use Rattle.ix_cbor.specs.Fronts.{judged}
use Rattle.ix_store.specs.Store.{Blocks, bytes_of}
use Rattle.ix_verdict.specs.declared.verdict.Verdict.{Verdict}
use Rattle.ix_verdict.specs.declared.verdict.Verdict.TheVariants.{Codec, Hash, Missing, Damaged, Malformed, Sound, Inline}
use Rattle.ix_store.specs.Verdict.{verdict_of}

-- whether a verdict is by the bytes that a CID names
abbrev pub goes_by_bytes : Verdict → Bool
goes_by_bytes Codec = false
goes_by_bytes Hash = false
goes_by_bytes Missing = false
goes_by_bytes Damaged = true
goes_by_bytes Malformed = true
goes_by_bytes Sound = true
goes_by_bytes Inline = true

-- the error is the first one of these bytes
abbrev pub IsFirstIn : List ℕ → CborFault → Type 0
IsFirstIn b fault = (fault.place ≤ length b) × FirstFault b (record { kind = fault.kind; left = length b - fault.place })

-- the first error of bytes, or none of a block
abbrev pub IsFaultIn : List ℕ → Option CborFault → Type 0
IsFaultIn b None = judged b ≡ Ok tt
IsFaultIn b (Some fault) = IsFirstIn b fault

-- the first error of the bytes that a CID names, whose verdict is Malformed, or none of another verdict
abbrev pub IsWhyMalformed : Blocks → List ℕ → Option CborFault → Type 0
IsWhyMalformed store c None = verdict_of store c ≢ Malformed
IsWhyMalformed store c (Some fault) = (verdict_of store c ≡ Malformed) × ((b : List ℕ) × (bytes_of store c ≡ Some b) × IsFirstIn b fault)

-- what is wrong with bytes, in some words
abbrev pub cause_word : CborKind → List ℕ
cause_word kinds.Truncated = codes "truncated"
cause_word kinds.NotShortest = codes "not shortest"
cause_word kinds.Indefinite = codes "indefinite length"
cause_word kinds.Tag = codes "tag"
cause_word kinds.Link = codes "link"
cause_word kinds.Simple = codes "simple value"
cause_word kinds.Float = codes "float"
cause_word kinds.KeyKind = codes "key kind"
cause_word kinds.KeyOrder = codes "key order"
cause_word kinds.Rest = codes "bytes after the item"
cause_word kinds.Nesting = codes "nesting"
cause_word kinds.Memory = codes "memory"
