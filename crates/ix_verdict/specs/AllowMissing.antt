-- Which links may lead to blocks that aren't there, by their codecs.
use Rattle.std.specs.Prelude.{ℕ, Bool, true, false, not, ◌&&◌, ◌||◌, ◌==◌, List, codes, bytes_eq, Option, Some, None, Result, Ok, Err}
use Rattle.std.specs.List.{list_any, find, slice_split}
use Rattle.ix_cid.specs.Cid.{codec_of}
use Rattle.ix_verdict.specs.declared.allow_missing.AllowMissing.{AllowMissing}

-- no link
abbrev pub allow_none : AllowMissing
allow_none = record { raw = false; dag_cbor = false }

-- every link
abbrev pub allow_all : AllowMissing
allow_all = record { raw = true; dag_cbor = true }

-- `all` names both codecs
abbrev pub names_raw : List ℕ → Bool
names_raw word = bytes_eq word (codes "raw") || bytes_eq word (codes "all")

abbrev pub names_dag_cbor : List ℕ → Bool
names_dag_cbor word = bytes_eq word (codes "dag-cbor") || bytes_eq word (codes "all")

abbrev pub names_codec : List ℕ → Bool
names_codec word = names_raw word || names_dag_cbor word

-- whether a link with this codec may
abbrev pub allows : AllowMissing → ℕ → Bool
allows which codec = (which.raw && codec == 0x55) || (which.dag_cbor && codec == 0x71)

-- the same by the codec of its CID
abbrev pub allows_cid : AllowMissing → List ℕ → Bool
allows_cid which c = allows which (codec_of c)

-- the same of a job with these roots: a root may not be missing
abbrev pub may_lack : AllowMissing → List (List ℕ) → List ℕ → Bool
may_lack allowed roots c = allows_cid allowed c && not (list_any (λ root. bytes_eq root c) roots)

-- the codecs that the words between commas of a text name together, or the first word that names none
abbrev pub allowed_unless : Option (List ℕ) → List (List ℕ) → Result AllowMissing (List ℕ)
allowed_unless None words = Ok (record { raw = list_any names_raw words; dag_cbor = list_any names_dag_cbor words })
allowed_unless (Some word) words = Err word

abbrev pub allowed_in : List ℕ → Result AllowMissing (List ℕ)
allowed_in text = allowed_unless (find (λ word. not (names_codec word)) (slice_split (λ b. b == 44) text)) (slice_split (λ b. b == 44) text)
