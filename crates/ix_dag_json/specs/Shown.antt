-- The tokens of data in DAG-JSON (IPLD).
use Rattle.std.specs.Prelude.{◌≡◌, ◌≢◌, ℕ, ℤ, List, [], ◌∷◌, ◌++◌, Some, codes, from_bits}
use Rattle.std.specs.Fmt.{signed_decimal}
use Rattle.std.specs.Float.{binary64}
use Rattle.std.specs.Str.{IsUtf8}
use Rattle.ryu.specs.Parse.{parse_float}
use Rattle.ryu.specs.Plain.{IsPlainNumber}
use Rattle.base64.specs.GeneralPurpose.{encode_of}
use Rattle.base64.specs.Engines.{standard_no_pad}
use Rattle.json.specs.Token.{Token}
use Rattle.ix_cid.specs.Cid.{version_of}
use Rattle.ix_cid.specs.CidText.{text_of}
use Rattle.ix_cbor.specs.Data.{Data, Items, Entries, null, boolean, integer, float, bytes, text, list, map, link, no_items, item, no_entries, entry}
use Rattle.ix_dag_json.specs.declared.output.Output.{Output}
use Rattle.ix_dag_json.specs.Written.{Adds}

-- the key of links and bytes, which no map may have
abbrev pub reserved : List ℕ
reserved = codes "/"

-- an integer in decimal
abbrev pub ShowsInteger : ℤ → List Token → Type 0
ShowsInteger n ts = ts ≡ Token.number (signed_decimal n) ∷ []

-- a float as a number with a fraction or an exponent, which reads as the float with these bits
abbrev pub ShowsFloat : ℕ → List Token → Type 0
ShowsFloat bits ts =
    (s : List ℕ) × IsPlainNumber s × (parse_float binary64 s ≡ Some (from_bits binary64 bits)) × (ts ≡ Token.number s ∷ [])

-- `{"/":{"bytes":..}}` with the base64 of the bytes, without padding
abbrev pub ShowsBytes : List ℕ → List Token → Type 0
ShowsBytes b ts =
    ts ≡ Token.begin_object ∷ Token.key reserved ∷ Token.begin_object ∷ Token.key (codes "bytes")
    ∷ Token.string (encode_of standard_no_pad b) ∷ Token.end_object ∷ Token.end_object ∷ []

-- the text of a CIDv1; that of a CIDv0 is left open
abbrev pub IsLinkText : List ℕ → List ℕ → Type 0
IsLinkText c s = version_of c ≢ 0 → s ≡ text_of c

-- `{"/":..}` with the text of the CID
abbrev pub ShowsLink : List ℕ → List Token → Type 0
ShowsLink c ts =
    (s : List ℕ) × IsLinkText c s × (ts ≡ Token.begin_object ∷ Token.key reserved ∷ Token.string s ∷ Token.end_object ∷ [])

-- the key of a map that DAG-JSON has
pub record IsKey (k : List ℕ) : Type 0 where
  pub utf8 : IsUtf8 k
  pub free : k ≢ reserved

abbrev mutual
  pub Shows : Data → List Token → Type 0
  Shows null ts = ts ≡ Token.null ∷ []
  Shows (boolean b) ts = ts ≡ Token.boolean b ∷ []
  Shows (integer n) ts = ShowsInteger n ts
  Shows (float bits) ts = ShowsFloat bits ts
  Shows (bytes b) ts = ShowsBytes b ts
  Shows (text t) ts = IsUtf8 t × (ts ≡ Token.string t ∷ [])
  Shows (list ds) ts = (inner : List Token) × ItemsShow ds inner × (ts ≡ Token.begin_array ∷ inner)
  Shows (map es) ts = (inner : List Token) × EntriesShow es inner × (ts ≡ Token.begin_object ∷ inner)
  Shows (link c) ts = ShowsLink c ts

  -- with the closing bracket
  pub ItemsShow : Items → List Token → Type 0
  ItemsShow no_items ts = ts ≡ Token.end_array ∷ []
  ItemsShow (item d ds) ts = (first : List Token) × (more : List Token) × Shows d first × ItemsShow ds more × (ts ≡ first ++ more)

  pub EntriesShow : Entries → List Token → Type 0
  EntriesShow no_entries ts = ts ≡ Token.end_object ∷ []
  EntriesShow (entry k d es) ts =
      (first : List Token) × (more : List Token) × IsKey k × Shows d first × EntriesShow es more × (ts ≡ Token.key k ∷ (first ++ more))

-- tokens of this kind were added
abbrev pub Appends : (List Token → Type 0) → Output → Output → Type 0
Appends Kind old new = (ts : List Token) × Kind ts × Adds old new ts

-- the text is that of the key
pub record IsKeyText (k t : List ℕ) : Type 0 where
  pub same : t ≡ k
  pub key : IsKey k
