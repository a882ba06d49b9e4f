-- What the conversions of selectors print.
use Rattle.std.specs.Prelude.{◌≡◌, ◌≢◌, ℕ, ℤ, List, [], ◌∷◌, ◌++◌, Ok, Err, IsErr}
use Rattle.std.specs.Fmt.{signed_decimal}
use Rattle.json.specs.Token.{Token}
use Rattle.json.specs.Print.{print}
use Rattle.json.specs.Strict.{HasUniqueKeys}
use Rattle.hex.specs.Hex.{encode_lower, decode_of}
use Rattle.ix_cbor.specs.Data.{Data, Items, Entries, no_items, item, no_entries, entry}
use Rattle.ix_cbor.specs.Data as data_model
use Rattle.ix_cbor.specs.Gives.{IsFirstOf}
use Rattle.ix_cbor.specs.Spelling.{IsCanonical, spelling_of, Spells}
use Rattle.ix_cbor.specs.declared.fault.CborFault.{CborFault}
use Rattle.ix_cbor.specs.declared.fault.CborKind.TheVariants as kinds
use Rattle.ix_selector.specs.Pattern.{Pattern}
use Rattle.ix_selector.specs.Reading.{selector_of}
use Rattle.ix_selector.specs.declared.fault.SelFault.{SelFault}
use Rattle.ix_selector_json.specs.Printed.{HasBadText}
use Rattle.ix_selector_json.specs.Saying.{AreIntegers, IsJsonOf, IsOtherJson, IsNoJson}
use Rattle.ix_selector_json.specs.declared.fault.NotationFault.{NotationFault}
use Rattle.ix_selector_json.specs.declared.fault.NotationFault.TheVariants.{Json, Repeated, Number, Hex, Block, Selector, Name, Memory}

-- the data stands for a selector
pub record IsSelectorOf (d : Data) : Type 0 where
  pub pattern : Pattern
  pub read : selector_of d ≡ Ok pattern

-- the text is the JSON of data that stands for a selector, and the line is the hex of its one spelling and a line end
pub record IsSelectorHex (text line : List ℕ) : Type 0 where
  pub selector_data : Data
  pub read : IsJsonOf text selector_data
  pub canonical : IsCanonical selector_data
  pub selector : IsSelectorOf selector_data
  pub printed : line ≡ encode_lower (spelling_of selector_data) ++ 10 ∷ []

-- the token of an integer
abbrev pub integer_tokens : ℤ → List Token
integer_tokens n = Token.number (signed_decimal n) ∷ []

-- The tokens of data as JSON: null, truth values, integers, texts, lists and maps stand for themselves. JSON has no
-- word for a float, a byte string and a link.
abbrev mutual
  pub tokens_of : Data → List Token
  tokens_of data_model.null = Token.null ∷ []
  tokens_of (data_model.boolean b) = Token.boolean b ∷ []
  tokens_of (data_model.integer n) = integer_tokens n
  tokens_of (data_model.float bits) = Token.bad ∷ []
  tokens_of (data_model.bytes b) = Token.bad ∷ []
  tokens_of (data_model.text t) = Token.string t ∷ []
  tokens_of (data_model.list ds) = Token.begin_array ∷ items_tokens ds
  tokens_of (data_model.map es) = Token.begin_object ∷ entries_tokens es
  tokens_of (data_model.link c) = Token.bad ∷ []

  -- with the closing bracket
  pub items_tokens : Items → List Token
  items_tokens no_items = Token.end_array ∷ []
  items_tokens (item d ds) = tokens_of d ++ items_tokens ds

  pub entries_tokens : Entries → List Token
  entries_tokens no_entries = Token.end_object ∷ []
  entries_tokens (entry k d es) = Token.key k ∷ (tokens_of d ++ entries_tokens es)

-- the text is the hex of a block that stands for a selector, and the line is its JSON and a line end
pub record IsSelectorJson (text line : List ℕ) : Type 0 where
  pub block : List ℕ
  pub selector_data : Data
  pub decoded : decode_of text ≡ Ok block
  pub spelled : Spells block selector_data
  pub selector : IsSelectorOf selector_data
  pub printed : line ≡ print (tokens_of selector_data) ++ 10 ∷ []

-- the data is rejected with this fault, or memory ran out
abbrev pub IsRefused : Data → NotationFault → Type 0
IsRefused d (Selector fault) = selector_of d ≡ Err fault
IsRefused d Memory = Unit {0}
IsRefused d (Json place) = ⊥
IsRefused d Repeated = ⊥
IsRefused d Number = ⊥
IsRefused d Hex = ⊥
IsRefused d (Block fault) = ⊥
IsRefused d Name = ⊥

-- the text is the hex of a block, and the fault is the first one of the block
pub record IsBlockRefused (text : List ℕ) (fault : CborFault) : Type 0 where
  pub block : List ℕ
  pub decoded : decode_of text ≡ Ok block
  pub first : IsFirstOf block fault
  pub kind : fault.kind ≢ kinds.Memory

-- the text is the hex of a block that spells the data
pub record IsHexOf (text : List ℕ) (d : Data) : Type 0 where
  pub block : List ℕ
  pub decoded : decode_of text ≡ Ok block
  pub spelled : Spells block d

-- the text is the hex of a block, and its data is no selector for this reason
pub record IsDataRefused (text : List ℕ) (fault : SelFault) : Type 0 where
  pub block_data : Data
  pub spelled : IsHexOf text block_data
  pub refused : selector_of block_data ≡ Err fault

-- the text is the hex of a block that stands for a selector, and a name or a label in it is not UTF-8
pub record IsNameRefused (text : List ℕ) : Type 0 where
  pub selector_data : Data
  pub spelled : IsHexOf text selector_data
  pub selector : IsSelectorOf selector_data
  pub name : HasBadText selector_data

-- why the text is not hex of a selector that JSON can represent, or memory ran out
abbrev pub IsHexRefused : List ℕ → NotationFault → Type 0
IsHexRefused text Hex = IsErr (decode_of text)
IsHexRefused text (Block fault) = IsBlockRefused text fault
IsHexRefused text (Selector fault) = IsDataRefused text fault
IsHexRefused text Name = IsNameRefused text
IsHexRefused text Memory = Unit {0}
IsHexRefused text (Json place) = ⊥
IsHexRefused text Repeated = ⊥
IsHexRefused text Number = ⊥

-- the text is a JSON value, and its data is not a selector, for this reason
pub record IsSayingRefused (text : List ℕ) (fault : SelFault) : Type 0 where
  pub said_data : Data
  pub read : IsJsonOf text said_data
  pub canonical : IsCanonical said_data
  pub refused : selector_of said_data ≡ Err fault

-- why the text is not the JSON of a selector, or memory ran out
abbrev pub IsJsonRefused : List ℕ → NotationFault → Type 0
IsJsonRefused text (Json place) = IsNoJson text place
IsJsonRefused text Repeated = IsOtherJson text HasUniqueKeys
IsJsonRefused text Number = IsOtherJson text AreIntegers
IsJsonRefused text (Selector fault) = IsSayingRefused text fault
IsJsonRefused text Memory = Unit {0}
IsJsonRefused text Hex = ⊥
IsJsonRefused text (Block fault) = ⊥
IsJsonRefused text Name = ⊥
