-- Which data a JSON value says, whatever the order of its keys, and when it says none that a block has.
use Rattle.std.specs.Prelude.{◌≡◌, ◌⊎◌, ℕ, ℤ, List, [], ◌∷◌, length, IsPermutation, Option, Some, None, option_and_then}
use Rattle.std.specs.List.{AllAdjacentBelow}
use Rattle.std.specs.Global.{Vec}
use Rattle.std.specs.declared.cmp.Ordering.TheVariants.{Less}
use Rattle.std.specs.Str.{IsUtf8}
use Rattle.std.specs.Str.Lossy.{utf8_valid_len}
use Rattle.std.specs.Str.Parse.{IsNumeral, without_leading_sign, signed_digits_value}
use Rattle.json.specs.Json.{Json, if_last, value}
use Rattle.json.specs.Json as json_model
use Rattle.json.specs.Lex.{tokens}
use Rattle.json.specs.Strict.{keys, AreDistinct, HasUniqueKeys, ItemsHaveUniqueKeys, MembersHaveUniqueKeys}
use Rattle.json.specs.Tree.{depth, items_depth, members_depth}
use Rattle.ix_cbor.specs.Data.{Data, Items, Entries, items_of, entries_of}
use Rattle.ix_cbor.specs.Data as data_model
use Rattle.ix_cbor.specs.declared.node.Node.{Node}
use Rattle.ix_cbor.specs.Spelling.{IsSpellable, key_cmp}
use Rattle.ix_cbor.specs.Fits.{Fits, ItemsFit, EntriesFit}
use Rattle.ix_selector_json.specs.declared.fault.NotationFault.{NotationFault}
use Rattle.ix_selector_json.specs.declared.fault.NotationFault.TheVariants.{Json as NoJson, Repeated, Number, Hex, Block, Selector, Name, Memory}

-- the value that a text is, where arrays and objects nest at most 512 deep
abbrev pub json_of : List ℕ → Option Json
json_of text = option_and_then (λ p. if_last p.0 p.1) (value 512 (tokens text))

-- decimal digits alone after a sign or none, and the integer that they write
pub record IsInteger (digits : List ℕ) (n : ℤ) : Type 0 where
  pub numeral : IsNumeral 10 (without_leading_sign digits)
  pub same : n ≡ signed_digits_value 10 digits

abbrev mutual
  -- null, truth values, integers, texts, arrays and objects stand for themselves, an object's keys in any order
  pub Says : Json → Data → Type 0
  Says json_model.null d = d ≡ data_model.null
  Says (json_model.boolean b) d = d ≡ data_model.boolean b
  Says (json_model.number digits) d = (n : ℤ) × IsInteger digits n × (d ≡ data_model.integer n)
  Says (json_model.string s) d = d ≡ data_model.text s
  Says (json_model.array js) d = (ds : List Data) × ItemsSay js ds × (d ≡ data_model.list (items_of ds))
  Says (json_model.object ms) d =
      (es : List (List ℕ × Data)) × (said : List (List ℕ × Data)) × MembersSay ms said × IsPermutation said es × (d ≡ data_model.map (entries_of es))

  -- each item says the data at its place
  pub ItemsSay : json_model.Items → List Data → Type 0
  ItemsSay json_model.no_items ds = ds ≡ []
  ItemsSay (json_model.item j js) ds = (d : Data) × (more : List Data) × Says j d × ItemsSay js more × (ds ≡ d ∷ more)

  -- each member says its key with what its value says, at its place
  pub MembersSay : json_model.Members → List (List ℕ × Data) → Type 0
  MembersSay json_model.no_members es = es ≡ []
  MembersSay (json_model.member k j ms) es =
      (d : Data) × (more : List (List ℕ × Data)) × Says j d × MembersSay ms more × (es ≡ (k, d) ∷ more)

-- the entries are what the members say, in any order
abbrev pub EntriesSay : json_model.Members → List (List ℕ × Data) → Type 0
EntriesSay ms es = (said : List (List ℕ × Data)) × MembersSay ms said × IsPermutation said es

abbrev mutual
  -- each number is an integer in decimal digits alone, from -2^64 to 2^64 - 1
  pub AreIntegers : Json → Type 0
  AreIntegers json_model.null = Unit {0}
  AreIntegers (json_model.boolean b) = Unit {0}
  AreIntegers (json_model.number digits) = (n : ℤ) × IsInteger digits n × IsSpellable (data_model.integer n)
  AreIntegers (json_model.string s) = Unit {0}
  AreIntegers (json_model.array js) = ItemsAreIntegers js
  AreIntegers (json_model.object ms) = MembersAreIntegers ms

  pub ItemsAreIntegers : json_model.Items → Type 0
  ItemsAreIntegers json_model.no_items = Unit {0}
  ItemsAreIntegers (json_model.item j js) = AreIntegers j × ItemsAreIntegers js

  -- of the members' values
  pub MembersAreIntegers : json_model.Members → Type 0
  MembersAreIntegers json_model.no_members = Unit {0}
  MembersAreIntegers (json_model.member k j ms) = AreIntegers j × MembersAreIntegers ms

-- the text is UTF-8 and that JSON value
pub record IsValueOf (text : List ℕ) (j : Json) : Type 0 where
  pub utf8 : IsUtf8 text
  pub read : json_of text ≡ Some j

-- the text is a JSON value that says the data
pub record IsJsonOf (text : List ℕ) (d : Data) : Type 0 where
  pub json_value : Json
  pub read : IsValueOf text json_value
  pub says : Says json_value d

-- the text is a JSON value that isn't so
pub record IsOtherJson (text : List ℕ) (IsSo : Json → Type 0) : Type 0 where
  pub json_value : Json
  pub read : IsValueOf text json_value
  pub other : ¬ IsSo json_value

-- the text is UTF-8 up to this place and no further, or it is UTF-8 and no JSON value
abbrev pub IsNoJson : List ℕ → ℕ → Type 0
IsNoJson text place = ((¬ IsUtf8 text) × (place ≡ utf8_valid_len text)) ⊎ (IsUtf8 text × (json_of text ≡ None))

-- Number comes where not all are integers, Repeated where keys are not unique, and else memory ran out
abbrev pub IsUnread : Type 0 → Type 0 → NotationFault → Type 0
IsUnread integers unique Number = ¬ integers
IsUnread integers unique Repeated = ¬ unique
IsUnread integers unique Memory = Unit {0}
IsUnread integers unique (NoJson place) = ⊥
IsUnread integers unique Hex = ⊥
IsUnread integers unique (Block fault) = ⊥
IsUnread integers unique (Selector fault) = ⊥
IsUnread integers unique Name = ⊥

-- why a value, items or members say no data
abbrev pub IsValueUnread : Json → NotationFault → Type 0
IsValueUnread j fault = IsUnread (AreIntegers j) (HasUniqueKeys j) fault

abbrev pub AreItemsUnread : json_model.Items → NotationFault → Type 0
AreItemsUnread js fault = IsUnread (ItemsAreIntegers js) (ItemsHaveUniqueKeys js) fault

abbrev pub AreMembersUnread : json_model.Members → NotationFault → Type 0
AreMembersUnread ms fault = IsUnread (MembersAreIntegers ms) (AreDistinct (keys ms) × MembersHaveUniqueKeys ms) fault

-- what a value says has a spelling, where its numbers are integers that have one; so it is of items and of members
abbrev pub ValueFits : Json → Data → Type 0
ValueFits j d = AreIntegers j → Fits (depth j) d

abbrev pub ValuesFit : json_model.Items → Items → Type 0
ValuesFit js ds = ItemsAreIntegers js → ItemsFit (items_depth js) ds

abbrev pub MembersFit : json_model.Members → Entries → Type 0
MembersFit ms es = MembersAreIntegers ms → EntriesFit (members_depth ms) None es

-- the key of an entry in the program
abbrev pub key_of : Vec ℕ × Node → List ℕ
key_of e = e.0.items

-- the same entries, each key below the next
pub record AreInOrder (entries sorted : List (Vec ℕ × Node)) : Type 0 where
  pub same : IsPermutation entries sorted
  pub rise : AllAdjacentBelow (λ a b. key_cmp (key_of a) (key_of b) ≡ Less) sorted (length sorted)
