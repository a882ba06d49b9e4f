-- What the tokens of JSON say, as far as they were read.
use Rattle.std.specs.Prelude.{◌≡◌, ◌<◌, ℕ, List, length, Some}
use Rattle.json.specs.Token.{Token}
use Rattle.json.specs.Json.{Json, Items, Members, value, items, members}
use Rattle.ix_cbor.specs.Data.{Data}
use Rattle.ix_selector_json.specs.Saying.{Says, ItemsSay, EntriesSay}

-- the tokens begin with a value that says the data, and the rest stands after it
pub record SaysNext (depth : ℕ) (tokens rest : List Token) (d : Data) : Type 0 where
  pub first : Json
  pub read : value depth tokens ≡ Some (first, rest)
  pub says : Says first d

-- so it is of the items of an array up to its end
pub record ItemsSayNext (depth : ℕ) (tokens rest : List Token) (ds : List Data) : Type 0 where
  pub first : Items
  pub read : items (value depth) (length tokens) tokens ≡ Some (first, rest)
  pub say : ItemsSay first ds

-- and of the members of an object, whose end was read too
pub record EntriesSayNext (depth : ℕ) (tokens rest : List Token) (es : List (List ℕ × Data)) : Type 0 where
  pub first : Members
  pub read : members (value depth) (length tokens) tokens ≡ Some (first, rest)
  pub say : EntriesSay first es
  pub shorter : length rest < length tokens
