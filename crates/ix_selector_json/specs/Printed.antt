-- What is printed of data, and what JSON can't represent: a text that is not UTF-8, and a float, a byte string or a link.
use Rattle.std.specs.Prelude.{◌≡◌, ◌⊎◌, List, ◌++◌, Result, OnOk}
use Rattle.std.specs.Str.{IsUtf8}
use Rattle.json.specs.Token.{Token}
use Rattle.json.specs.Written.{Written}
use Rattle.ix_cbor.specs.Data.{Data, Items, Entries, no_items, item, no_entries, entry}
use Rattle.ix_cbor.specs.Data as data_model
use Rattle.ix_selector_json.specs.declared.fault.NotationFault.{NotationFault}
use Rattle.ix_selector_json.specs.declared.fault.NotationFault.TheVariants.{Json, Repeated, Number, Hex, Block, Selector, Name, Memory}

-- a writer has these tokens after those that it had, unless that fails; what was before its tokens stays
abbrev pub Pushes : {T : Type 0} → Written → Written → List Token → Result T NotationFault → Type 0
Pushes old new tokens result = OnOk result (new.tokens ≡ old.tokens ++ tokens) × (new.before ≡ old.before)

abbrev mutual
  -- some text or key of the data is not UTF-8
  pub HasBadText : Data → Type 0
  HasBadText data_model.null = ⊥
  HasBadText (data_model.boolean b) = ⊥
  HasBadText (data_model.integer n) = ⊥
  HasBadText (data_model.float bits) = ⊥
  HasBadText (data_model.bytes b) = ⊥
  HasBadText (data_model.text t) = ¬ IsUtf8 t
  HasBadText (data_model.list ds) = ItemsHaveBadText ds
  HasBadText (data_model.map es) = EntriesHaveBadText es
  HasBadText (data_model.link c) = ⊥

  pub ItemsHaveBadText : Items → Type 0
  ItemsHaveBadText no_items = ⊥
  ItemsHaveBadText (item d ds) = HasBadText d ⊎ ItemsHaveBadText ds

  pub EntriesHaveBadText : Entries → Type 0
  EntriesHaveBadText no_entries = ⊥
  EntriesHaveBadText (entry k d es) = (¬ IsUtf8 k) ⊎ (HasBadText d ⊎ EntriesHaveBadText es)

abbrev mutual
  -- some part of the data is a float, a byte string or a link
  pub HasOtherKind : Data → Type 0
  HasOtherKind data_model.null = ⊥
  HasOtherKind (data_model.boolean b) = ⊥
  HasOtherKind (data_model.integer n) = ⊥
  HasOtherKind (data_model.float bits) = Unit {0}
  HasOtherKind (data_model.bytes b) = Unit {0}
  HasOtherKind (data_model.text t) = ⊥
  HasOtherKind (data_model.list ds) = ItemsHaveOtherKind ds
  HasOtherKind (data_model.map es) = EntriesHaveOtherKind es
  HasOtherKind (data_model.link c) = Unit {0}

  pub ItemsHaveOtherKind : Items → Type 0
  ItemsHaveOtherKind no_items = ⊥
  ItemsHaveOtherKind (item d ds) = HasOtherKind d ⊎ ItemsHaveOtherKind ds

  pub EntriesHaveOtherKind : Entries → Type 0
  EntriesHaveOtherKind no_entries = ⊥
  EntriesHaveOtherKind (entry k d es) = HasOtherKind d ⊎ EntriesHaveOtherKind es

-- Name comes for a bad text, an error of the selector for another kind, and else memory ran out
abbrev pub IsUnprinted : Type 0 → Type 0 → NotationFault → Type 0
IsUnprinted bad_text other_kind Name = bad_text
IsUnprinted bad_text other_kind (Selector fault) = other_kind
IsUnprinted bad_text other_kind Memory = Unit {0}
IsUnprinted bad_text other_kind (Json place) = ⊥
IsUnprinted bad_text other_kind Repeated = ⊥
IsUnprinted bad_text other_kind Number = ⊥
IsUnprinted bad_text other_kind Hex = ⊥
IsUnprinted bad_text other_kind (Block fault) = ⊥

-- why data, members, or keys and values are not printed
abbrev pub IsDataUnprinted : Data → NotationFault → Type 0
IsDataUnprinted d fault = IsUnprinted (HasBadText d) (HasOtherKind d) fault

abbrev pub AreItemsUnprinted : Items → NotationFault → Type 0
AreItemsUnprinted ds fault = IsUnprinted (ItemsHaveBadText ds) (ItemsHaveOtherKind ds) fault

abbrev pub AreEntriesUnprinted : Entries → NotationFault → Type 0
AreEntriesUnprinted es fault = IsUnprinted (EntriesHaveBadText es) (EntriesHaveOtherKind es) fault
