-- When data spell a selector (IPLD Selectors specification): the envelope, and a rule for each form.
use Rattle.std.specs.Prelude.{ℕ, ℤ, pos, List, codes, Option, Some, None}
use Rattle.ix_cbor.specs.Data.{Data, Items, Entries, integer, text, list, map, no_items, item, no_entries, entry}
use Rattle.ix_selector.specs.Pattern.{Pattern, Fields, Members, matcher, all, fields, index, range, recursive, union, edge, no_fields, field, no_members, member}

-- a map with this key alone
abbrev pub one_key : List ℕ → Data → Data
one_key k d = map (entry k d no_entries)

-- a map with these two keys, in this order
abbrev pub two_keys : List ℕ → Data → List ℕ → Data → Data
two_keys k d l e = map (entry k d (entry l e no_entries))

-- a map with these three keys, in this order
abbrev pub three_keys : List ℕ → Data → List ℕ → Data → List ℕ → Data → Data
three_keys k d l e m f = map (entry k d (entry l e (entry m f no_entries)))

-- A matcher has only labels, which are strings. A key occurs once in a block, so there is one label or none.
pub data AreLabels : Entries → Type 0 where
  no_label : AreLabels no_entries
  label : {t : List ℕ} {es : Entries} → AreLabels es → AreLabels (entry (codes "label") (text t) es)

-- `none` over an empty map, or `depth` over a number. How great a selector's depth may be is said by `IsLimit`.
pub data SpellsLimit : Data → Option ℕ → Type 0 where
  as_no_limit : SpellsLimit (one_key (codes "none") (map no_entries)) None
  as_depth : {n : ℕ} → SpellsLimit (one_key (codes "depth") (integer (pos n))) (Some n)

mutual
  pub data SpellsPattern : Data → Pattern → Type 0 where
    as_matcher : {es : Entries} → AreLabels es → SpellsPattern (one_key (codes ".") (map es)) matcher
    as_all : {next : Data} {s : Pattern} → SpellsPattern next s → SpellsPattern (one_key (codes "a") (one_key (codes ">") next)) (all s)
    as_fields : {es : Entries} {fs : Fields} → SpellFields es fs → SpellsPattern (one_key (codes "f") (one_key (codes "f>") (map es))) (fields fs)
    as_index : {i : ℤ} {next : Data} {s : Pattern} → SpellsPattern next s
        → SpellsPattern (one_key (codes "i") (two_keys (codes ">") next (codes "i") (integer i))) (index i s)
    -- `^` is the start and `$` the end
    as_range : {start end : ℤ} {next : Data} {s : Pattern} → SpellsPattern next s
        → SpellsPattern (one_key (codes "r") (three_keys (codes "$") (integer end) (codes ">") next (codes "^") (integer start))) (range start end s)
    as_recursive : {within sequence : Data} {limit : Option ℕ} {s : Pattern} → SpellsLimit within limit → SpellsPattern sequence s
        → SpellsPattern (one_key (codes "R") (two_keys (codes "l") within (codes ":>") sequence)) (recursive limit s)
    as_union : {ds : Items} {ss : Members} → SpellMembers ds ss → SpellsPattern (one_key (codes "|") (list ds)) (union ss)
    as_edge : SpellsPattern (one_key (codes "@") (map no_entries)) edge

  -- the selectors of the named keys
  pub data SpellFields : Entries → Fields → Type 0 where
    as_no_fields : SpellFields no_entries no_fields
    as_field : {k : List ℕ} {d : Data} {s : Pattern} {es : Entries} {fs : Fields} → SpellsPattern d s → SpellFields es fs → SpellFields (entry k d es) (field k s fs)

  -- the members of a union
  pub data SpellMembers : Items → Members → Type 0 where
    as_no_members : SpellMembers no_items no_members
    as_member : {d : Data} {s : Pattern} {ds : Items} {ss : Members} → SpellsPattern d s → SpellMembers ds ss → SpellMembers (item d ds) (member s ss)

-- the data spell the selector, alone or in the envelope
pub data SpellsSelector : Data → Pattern → Type 0 where
  alone : {d : Data} {s : Pattern} → SpellsPattern d s → SpellsSelector d s
  in_envelope : {d : Data} {s : Pattern} → SpellsPattern d s → SpellsSelector (one_key (codes "selector") d) s
