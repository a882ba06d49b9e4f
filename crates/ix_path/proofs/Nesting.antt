-- How deep the data of a selector nest.
use Rattle.std.proofs.Common.{◌≡◌, ℕ, ◌+◌, ◌*◌, ◌≤◌, arith}
use Rattle.std.specs.Prelude.{Option}
use Rattle.ix_cbor.specs.Data.{Data, Items, Entries}
use Rattle.ix_cbor.specs.Spelling.{items_nesting, entries_nesting}
use Rattle.ix_cbor.specs.Spelling.{nesting_of as data_nesting}
use Rattle.ix_selector.specs.Pattern.{Pattern, Fields, Members, nesting_of, fields_nesting, members_nesting}
use Rattle.ix_selector.specs.Spelled.{AreLabels, no_label, label, SpellsLimit, as_no_limit, as_depth, SpellsPattern, as_matcher, as_all, as_fields, as_index, as_range, as_recursive, as_union, as_edge, SpellFields, as_no_fields, as_field, SpellMembers, as_no_members, as_member}

-- labels don't nest
labels_nest : {es : Entries} → AreLabels es → entries_nesting es ≡ 0
labels_nest no_label = omega arith
labels_nest (label h) = omega (arith, labels_nest h)

-- a limit nests twice at most
limit_nests : {d : Data} {limit : Option ℕ} → SpellsLimit d limit → data_nesting d ≤ 2
limit_nests as_no_limit = omega arith
limit_nests as_depth = omega arith

mutual
  -- each level of a selector is three of its data at most
  pub pattern_nests : {d : Data} {s : Pattern} → SpellsPattern d s → data_nesting d ≤ 3 * nesting_of s + 1
  pattern_nests (as_matcher labels) = omega (arith, labels_nest labels)
  pattern_nests (as_all h) = omega (arith, pattern_nests h)
  pattern_nests (as_fields names) = omega (arith, fields_nest names)
  pattern_nests (as_index h) = omega (arith, pattern_nests h)
  pattern_nests (as_range h) = omega (arith, pattern_nests h)
  pattern_nests (as_recursive limit h) = omega (arith, limit_nests limit, pattern_nests h)
  pattern_nests (as_union members) = omega (arith, members_nest members)
  pattern_nests as_edge = omega arith

  fields_nest : {es : Entries} {fs : Fields} → SpellFields es fs → entries_nesting es ≤ 3 * fields_nesting fs + 1
  fields_nest as_no_fields = omega arith
  fields_nest (as_field h more) = omega (arith, pattern_nests h, fields_nest more)

  members_nest : {ds : Items} {ss : Members} → SpellMembers ds ss → items_nesting ds ≤ 3 * members_nesting ss + 1
  members_nest as_no_members = omega arith
  members_nest (as_member h more) = omega (arith, pattern_nests h, members_nest more)
