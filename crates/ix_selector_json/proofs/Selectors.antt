-- No part of a selector's data is a float, a byte string or a link.
use Rattle.std.proofs.Common.{◌≡◌, ℕ, inl, inr}
use Rattle.std.specs.Prelude.{◌⊎◌, Ok, Option}
use Rattle.ix_cbor.specs.Data.{Data, Items, Entries}
use Rattle.ix_selector.specs.Pattern.{Pattern, Fields, Members}
use Rattle.ix_selector.specs.Reading.{selector_of}
use Rattle.ix_selector.specs.Spelled.{AreLabels, no_label, label, SpellsLimit, as_no_limit, as_depth, SpellsPattern, as_matcher, as_all, as_fields, as_index, as_range, as_recursive, as_union, as_edge, SpellFields, as_no_fields, as_field, SpellMembers, as_no_members, as_member, SpellsSelector, alone, in_envelope}
use Rattle.ix_selector.proofs.SpelledAgain.{selector_of-iff}
use Rattle.ix_selector_json.specs.Printed.{HasOtherKind, ItemsHaveOtherKind, EntriesHaveOtherKind}

-- what is neither of two is not one of them
neither : {P Q : Type 0} → ¬ P → ¬ Q → ¬ (P ⊎ Q)
neither p q (inl h) = p h
neither p q (inr h) = q h

-- the entries of a label have no other kind
labels_plain : (es : Entries) → AreLabels es → ¬ EntriesHaveOtherKind es
labels_plain es no_label h = h
labels_plain es (label more) h = neither (λ x. x) (labels_plain _ more) h

-- a limit has no other kind
limit_plain : (d : Data) (limit : Option ℕ) → SpellsLimit d limit → ¬ HasOtherKind d
limit_plain d limit as_no_limit h = neither (λ x. x) (λ x. x) h
limit_plain d limit as_depth h = neither (λ x. x) (λ x. x) h

mutual
  pattern_plain : (d : Data) (s : Pattern) → SpellsPattern d s → ¬ HasOtherKind d
  pattern_plain d s (as_matcher labels) h = neither (labels_plain _ labels) (λ x. x) h
  pattern_plain d s (as_all next) h = neither (neither (pattern_plain _ _ next) (λ x. x)) (λ x. x) h
  pattern_plain d s (as_fields fields) h = neither (neither (fields_plain _ _ fields) (λ x. x)) (λ x. x) h
  pattern_plain d s (as_index next) h = neither (neither (pattern_plain _ _ next) (neither (λ x. x) (λ x. x))) (λ x. x) h
  pattern_plain d s (as_range next) h = neither (neither (λ x. x) (neither (pattern_plain _ _ next) (neither (λ x. x) (λ x. x)))) (λ x. x) h
  pattern_plain d s (as_recursive limit next) h = neither (neither (limit_plain _ _ limit) (neither (pattern_plain _ _ next) (λ x. x))) (λ x. x) h
  pattern_plain d s (as_union members) h = neither (members_plain _ _ members) (λ x. x) h
  pattern_plain d s as_edge h = neither (λ x. x) (λ x. x) h

  fields_plain : (es : Entries) (fs : Fields) → SpellFields es fs → ¬ EntriesHaveOtherKind es
  fields_plain es fs as_no_fields h = h
  fields_plain es fs (as_field d more) h = neither (pattern_plain _ _ d) (fields_plain _ _ more) h

  members_plain : (ds : Items) (ss : Members) → SpellMembers ds ss → ¬ ItemsHaveOtherKind ds
  members_plain ds ss as_no_members h = h
  members_plain ds ss (as_member d more) h = neither (pattern_plain _ _ d) (members_plain _ _ more) h

-- data of a selector has no float, byte string or link, by induction over the selector
spelled_plain : (d : Data) (s : Pattern) → SpellsSelector d s → ¬ HasOtherKind d
spelled_plain d s (alone p) h = pattern_plain _ _ p h
spelled_plain d s (in_envelope p) h = neither (pattern_plain _ _ p) (λ x. x) h

-- data that stand for a selector have no such part
pub selector_plain : (d : Data) (s : Pattern) → selector_of d ≡ Ok s → ¬ HasOtherKind d
selector_plain d s read = spelled_plain d s ((selector_of-iff d s).0 read).0
