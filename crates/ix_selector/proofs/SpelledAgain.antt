-- What is spelled is read, where it is a selector.
use Rattle.std.proofs.Common.{◌≡◌, ◌+◌, ◌≤◌, ◌^◌, arith, ℕ, zero, suc, refl, sym, ◌∙◌, ap, pos}
use Rattle.std.specs.Prelude.{◌↔◌, Option, Some, None, Ok, Err, codes, if◌then◌else◌}
use Rattle.std.proofs.lemmas.Bool.{lt-ltb}
use Rattle.ix_cbor.specs.Data.{Data, Items, Entries, integer, list, map, no_items, item, no_entries, entry}
use Rattle.ix_selector.specs.declared.fault.SelFault.TheVariants.{Depth}
use Rattle.ix_selector.specs.Pattern.{Pattern, Fields, Members, matcher, all, fields, index, range, recursive, union, edge, no_fields, field, no_members, member, Around, outside, unguarded, guarded, after_step, nesting_of, fields_nesting, members_nesting, IsLimit, MayStand, IsGuarded, AreGuarded, EachGuarded, greatest_nesting, IsSelector}
use Rattle.ix_selector.specs.Reading.{Reader, ◌>>=◌, matcher_of, fields_read, members_read, limit_of, edge_form, read_with, selector_at, selector_of, without_envelope}
use Rattle.ix_selector.specs.Spelled.{one_key, two_keys, three_keys, AreLabels, no_label, label, SpellsLimit, as_no_limit, as_depth, SpellsPattern, as_matcher, as_all, as_fields, as_index, as_range, as_recursive, as_union, as_edge, SpellFields, as_no_fields, as_field, SpellMembers, as_no_members, as_member, SpellsSelector, alone, in_envelope}
use Rattle.ix_selector.proofs.Guarded.{ok_same, reads_selector}
use Rattle.ix_selector.proofs.Spellings.{at_spelled, around_spelled}

-- labels are a matcher's
labels_again : {es : Entries} → AreLabels es → matcher_of es ≡ Ok matcher
labels_again no_label = refl
labels_again (label h) = labels_again h

-- a limit that fits
limit_again : {d : Data} {limit : Option ℕ} → SpellsLimit d limit → IsLimit limit → limit_of d ≡ Ok limit
limit_again as_no_limit fits = refl
limit_again (as_depth {n = n}) fits = ap (λ b. if b then Ok (Some n) else Err Depth) (lt-ltb n (2 ^ 32) fits)

-- an edge where it is allowed
edge_again : (around : Around) → MayStand around → edge_form around no_entries ≡ Ok edge
edge_again outside may = absurd may
edge_again unguarded may = absurd may
edge_again guarded may = refl

-- one level, where the levels below read what is spelled
module _ (n : ℕ) (read : Reader) (again : (around : Around) (d : Data) (s : Pattern) → SpellsPattern d s → IsGuarded around s → nesting_of s ≤ n → read around d ≡ Ok s) where
  -- the selectors of named keys
  named_again : {es : Entries} {fs : Fields} (around : Around) → SpellFields es fs → AreGuarded around fs → fields_nesting fs ≤ n → fields_read (read (after_step around)) es ≡ Ok fs
  named_again around as_no_fields guarded_is nesting = refl
  named_again around (as_field {k = k} {d = d} {s = s} {es = es} {fs = fs} first more) guarded_is nesting =
      ap (λ r. r >>= (λ s. fields_read (read (after_step around)) es >>= (λ fs. Ok (field k s fs)))) (again (after_step around) d s first guarded_is.0 (omega arith))
      ∙ ap (λ r. r >>= (λ fs. Ok (field k s fs))) (named_again around more guarded_is.1 (omega arith))

  -- the members of a union
  members_again : {ds : Items} {ss : Members} (around : Around) → SpellMembers ds ss → EachGuarded around ss → members_nesting ss ≤ n → members_read (read around) ds ≡ Ok ss
  members_again around as_no_members guarded_is nesting = refl
  members_again around (as_member {d = d} {s = s} {ds = ds} {ss = ss} first more) guarded_is nesting =
      ap (λ r. r >>= (λ s. members_read (read around) ds >>= (λ ss. Ok (member s ss)))) (again around d s first guarded_is.0 (omega arith))
      ∙ ap (λ r. r >>= (λ ss. Ok (member s ss))) (members_again around more guarded_is.1 (omega arith))

  -- each form
  with_again : {d : Data} {s : Pattern} (around : Around) → SpellsPattern d s → IsGuarded around s → nesting_of s ≤ n + 1 → read_with read around d ≡ Ok s
  with_again around (as_matcher labels) guarded_is nesting = labels_again labels
  with_again around (as_all {next = d} {s = s} h) guarded_is nesting = ap (λ r. r >>= (λ s. Ok (all s))) (again (after_step around) d s h guarded_is (omega arith))
  with_again around (as_fields names) guarded_is nesting = ap (λ r. r >>= (λ fs. Ok (fields fs))) (named_again around names guarded_is (omega arith))
  with_again around (as_index {i = i} {next = d} {s = s} h) guarded_is nesting = ap (λ r. r >>= (λ s. Ok (index i s))) (again (after_step around) d s h guarded_is (omega arith))
  with_again around (as_range {start = start} {end = end} {next = d} {s = s} h) guarded_is nesting = ap (λ r. r >>= (λ s. Ok (range start end s))) (again (after_step around) d s h guarded_is (omega arith))
  with_again around (as_recursive {within = l} {sequence = d} {limit = limit} {s = s} within h) guarded_is nesting =
      ap (λ r. r >>= (λ limit. read unguarded d >>= (λ s. Ok (recursive limit s)))) (limit_again within guarded_is.0)
      ∙ ap (λ r. r >>= (λ s. Ok (recursive limit s))) (again unguarded d s h guarded_is.1 (omega arith))
  with_again around (as_union members) guarded_is nesting = ap (λ r. r >>= (λ ss. Ok (union ss))) (members_again around members guarded_is (omega arith))
  with_again around as_edge guarded_is nesting = edge_again around guarded_is

-- no selector nests 0
nesting_above : (s : Pattern) → 1 ≤ nesting_of s
nesting_above matcher = omega arith
nesting_above edge = omega arith
nesting_above (all s) = omega arith
nesting_above (fields fs) = omega arith
nesting_above (index i s) = omega arith
nesting_above (range i j s) = omega arith
nesting_above (recursive limit s) = omega arith
nesting_above (union ss) = omega arith

-- every level
at_again : (n : ℕ) (around : Around) (d : Data) (s : Pattern) → SpellsPattern d s → IsGuarded around s → nesting_of s ≤ n → selector_at n around d ≡ Ok s
unfolding selector_at
at_again zero around d s h guarded_is nesting = absurd (omega (arith, nesting_above s))
at_again (suc n) around d s h guarded_is nesting = with_again n (selector_at n) (at_again n) around h guarded_is (omega arith)

-- what spells a selector's form is no envelope
form_alone : {d : Data} {s : Pattern} → SpellsPattern d s → without_envelope d ≡ d
form_alone (as_matcher labels) = refl
form_alone (as_all h) = refl
form_alone (as_fields names) = refl
form_alone (as_index h) = refl
form_alone (as_range h) = refl
form_alone (as_recursive within h) = refl
form_alone (as_union members) = refl
form_alone as_edge = refl

-- so the envelope changes nothing
selector_again : {d : Data} {s : Pattern} → SpellsSelector d s → IsSelector s → selector_of d ≡ Ok s
selector_again (alone {d = d} {s = s} h) is = ap (λ x. selector_at greatest_nesting outside x) (form_alone h) ∙ at_again greatest_nesting outside d s h is.edges is.nesting
selector_again (in_envelope {d = d} {s = s} h) is = at_again greatest_nesting outside d s h is.edges is.nesting

-- a selector is read exactly where it is spelled
pub selector_of-iff : (d : Data) (s : Pattern) → selector_of d ≡ Ok s ↔ (SpellsSelector d s × IsSelector s)
selector_of-iff d s = ((λ h. (around_spelled d s (at_spelled greatest_nesting outside (without_envelope d) s h), reads_selector d s h)), (λ h. selector_again h.0 h.1))

-- data spell one selector
pub spells-one : (d : Data) (s t : Pattern) → IsSelector s → IsSelector t → SpellsSelector d s → SpellsSelector d t → s ≡ t
spells-one d s t s_is t_is first second = ok_same s t (sym (selector_again first s_is) ∙ selector_again second t_is)

-- a limit is spelled by data
limit_data : (limit : Option ℕ) → (d : Data) × SpellsLimit d limit
limit_data None = (one_key (codes "none") (map no_entries), as_no_limit)
limit_data (Some n) = (one_key (codes "depth") (integer (pos n)), as_depth)

mutual
  -- so is a selector
  pattern_data : (s : Pattern) → (d : Data) × SpellsPattern d s
  pattern_data matcher = (one_key (codes ".") (map no_entries), as_matcher no_label)
  pattern_data (all s) = let next = pattern_data s in (one_key (codes "a") (one_key (codes ">") next.0), as_all next.1)
  pattern_data (fields fs) = let names = fields_data fs in (one_key (codes "f") (one_key (codes "f>") (map names.0)), as_fields names.1)
  pattern_data (index i s) = let next = pattern_data s in (one_key (codes "i") (two_keys (codes ">") next.0 (codes "i") (integer i)), as_index next.1)
  pattern_data (range i j s) =
      let next = pattern_data s in (one_key (codes "r") (three_keys (codes "$") (integer j) (codes ">") next.0 (codes "^") (integer i)), as_range next.1)
  pattern_data (recursive limit s) =
      let within = limit_data limit in
      let sequence = pattern_data s in
      (one_key (codes "R") (two_keys (codes "l") within.0 (codes ":>") sequence.0), as_recursive within.1 sequence.1)
  pattern_data (union ss) = let members = members_data ss in (one_key (codes "|") (list members.0), as_union members.1)
  pattern_data edge = (one_key (codes "@") (map no_entries), as_edge)

  fields_data : (fs : Fields) → (es : Entries) × SpellFields es fs
  fields_data no_fields = (no_entries, as_no_fields)
  fields_data (field k s fs) = let first = pattern_data s in let more = fields_data fs in (entry k first.0 more.0, as_field first.1 more.1)

  members_data : (ss : Members) → (ds : Items) × SpellMembers ds ss
  members_data no_members = (no_items, as_no_members)
  members_data (member s ss) = let first = pattern_data s in let more = members_data ss in (item first.0 more.0, as_member first.1 more.1)

-- each selector has data that spell it
pub spells-some : (s : Pattern) → (d : Data) × SpellsSelector d s
spells-some s = let found = pattern_data s in (found.0, alone found.1)
