-- The trees and blocks of selectors along segments.
use Rattle.std.proofs.Common.{◌≡◌, ◌≤◌, ℕ, List, [], ◌∷◌, ◌++◌, refl, sym, ◌∙◌, ap, subst, pos, length, arith}
use Rattle.std.specs.Global.{Vec}
use Rattle.std.specs.Prelude.{Option, Some, None, Result, Ok, Err, IfOk, IfErr}
use Rattle.ix_cbor.specs.Data.{Data}
use Rattle.ix_cbor.specs.Spelling.{IsSpellable, IsCanonical, spelling_of}
use Rattle.ix_selector.specs.Pattern.{Pattern, fields, index, no_fields, field, union, no_members, member, outside, IsGuarded, nesting_of, greatest_nesting, IsSelector}
use Rattle.ix_selector.specs.Enters.{Step, key, nth, Enters, at_fields, in_union, head}
use Rattle.ix_selector.specs.Reading.{selector_of}
use Rattle.ix_selector.specs.Spelled.{SpellsPattern, alone, as_fields, as_no_fields, as_field, as_index, as_union, as_no_members, as_member}
use Rattle.ix_selector.proofs.Guarded.{reads_selector}
use Rattle.ix_selector.proofs.Spellings.{at_spelled}
use Rattle.ix_selector.proofs.SpelledAgain.{selector_of-iff, spells-one}
use Rattle.ix_path.specs.declared.selector_fault.PathSelectorFault.{PathSelectorFault}
use Rattle.ix_path.specs.declared.selector_fault.PathSelectorFault.TheVariants as faults
use Rattle.ix_path.specs.declared.end.PathEnd.{PathEnd}
use Rattle.ix_path.specs.Along.{pattern_along, data_after}
use Rattle.ix_path.specs.End.{selector_at_end}
use Rattle.ix_path.specs.Made.{IsRead, SpellsTooDeep}
use Rattle.ix_path.specs.Resolution.{segments_in}
use Rattle.ix_path.specs.Segments.{number_of, by_key_or_index, data_by_key_or_index, pattern_by_segments, IsBlockOf, IsTreeOf, IsTooDeep, HasNoSelectorBySegments}
use Rattle.ix_path.proofs.Along.{spelled_along, guarded_along}
use Rattle.ix_path.proofs.Entered.{enters_its_end}

-- a selector that is read along a step goes on by the one that the next data spell
step-read : (t : Step) (d : Data) (s v : Pattern) → SpellsPattern d s → IsSelector s → SpellsPattern (data_after t d) v → IsSelector v → v ≡ pattern_along (t ∷ []) s
step-read (key k) d s v spelled own (as_fields (as_field {s = x} h as_no_fields)) rules =
    ap (λ q. fields (field k q no_fields)) (spells-one d x s (record { edges = rules.edges.0; nesting = omega (arith, rules.nesting) }) own (alone h) (alone spelled))
step-read (nth n) d s v spelled own (as_index {s = x} h) rules =
    ap (λ q. index (pos n) q) (spells-one d x s (record { edges = rules.edges; nesting = omega (arith, rules.nesting) }) own (alone h) (alone spelled))

-- and so along a segment
segment-read : (g : List ℕ) (number : Option ℕ) (d : Data) (s v : Pattern) → SpellsPattern d s → IsSelector s → SpellsPattern (data_by_key_or_index g number d) v → IsSelector v → v ≡ by_key_or_index g number s
segment-read g None d s v spelled own h rules = step-read (key g) d s v spelled own h rules
segment-read g (Some n) d s v spelled own (as_union (as_member {s = x} a (as_member {s = y} b as_no_members))) rules =
    let one : x ≡ pattern_along (key g ∷ []) s = step-read (key g) d s x spelled own a (record { edges = rules.edges.0; nesting = omega (arith, rules.nesting) }) in
    let two : y ≡ pattern_along (nth n ∷ []) s = step-read (nth n) d s y spelled own b (record { edges = rules.edges.1.0; nesting = omega (arith, rules.nesting) }) in
    ap (λ (q : Pattern). union (member q (member y no_members))) one ∙ ap (λ (q : Pattern). union (member (pattern_along (key g ∷ []) s) (member q no_members))) two

-- what is read along a segment is no envelope
segment-alone : (g : List ℕ) (number : Option ℕ) (d : Data) (v : Pattern) → selector_of (data_by_key_or_index g number d) ≡ Ok v → SpellsPattern (data_by_key_or_index g number d) v
segment-alone g None d v read = at_spelled greatest_nesting outside (data_by_key_or_index g None d) v read
segment-alone g (Some n) d v read = at_spelled greatest_nesting outside (data_by_key_or_index g (Some n) d) v read

-- the data along a segment spell the selector along it
segment-spelled : (g : List ℕ) (number : Option ℕ) (d : Data) (s : Pattern) → SpellsPattern d s → SpellsPattern (data_by_key_or_index g number d) (by_key_or_index g number s)
segment-spelled g None d s h = spelled_along (key g ∷ []) d s h
segment-spelled g (Some n) d s h = as_union (as_member (spelled_along (key g ∷ []) d s h) (as_member (spelled_along (nth n ∷ []) d s h) as_no_members))

-- edges stay where they are allowed
segment-guarded : (g : List ℕ) (number : Option ℕ) (s : Pattern) → IsGuarded outside s → IsGuarded outside (by_key_or_index g number s)
segment-guarded g None s h = guarded_along (key g ∷ []) s h
segment-guarded g (Some n) s h = (guarded_along (key g ∷ []) s h, (guarded_along (nth n ∷ []) s h, tt))

-- the tree along a segment
tree-along : (g : List ℕ) (number : Option ℕ) (d tree : Data) (s : Pattern) → IsTreeOf s d → tree ≡ data_by_key_or_index g number d → IsCanonical tree → IsRead tree → IsTreeOf (by_key_or_index g number s) tree
tree-along g number d tree s h is canonical read =
    let whole : selector_of (data_by_key_or_index g number d) ≡ Ok read.0 = ap selector_of (sym is) ∙ read.1 in
    let rules : IsSelector read.0 = reads_selector (data_by_key_or_index g number d) read.0 whole in
    let same : read.0 ≡ by_key_or_index g number s = segment-read g number d s read.0 h.spelled h.rules (segment-alone g number d read.0 whole) rules in
    record {
      canonical = canonical;
      spelled = subst (λ x. SpellsPattern x (by_key_or_index g number s)) (sym is) (segment-spelled g number d s h.spelled);
      rules = subst IsSelector same rules;
    }

pub segment-tree : (g : List ℕ) (number : Option ℕ) (d node : Data) (s : Pattern) (r : Result Data PathSelectorFault) → IsTreeOf s d → node ≡ data_by_key_or_index g number d → IfOk r (λ tree. tree ≡ node) → IfOk r (λ tree. IsCanonical tree) → IfOk r (λ tree. IsRead tree) → IfOk r (λ tree. IsTreeOf (by_key_or_index g number s) tree)
segment-tree g number d node s (Ok tree) h is same canonical read = tree-along g number d tree s h (same ∙ is) canonical read
segment-tree g number d node s (Err fault) h is same canonical read = tt

-- or it nests too deep
pub segment-deep : (g : List ℕ) (number : Option ℕ) (d node : Data) (s : Pattern) (r : Result Data PathSelectorFault) → IsTreeOf s d → node ≡ data_by_key_or_index g number d → IsSpellable node → IfErr r (λ fault. SpellsTooDeep node fault) → IfErr r (λ fault. IsTooDeep (by_key_or_index g number s) fault)
segment-deep g number d node s (Ok tree) h is spellable deep = tt
segment-deep g number d node s (Err (faults.End fault)) h is spellable deep = absurd deep
segment-deep g number d node s (Err faults.TooDeep) h is spellable deep =
    deep (by_key_or_index g number s) (subst (λ x. SpellsPattern x (by_key_or_index g number s)) (sym is) (segment-spelled g number d s h.spelled)) (segment-guarded g number s h.rules.edges) spellable
segment-deep g number d node s (Err faults.Memory) h is spellable deep = tt

-- the selector along a segment nests no less than the next one
segment-nests : (g : List ℕ) (number : Option ℕ) (s : Pattern) → nesting_of s ≤ nesting_of (by_key_or_index g number s)
segment-nests g None s = omega arith
segment-nests g (Some n) s = omega arith

-- nor does that along more segments
segments-nest : (gs more : List (List ℕ)) (s : Pattern) → nesting_of (pattern_by_segments more s) ≤ nesting_of (pattern_by_segments (gs ++ more) s)
segments-nest [] more s = omega arith
segments-nest (g ∷ gs) more s = omega (arith, segments-nest gs more s, segment-nests g (number_of g) (pattern_by_segments (gs ++ more) s))

-- why there is none, where the selector along the last segments has this fault
pub refused-by-segments : (gs more : List (List ℕ)) (end : PathEnd) (s : Pattern) (fault : PathSelectorFault) → selector_at_end end ≡ Ok s → IsTooDeep (pattern_by_segments more s) fault → HasNoSelectorBySegments (gs ++ more) end fault
refused-by-segments gs more end s (faults.End fault) at deep = absurd deep
refused-by-segments gs more end s faults.TooDeep at deep = record { selector = s; at_end = at; nesting = omega (arith, deep, segments-nest gs more s) }
refused-by-segments gs more end s faults.Memory at deep = tt

-- a selector along a segment enters its own place
segment-entered : (g : List ℕ) (number : Option ℕ) (s : Pattern) → Enters (by_key_or_index g number s) [] []
segment-entered g None s = at_fields
segment-entered g (Some n) s = in_union head at_fields

-- and so does the one along segments
segments-entered : (gs : List (List ℕ)) (end : PathEnd) (s : Pattern) → selector_at_end end ≡ Ok s → Enters (pattern_by_segments gs s) [] []
segments-entered [] end s at = enters_its_end end s [] [] at (record { rest = []; path = refl })
segments-entered (g ∷ gs) end s at = segment-entered g (number_of g) (pattern_by_segments gs s)

-- its block
pub segments-block : (gs : List (List ℕ)) (end : PathEnd) (s : Pattern) (tree : Data) (block : List ℕ) → selector_at_end end ≡ Ok s → IsTreeOf (pattern_by_segments gs s) tree → block ≡ spelling_of tree → IsBlockOf (pattern_by_segments gs s) block
segments-block gs end s tree block at h is = record {
  selector_data = tree;
  spelled = record { canonical = h.canonical; spelled = is };
  read = (selector_of-iff tree (pattern_by_segments gs s)).1 (alone h.spelled, h.rules);
  entered = segments-entered gs end s at;
}

-- the segments before the last one, and then the last one
pub segments-split : (before : List (Vec ℕ)) (last : Vec ℕ) (more : List (List ℕ)) → segments_in (before ++ last ∷ []) ++ more ≡ segments_in before ++ last.items ∷ more
segments-split [] last more = refl
segments-split (s ∷ ss) last more = ap (λ l. s.items ∷ l) (segments-split ss last more)

-- where none is left
pub segments-gone : (left : List (Vec ℕ)) (gone gs : List (List ℕ)) → length left ≡ 0 → segments_in left ++ gone ≡ gs → gone ≡ gs
segments-gone [] gone gs none is = is
segments-gone (s ∷ ss) gone gs none is = absurd (omega arith)
