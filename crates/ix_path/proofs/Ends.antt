-- The data at the end of a path, and the block and the errors of the selector along it.
use Rattle.std.proofs.Common.{◌≡◌, ◌≢◌, ℕ, true, false, List, [], refl, sym, ◌∙◌, ap, subst, arith}
use Rattle.std.specs.Prelude.{Result, Ok, Err, bytes_eq, codes, if◌then◌else◌}
use Rattle.ix_cbor.specs.Data.{Data, map, no_entries, entry}
use Rattle.ix_cbor.specs.Spelling.{IsSpellable, IsCanonical, spelling_of}
use Rattle.ix_selector.specs.declared.fault.SelFault.{SelFault}
use Rattle.ix_selector.specs.declared.fault.SelFault.TheVariants as reasons
use Rattle.ix_selector.specs.Gives.{Fails}
use Rattle.ix_selector.specs.Pattern.{Pattern, matcher, everything, outside, greatest_nesting, IsSelector}
use Rattle.ix_selector.specs.Enters.{Path}
use Rattle.ix_selector.specs.IsEntered.{is_entered}
use Rattle.ix_selector.specs.Reading.{selector_of, without_envelope}
use Rattle.ix_selector.specs.Examples.{matcher_data, everything_data}
use Rattle.ix_selector.specs.Spelled.{SpellsPattern, as_matcher, no_label, as_recursive, as_no_limit, as_all, as_edge}
use Rattle.ix_selector.proofs.Spellings.{at_spelled}
use Rattle.ix_path.specs.declared.selector_fault.PathSelectorFault.{PathSelectorFault}
use Rattle.ix_path.specs.declared.selector_fault.PathSelectorFault.TheVariants as faults
use Rattle.ix_path.specs.declared.end.PathEnd.{PathEnd}
use Rattle.ix_path.specs.declared.end.PathEnd.TheVariants as ends
use Rattle.ix_path.specs.Along.{pattern_along, data_along}
use Rattle.ix_path.specs.End.{read_at_end, selector_at_end, SpellsRead}
use Rattle.ix_path.specs.Made.{IsSelectorAlong, HasNoSelectorAlong, IsRead, SpellsTooDeep}
use Rattle.ix_path.proofs.Along.{spelled_along, guarded_along, along_is_read, deep_by_reading}
use Rattle.ix_path.proofs.SelectorNodes.{matcher_spellable, everything_spellable}
use Rattle.ix_path.proofs.OwnPlace.{entering_stays, other_is_matcher}

-- the matcher at the end
pub matcher_end : (end : PathEnd) (d : Data) → end ≡ ends.Node → d ≡ matcher_data → SpellsRead (selector_at_end end) d
matcher_end end d is same =
    subst (λ e. SpellsRead (selector_at_end e) d) (sym is) (subst (λ x. SpellsRead (Ok matcher) x) (sym same)
    (record { selector = matcher; is = refl; rules = record { edges = tt; nesting = omega arith }; spelled = as_matcher no_label; spellable = matcher_spellable }))

-- everything at the end
pub everything_end : (end : PathEnd) (d : Data) → end ≡ ends.Everything → d ≡ everything_data → SpellsRead (selector_at_end end) d
everything_end end d is same =
    subst (λ e. SpellsRead (selector_at_end e) d) (sym is) (subst (λ x. SpellsRead (Ok everything) x) (sym same) (record {
      selector = everything;
      is = refl;
      rules = record { edges = (tt, tt); nesting = omega arith };
      spelled = as_recursive as_no_limit (as_all as_edge);
      spellable = everything_spellable;
    }))

-- what is in an envelope has a spelling
inside_canonical : (d : Data) → IsCanonical d → IsSpellable (without_envelope d)
inside_canonical (map (entry k d no_entries)) h =
    elim (bytes_eq k (codes "selector")) as (λ b. IsSpellable (if b then d else map (entry k d no_entries))) [ true ↦ h.parts.1.1 | false ↦ h.parts ]
inside_canonical (map (entry k d (entry l e es))) h = h.parts
inside_canonical (map no_entries) h = h.parts
inside_canonical other h = h.parts

-- what a tree is read as at the end, if it enters its own place
pub tree_end : (tree d : Data) (s : Pattern) → selector_of tree ≡ Ok s → IsSelector s → is_entered s [] ≡ true → IsCanonical tree → d ≡ without_envelope tree → SpellsRead (read_at_end (selector_of tree)) d
tree_end tree d s read rules entered canonical same = record {
  selector = s;
  is = ap read_at_end read ∙ ap (λ q. Ok q) (entering_stays s entered);
  rules = rules;
  spelled = subst (λ x. SpellsPattern x s) (sym same) (at_spelled greatest_nesting outside (without_envelope tree) s read);
  spellable = subst IsSpellable (sym same) (inside_canonical tree canonical);
}

-- and otherwise the matcher
pub replaced_end : (tree d : Data) (s : Pattern) → selector_of tree ≡ Ok s → is_entered s [] ≡ false → d ≡ matcher_data → SpellsRead (read_at_end (selector_of tree)) d
replaced_end tree d s read out same =
    subst (λ r. SpellsRead r d) (sym (ap read_at_end read ∙ ap (λ q. Ok q) (other_is_matcher s out))) (matcher_end ends.Node d refl same)

-- the block of a tree that is read
pub made_along : (p : Path) (end : PathEnd) (d tree : Data) (block : List ℕ) → SpellsRead (selector_at_end end) d → tree ≡ data_along p d → IsRead tree → IsCanonical tree → block ≡ spelling_of tree → IsSelectorAlong p end block
made_along p end d tree block at same read canonical spelled = record {
  selector = at.selector;
  at_end = at.is;
  selector_data = tree;
  spelled = record { canonical = canonical; spelled = spelled };
  read = ap selector_of same ∙ along_is_read p d at.selector read.0 at.spelled at.rules (ap selector_of (sym same) ∙ read.1);
}

-- why there is none
pub refused_along : (p : Path) (end : PathEnd) (d tree : Data) (fault : PathSelectorFault) → SpellsRead (selector_at_end end) d → tree ≡ data_along p d → (IsSpellable d → IsSpellable tree) → SpellsTooDeep tree fault → HasNoSelectorAlong p end fault
refused_along p end d tree (faults.End fault) at same spellable h = absurd h
refused_along p end d tree faults.TooDeep at same spellable h = record {
  selector = at.selector;
  at_end = at.is;
  nesting = h (pattern_along p at.selector) (subst (λ x. SpellsPattern x (pattern_along p at.selector)) (sym same) (spelled_along p d at.selector at.spelled)) (guarded_along p at.selector at.rules.edges) (spellable at.spellable);
}
refused_along p end d tree faults.Memory at same spellable h = tt

-- a reading that doesn't fail for memory has the fault
pub failed : (f : SelFault) (r : Result Pattern SelFault) → Fails f r → f ≢ reasons.Memory → r ≡ Err f
failed reasons.Memory r h other = absurd (other refl)
failed reasons.NotMap r h other = h
failed reasons.Keys r h other = h
failed reasons.Unknown r h other = h
failed (reasons.Unsupported form) r h other = h
failed reasons.Kind r h other = h
failed reasons.Depth r h other = h
failed reasons.EdgeOutside r h other = h
failed reasons.EdgeUnguarded r h other = h
failed reasons.Nesting r h other = h

-- what isn't read although it is spelled nests too deep
pub unread_deep : (tree : Data) (fault : SelFault) → Fails fault (selector_of tree) → fault ≢ reasons.Memory → SpellsTooDeep tree faults.TooDeep
unread_deep tree fault h other = λ s spelled guarded spellable. deep_by_reading tree s fault (failed fault (selector_of tree) h other) spelled guarded
