-- A selector that enters any place enters its own, and so does the one at the end of a path.
use Rattle.std.proofs.Common.{◌≡◌, Bool, true, false, List, [], refl, sym, ap, subst}
use Rattle.std.specs.Prelude.{if◌then◌else◌}
use Rattle.ix_selector.specs.Pattern.{Pattern, matcher, IsSelector}
use Rattle.ix_selector.specs.Enters.{Path, Frame, Enters, at_matcher, at_all, at_fields, at_index, at_range, below_all, below_fields, below_index, below_range, in_union, in_recursion, at_edge, at_edge_within}
use Rattle.ix_selector.specs.IsEntered.{is_entered}
use Rattle.ix_selector.proofs.Decides.{is_entered-decides, within_sound}
use Rattle.ix_path.specs.End.{or_matcher}

-- a selector that enters any place enters its own
own_place : {s : Pattern} {e : List Frame} {p : Path} → Enters s e p → Enters s e []
own_place at_matcher = at_matcher
own_place at_all = at_all
own_place at_fields = at_fields
own_place at_index = at_index
own_place at_range = at_range
own_place (below_all h) = at_all
own_place (below_fields named h) = at_fields
own_place (below_index h) = at_index
own_place (below_range low high h) = at_range
own_place (in_union member h) = in_union member (own_place h)
own_place (in_recursion h) = in_recursion (own_place h)
own_place (at_edge h) = at_edge (own_place h)
own_place (at_edge_within deep h) = at_edge_within deep (own_place h)

-- one that enters its own place stays, and another gives way to the matcher
pub entering_stays : (s : Pattern) → is_entered s [] ≡ true → or_matcher s ≡ s
entering_stays s h = ap (λ b. if b then s else matcher) h

pub other_is_matcher : (s : Pattern) → is_entered s [] ≡ false → or_matcher s ≡ matcher
other_is_matcher s h = ap (λ b. if b then s else matcher) h

-- so the one at the end is entered
pub end_entered : (s : Pattern) → Enters (or_matcher s) [] []
end_entered s = by (is_entered s []) refl where
  by : (b : Bool) → is_entered s [] ≡ b → Enters (or_matcher s) [] []
  by true h = subst (λ q. Enters q [] []) (sym (entering_stays s h)) (within_sound 0 s [] [] h)
  by false h = subst (λ q. Enters q [] []) (sym (other_is_matcher s h)) at_matcher

-- and a selector that enters any place is the one at the end
pub kept_at_end : (s : Pattern) (place : Path) → IsSelector s → Enters s [] place → or_matcher s ≡ s
kept_at_end s place rules h = entering_stays s ((is_entered-decides s [] rules).1 (own_place h))
