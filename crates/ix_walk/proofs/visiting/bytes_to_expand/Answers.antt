use Rattle.std.proofs.Common.{◌≡◌, ℕ, List, Bool, true, false, sym, ◌∙◌, ap, subst}
use Rattle.std.specs.Prelude.{Option, Some, None, IfSome, ◌&&◌, not}
use Rattle.ix_walk.specs.declared.visited_set.VisitedSet.{VisitedSet}
use Rattle.ix_store.specs.Store.{position_of, bytes_of, value_of}
use Rattle.ix_walk.specs.VisitedSet.{IsNoted, expanded_of, going_of}
use Rattle.ix_walk.specs.Arriving.{IsValue, Goes}
use Rattle.ix_walk.specs.Walking.{has_tag, waiting}
use Rattle.ix_walk.proofs.Goes.{sound_valued, untagged_barren, damaged_barren, tagged_sound, goes_first, goes_again, goes_barren}
use Rattle.ix_walk.proofs.visiting.bytes_to_expand.Goals as goal

pub returns-then-not-is_first-clause-goes : goal.returns-then-not-is_first-clause-goes
returns-then-not-is_first-clause-goes c = λ depth.
    let store = c.args.store.now in
    let cid = c.args.visit.now.cid in
    let places = c.args.residual.now in
    let new = c.insert.new.self in
    let noted : IsNoted c.in-Some.expanded new (position_of store cid) cid places false =
    subst (IsNoted c.in-Some.expanded new (position_of store cid) cid places) c.if-not-is_first.true
    (subst (λ (b : Option ℕ). IsNoted c.in-Some.expanded new b cid places c.in_ok-is_first.is_first) c.requires.block c.in_ok-is_first.ensures) in
    subst (λ (g : Option VisitedSet). Goes store (waiting places depth cid) (going_of store g) None (Some (expanded_of store new))) (sym c.in-Some.is)
    (goes_again store cid places depth c.in-Some.expanded new noted)

pub returns-then-not-has_tag-clause-goes : goal.returns-then-not-has_tag-clause-goes
returns-then-not-has_tag-clause-goes c = λ depth.
    let store = c.args.store.now in
    let cid = c.args.visit.now.cid in
    let places = c.args.residual.now in
    let new = c.insert.new.self in
    let noted : IsNoted c.in-Some.expanded new (position_of store cid) cid places true =
    subst (IsNoted c.in-Some.expanded new (position_of store cid) cid places) c.if-not-is_first.false
    (subst (λ (b : Option ℕ). IsNoted c.in-Some.expanded new b cid places c.in_ok-is_first.is_first) c.requires.block c.in_ok-is_first.ensures) in
    let bytes = subst (λ (o : Option (List ℕ)). IfSome o (λ b. bytes_of store cid ≡ Some b)) c.in-Some-bytes.is c.requires.bytes in
    subst (λ (g : Option VisitedSet). Goes store (waiting places depth cid) (going_of store g) None (Some (expanded_of store new))) (sym c.in-Some.is)
    (goes_barren store cid places depth c.in-Some.expanded new noted (untagged_barren store cid c.in-Some-bytes.bytes bytes (sym (ap has_tag c.bytes.ensures) ∙ sym c.has_tag.ensures ∙ c.if-not-has_tag.true)))

pub returns-then-not-bytes_match-clause-goes : goal.returns-then-not-bytes_match-clause-goes
returns-then-not-bytes_match-clause-goes c = λ depth.
    let store = c.args.store.now in
    let cid = c.args.visit.now.cid in
    let places = c.args.residual.now in
    let new = c.insert.new.self in
    let noted : IsNoted c.in-Some.expanded new (position_of store cid) cid places true =
    subst (IsNoted c.in-Some.expanded new (position_of store cid) cid places) c.if-not-is_first.false
    (subst (λ (b : Option ℕ). IsNoted c.in-Some.expanded new b cid places c.in_ok-is_first.is_first) c.requires.block c.in_ok-is_first.ensures) in
    let bytes = subst (λ (o : Option (List ℕ)). IfSome o (λ b. bytes_of store cid ≡ Some b)) c.in-Some-bytes.is c.requires.bytes in
    let value = subst (IsValue (value_of store cid)) c.in-Some-bytes.is c.requires.value in
    let sound = sound_valued store cid c.in-Some-bytes.bytes c.bytes_match.result value c.bytes_match.ensures in
    subst (λ (g : Option VisitedSet). Goes store (waiting places depth cid) (going_of store g) None (Some (expanded_of store new))) (sym c.in-Some.is)
    (goes_barren store cid places depth c.in-Some.expanded new noted (damaged_barren store cid (sym sound ∙ c.if-not-bytes_match.true)))

pub returns-clause-goes : goal.returns-clause-goes
returns-clause-goes c = λ depth.
    let store = c.args.store.now in
    let cid = c.args.visit.now.cid in
    let places = c.args.residual.now in
    let new = c.insert.new.self in
    let noted : IsNoted c.in-Some.expanded new (position_of store cid) cid places true =
    subst (IsNoted c.in-Some.expanded new (position_of store cid) cid places) c.if-not-is_first.false
    (subst (λ (b : Option ℕ). IsNoted c.in-Some.expanded new b cid places c.in_ok-is_first.is_first) c.requires.block c.in_ok-is_first.ensures) in
    let bytes = subst (λ (o : Option (List ℕ)). IfSome o (λ b. bytes_of store cid ≡ Some b)) c.in-Some-bytes.is c.requires.bytes in
    let value = subst (IsValue (value_of store cid)) c.in-Some-bytes.is c.requires.value in
    let sound = sym (sound_valued store cid c.in-Some-bytes.bytes c.bytes_match.result value c.bytes_match.ensures) ∙ c.if-not-bytes_match.false in
    subst (λ (g : Option VisitedSet). Goes store (waiting places depth cid) (going_of store g) (Some c.in-Some-bytes.bytes) (Some (expanded_of store new))) (sym c.in-Some.is)
    (goes_first store cid places depth c.in-Some.expanded new c.in-Some-bytes.bytes (tagged_sound store cid c.in-Some-bytes.bytes bytes (sym (ap has_tag c.bytes.ensures) ∙ sym c.has_tag.ensures ∙ c.if-not-has_tag.false) sound) sound noted value)
