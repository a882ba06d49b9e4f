-- The positions of a base, as one section more decides.
use Rattle.std.proofs.Common.{◌≡◌, Bool, true, false, ◌||◌, List, ℕ, [], ◌∷◌, ◌++◌, ◌+◌, ◌<◌, length, take, refl, sym, ap, subst, ◌∙◌, ⊎_elim}
use Rattle.std.specs.Prelude.{Option, Some, Result, OnOk, ◌==◌, bytes_eq, slice_get, slice_index_or, IfSome}
use Rattle.std.proofs.lemmas.Bool.{cases_Bool, false≢true, eq-eqb, ne_eqb, MatchBool-at_true, MatchBool-at_false}
use Rattle.std.proofs.lemmas.List.{take_more}
use Rattle.std.proofs.Math.Bool.{or-true}
use Rattle.std.proofs.lemmas.Option.{slice_get-get_or}
use Rattle.std.proofs.lemmas.Result.{on_ok_weaker}
use Rattle.std.proofs.lemmas.Slice.Eq.{bytes_eq-Decides}
use Rattle.ix_verdict.specs.Verdict.{verdict_with, is_sound}
use Rattle.ix_store.specs.Store.{Blocks, has_cid, position_of, with_blocks}
use Rattle.ix_store.specs.Sound.{verdict_of_copy}
use Rattle.ix_store.specs.declared.places.PlaceSet.{PlaceSet}
use Rattle.ix_store.specs.PlaceSet.{contains_place, HasOneMoreThan}
use Rattle.ix_store.proofs.Gathered.{with_blocks-push}
use Rattle.ix_store.proofs.Stores.{pair-there, same-there}
use Rattle.ix_known.specs.Known.{IsPutIf}
use Rattle.ix_known.specs.declared.finding.Finding.{Finding}
use Rattle.ix_known.specs.declared.finding.Finding.TheVariants.{Nothing, CopyOf, NoMemory}
use Rattle.ix_known.specs.declared.places.Places.{Places}
use Rattle.ix_known.specs.Places.{ArePlacesOf, AddsBlocks, IsDecided}
use Rattle.ix_known.specs.Findings.{IsFinding, IsFindingAt, TakesIn, HasAllOf}
use Rattle.ix_known.proofs.Pairs.{has-other, last-this, knows-other, knows-this, knows-none, with-had, with-new}

-- ---- a base without blocks

pub places-none : (store : Blocks) (places : Places) → ((n : ℕ) → contains_place places.known n ≡ false) → ((n : ℕ) → contains_place places.decided n ≡ false) → ArePlacesOf store [] places
places-none store places known decided = record {
  known = λ c place at. known place ∙ sym (knows-none [] c refl);
  decided = λ c place at. decided place;
}

-- ---- one section more

module _ (store base : Blocks) (p : List ℕ × List ℕ) where
  -- equal bytes are the CID of the section
  this_cid : (c : List ℕ) → bytes_eq p.0 c ≡ true → p.0 ≡ c
  this_cid c same = (bytes_eq-Decides p.0 c).0 same

  -- a section that says nothing: if its CID is new to the base, the store has no block under it
  pub kept : (places : Places) → IsFinding store places.decided p Nothing → ArePlacesOf store base places → ArePlacesOf store (with_blocks base (p ∷ [])) places
  kept places nothing h = by (has_cid base p.0) refl where
    by : (had : Bool) → has_cid base p.0 ≡ had → ArePlacesOf store (with_blocks base (p ∷ [])) places
    by true had = subst (λ (b : Blocks). ArePlacesOf store b places) (sym (with-had base p had)) h
    by false new = subst (λ (b : Blocks). ArePlacesOf store b places) (sym (with-new base p new)) (record {
      known = λ c place at. h.known c place at ∙ sym (knows-other base p c (apart c place at));
      decided = λ c place at. h.decided c place at ∙ sym (has-other base p c (apart c place at));
    }) where
      apart : (c : List ℕ) (place : ℕ) → position_of store c ≡ Some place → bytes_eq p.0 c ≡ false
      apart c place at = ⊎_elim (λ same.
          let here : position_of store p.0 ≡ Some place = ap (position_of store) (this_cid c same) ∙ at in
          absurd (false≢true (sym new ∙ sym (h.decided p.0 place here) ∙ nothing place here))) (λ other. other) (cases_Bool (bytes_eq p.0 c))

  module _ (place : ℕ) (here : position_of store p.0 ≡ Some place) where
    -- another CID has another position
    elsewhere : (c : List ℕ) (n : ℕ) → position_of store c ≡ Some n → bytes_eq p.0 c ≡ false → (place == n) ≡ false
    elsewhere c n at other = ne_eqb place n (λ same.
        let there = pair-there store place p.0 (sym here) in
        false≢true (sym other ∙ same-there store place (p.0, there.0) c there.1 (at ∙ ap Some (sym same))))

    -- and this CID has this one
    is_here : (c : List ℕ) (n : ℕ) → position_of store c ≡ Some n → bytes_eq p.0 c ≡ true → place ≡ n
    is_here c n at same = let one : Some place ≡ Some n = sym here ∙ ap (position_of store) (this_cid c same) ∙ at in cc

    -- a set with one position more
    more-other : (new old : PlaceSet) (n : ℕ) → HasOneMoreThan new old place → (place == n) ≡ false → contains_place new n ≡ contains_place old n
    more-other new old n more other = more n ∙ ap (λ b. b || contains_place old n) other

    more-this : (new old : PlaceSet) (n : ℕ) → HasOneMoreThan new old place → place ≡ n → contains_place new n ≡ true
    more-this new old n more same = more n ∙ ap (λ b. b || contains_place old n) (eq-eqb place n same)

    -- what is known of another block, and of this one
    known-other : (sound : Bool) (new old : PlaceSet) (n : ℕ) → IsPutIf (Some sound) old new place → (place == n) ≡ false → contains_place new n ≡ contains_place old n
    known-other true new old n put other = more-other new old n put other
    known-other false new old n put other = ap (λ (s : PlaceSet). contains_place s n) put

    known-this : (sound : Bool) (new old : PlaceSet) (n : ℕ) → IsPutIf (Some sound) old new place → place ≡ n → contains_place old n ≡ false → contains_place new n ≡ sound
    known-this true new old n put same none = more-this new old n put same
    known-this false new old n put same none = ap (λ (s : PlaceSet). contains_place s n) put ∙ none

    -- the first copy of a block
    first-copy : (sound : Bool) (old new : Places) → sound ≡ is_sound (verdict_of_copy p) → has_cid base p.0 ≡ false → HasOneMoreThan new.decided old.decided place → IsPutIf (Some sound) old.known new.known place
        → ArePlacesOf store base old → ArePlacesOf store (base ++ p ∷ []) new
    first-copy sound old new is fresh decided known h = record {
      known = λ c n at. ⊎_elim (λ same.
          let cid = this_cid c same in
          let fresh_here : has_cid base c ≡ false = ap (has_cid base) (sym cid) ∙ fresh in
          known-this sound new.known old.known n known (is_here c n at same) (h.known c n at ∙ knows-none base c fresh_here)
          ∙ is ∙ ap (λ (k : List ℕ). is_sound (verdict_with k (Some p.1))) cid ∙ sym (knows-this base p c fresh_here same))
          (λ other. known-other sound new.known old.known n known (elsewhere c n at other) ∙ h.known c n at ∙ sym (knows-other base p c other)) (cases_Bool (bytes_eq p.0 c));
      decided = λ c n at. ⊎_elim (λ same. more-this new.decided old.decided n decided (is_here c n at same) ∙ sym (last-this base p c (ap (has_cid base) (sym (this_cid c same)) ∙ fresh) same).0)
          (λ other. more-other new.decided old.decided n decided (elsewhere c n at other) ∙ h.decided c n at ∙ sym (has-other base p c other)) (cases_Bool (bytes_eq p.0 c));
    }

    -- a copy of a block, the first or a later one
    pub copied : (sound : Bool) (old new : Places) → sound ≡ is_sound (verdict_of_copy p) → IsDecided old new place sound → ArePlacesOf store base old → ArePlacesOf store (with_blocks base (p ∷ [])) new
    copied sound old new is decided h = by (contains_place old.decided place) refl where
      First : Type 0
      First = HasOneMoreThan new.decided old.decided place × IsPutIf (Some sound) old.known new.known place

      by : (had : Bool) → contains_place old.decided place ≡ had → ArePlacesOf store (with_blocks base (p ∷ [])) new
      by true had =
          let same : new ≡ old = MatchBool-at_true (new ≡ old) First had decided in
          subst (λ (b : Blocks). ArePlacesOf store b new) (sym (with-had base p (sym (h.decided p.0 place here) ∙ had))) (subst (λ (s : Places). ArePlacesOf store base s) (sym same) h)
      by false new_one =
          let first = MatchBool-at_false (new ≡ old) First new_one decided in
          let fresh : has_cid base p.0 ≡ false = sym (h.decided p.0 place here) ∙ new_one in
          subst (λ (b : Blocks). ArePlacesOf store b new) (sym (with-new base p fresh)) (first-copy sound old new is fresh first.0 first.1 h)

-- what a decision keeps
decided-kept : (old new : Places) (place : ℕ) (sound : Bool) → IsDecided old new place sound → HasAllOf new.decided old.decided
decided-kept old new place sound decided n has = by (contains_place old.decided place) refl where
  First : Type 0
  First = HasOneMoreThan new.decided old.decided place × IsPutIf (Some sound) old.known new.known place

  by : (had : Bool) → contains_place old.decided place ≡ had → contains_place new.decided n ≡ true
  by true had = ap (λ (s : Places). contains_place s.decided n) (MatchBool-at_true (new ≡ old) First had decided) ∙ has
  by false new_one =
      let first = MatchBool-at_false (new ≡ old) First new_one decided in
      first.0 n ∙ ap (λ b. (place == n) || b) has ∙ or-true (place == n)

-- ---- what was found of it

pub taken-nothing : (places : Places) (finding : Finding) → finding ≡ Nothing → TakesIn places places finding
taken-nothing places finding is store p found base h = kept store base p places (subst (λ (f : Finding). IsFinding store places.decided p f) is found) h

pub taken-copy : {T E : Type 0} (r : Result T E) (old new : Places) (finding : Finding) (place : ℕ) (sound : Bool) → finding ≡ CopyOf place sound → OnOk r (IsDecided old new place sound) → OnOk r (TakesIn old new finding)
taken-copy r old new finding place sound is = on_ok_weaker r (λ decided store p found base h.
    let copy : IsFinding store old.decided p (CopyOf place sound) = subst (λ (f : Finding). IsFinding store old.decided p f) is found in
    copied store base p place copy.0 sound old new copy.1 decided h)

pub kept-copy : {T E : Type 0} (r : Result T E) (old new : Places) (place : ℕ) (sound : Bool) → OnOk r (IsDecided old new place sound) → OnOk r (HasAllOf new.decided old.decided)
kept-copy r old new place sound = on_ok_weaker r (decided-kept old new place sound)

-- ---- many

-- what was found beside fewer positions was found beside more
found-beside : (store : Blocks) (more few : PlaceSet) (p : List ℕ × List ℕ) (finding : Finding) → HasAllOf more few → IsFinding store few p finding → IsFinding store more p finding
found-beside store more few p Nothing all is = λ place at. all place (is place at)
found-beside store more few p (CopyOf place sound) all is = is
found-beside store more few p NoMemory all is = tt

-- the blocks so far, and those decided before
pub record HasTaken (store : Blocks) (first now : Places) (pairs : Blocks) (count : ℕ) : Type 0 where
  pub added : AddsBlocks store first now (take count pairs)
  pub kept_all : HasAllOf now.decided first.decided

pub taken-none : (store : Blocks) (places : Places) (pairs : Blocks) → HasTaken store places places pairs 0
taken-none store places pairs = record { added = λ base h. h; kept_all = λ n has. has }

pub taken-more : (store : Blocks) (first now new : Places) (pairs : Blocks) (count : ℕ) (finding : Finding) → count < length pairs → IsFindingAt store first.decided pairs count finding
    → TakesIn now new finding → HasAllOf new.decided now.decided → HasTaken store first now pairs count → HasTaken store first new pairs (count + 1)
taken-more store first now new pairs count finding less found taken kept_more h =
    let p : List ℕ × List ℕ = slice_index_or pairs count ([], []) in
    let at : slice_get pairs count ≡ Some p = slice_get-get_or pairs count ([], []) less in
    let is : IsFinding store first.decided p finding = subst (λ (o : Option (List ℕ × List ℕ)). IfSome o (λ q. IsFinding store first.decided q finding)) at found in
    let longer : take (count + 1) pairs ≡ take count pairs ++ p ∷ [] = take_more pairs count ([], []) less in
    record {
      added = λ base places.
          subst (λ (b : Blocks). ArePlacesOf store b new) (sym (ap (with_blocks base) longer ∙ with_blocks-push base (take count pairs) p))
          (taken store p (found-beside store now.decided first.decided p finding h.kept_all is) (with_blocks base (take count pairs)) (h.added base places));
      kept_all = λ n has. kept_more n (h.kept_all n has);
    }
