-- What a walk has expanded, with one CID more.
use Rattle.std.proofs.Common.{◌≡◌, ℕ, [], Bool, true, false, cond, List, refl, sym, ◌∙◌, ap, arith}
use Rattle.std.specs.Prelude.{Option, Some, None, if◌then◌else◌, not, nat_eq, nat_lt, ◌==◌, ◌&&◌, ◌||◌, bytes_eq}
use Rattle.std.specs.Bool.{OnFalse}
use Rattle.std.specs.List.{list_any}
use Rattle.std.specs.declared.cmp.Ordering.{Ordering}
use Rattle.std.specs.declared.cmp.Ordering.TheVariants.{Less, Equal, Greater}
use Rattle.std.specs.Ordering.{nat_cmp, ordering_then, is_eq}
use Rattle.std.specs.Cmp.Lexicographic.{slice_cmp}
use Rattle.std.specs.Map.{lookup}
use Rattle.std.specs.BTreeMap.{BTreeMap, is_at, get, UpdatesBy}
use Rattle.std.specs.BTreeSet.{BTreeSet, contains, Updates, IsUnchanged}
use Rattle.std.proofs.Math.Path.{fun_ext}
use Rattle.std.proofs.lemmas.Bool.Decides.{nat_tests}
use Rattle.std.proofs.lemmas.Map.Text.{is_eq-slice_cmp}
use Rattle.std.proofs.Math.Bool.{and-false, and-true}
use Rattle.ix_selector.specs.Residual.{Place}
use Rattle.ix_selector.specs.Behind.{same_residual, residual_order}
use Rattle.ix_selector.specs.Compared.{residual_equivalence, residual_total, residual_ties}
use Rattle.ix_walk.specs.declared.visited_set.VisitedSet.{VisitedSet}
use Rattle.ix_store.specs.declared.places.PlaceSet.{PlaceSet}
use Rattle.ix_store.specs.PlaceSet.{contains_place}
use Rattle.ix_walk.specs.VisitedSet.{is_in, cid_order, has_expanded, is_same_going, IsNoted}

-- an order by two keys is equal if both are
then_is : (o p : Ordering) → is_eq (ordering_then o p) ≡ (is_eq o && is_eq p)
then_is Less p = refl
then_is Equal p = refl
then_is Greater p = refl

-- the order of numbers is equal if they are
number_is : (m n : ℕ) → is_eq (nat_cmp m n) ≡ nat_eq m n
number_is m n = by_tests (nat_lt m n) (m == n) refl refl where
  by_tests : (below same : Bool) → nat_lt m n ≡ below → (m == n) ≡ same → is_eq (cond below Less (cond same Equal Greater)) ≡ same
  by_tests true true b s = absurd (apart b s) where
    apart : nat_lt m n ≡ true → (m == n) ≡ true → ⊥
    apart b s = grind (arith, nat_tests)
  by_tests true false b s = refl
  by_tests false true b s = refl
  by_tests false false b s = refl

-- so is the order of CIDs with residuals
cid_is : (c d : List ℕ) (places others : List Place) → is_eq (cid_order (c, places) (d, others)) ≡ (bytes_eq c d && same_residual places others)
cid_is c d places others =
    then_is (slice_cmp nat_cmp c d) (residual_order places others) ∙ ap (λ (b : Bool). b && is_eq (residual_order places others)) (is_eq-slice_cmp c d) ∙ ap (λ (b : Bool). bytes_eq c d && b) (sym (residual_ties places others))

-- a test that is joined with what was there
or_is : (a b c : Bool) → a ≡ b → cond a true c ≡ (b || c)
or_is true true c e = refl
or_is true false c e = absurd cc
or_is false true c e = absurd cc
or_is false false c e = refl

-- what is true negated was false
was_not : (b : Bool) → true ≡ not b → b ≡ false
was_not true e = absurd cc
was_not false e = refl

-- and back
was : (b : Bool) → false ≡ not b → b ≡ true
was true e = refl
was false e = absurd cc

-- ---- by the place of its block, where as much was left as at a root

-- these places in place of those
abbrev pub with_places : VisitedSet → PlaceSet → VisitedSet
with_places g set = record { root_residual = g.root_residual; places = set; blocks = g.blocks; inline = g.inline }

-- a place more
pub noted_whole : (old : VisitedSet) (set : PlaceSet) (n : ℕ) (c : List ℕ) (places : List Place) → same_residual old.root_residual places ≡ true → contains_place old.places n ≡ false
    → ((m : ℕ) → contains_place set m ≡ ((n == m) || contains_place old.places m)) → IsNoted old (with_places old set) (Some n) c places true
noted_whole old set n c places all first more = (ap (λ (b : Bool). if b then contains_place old.places n else is_in n (get residual_order old.blocks places)) all ∙ first, here) where
  by : (m : ℕ) (others : List Place) (b : Bool) → same_residual places others ≡ b
      → (if b then contains_place set m else is_in m (get residual_order old.blocks others)) ≡ ((nat_eq n m && b) || (if b then contains_place old.places m else is_in m (get residual_order old.blocks others)))
  by m others true e = more m ∙ ap (λ (b : Bool). b || contains_place old.places m) (sym (and-true (nat_eq n m)))
  by m others false e = ap (λ (b : Bool). b || is_in m (get residual_order old.blocks others)) (sym (and-false (nat_eq n m)))

  here : (b : Option ℕ) (d : List ℕ) (others : List Place) → has_expanded (with_places old set) b d others ≡ (is_same_going (Some n) c places b d others || has_expanded old b d others)
  here None d others = refl
  here (Some m) d others =
      let same : same_residual old.root_residual others ≡ same_residual places others = residual_equivalence.congr old.root_residual places others all in
      ap (λ (b : Bool). if b then contains_place set m else is_in m (get residual_order old.blocks others)) same
      ∙ by m others (same_residual places others) refl
      ∙ ap (λ (b : Bool). (nat_eq n m && same_residual places others) || (if b then contains_place old.places m else is_in m (get residual_order old.blocks others))) (sym same)

-- the same places
pub noted_whole_again : (old : VisitedSet) (n : ℕ) (c : List ℕ) (places : List Place) → same_residual old.root_residual places ≡ true → contains_place old.places n ≡ true → IsNoted old old (Some n) c places false
noted_whole_again old n c places all again = (ap (λ (b : Bool). if b then contains_place old.places n else is_in n (get residual_order old.blocks places)) all ∙ again, λ b d others. refl)

-- ---- by the place of its block, where something else was left

-- an ordering that passes the test is `Equal`
equal : (o : Ordering) → is_eq o ≡ true → o ≡ Equal
equal Less e = absurd cc
equal Equal e = refl
equal Greater e = absurd cc

-- where the same is left, the same is found
found_same : (m : BTreeMap (List Place) (BTreeSet ℕ)) (places others : List Place) → is_eq (residual_order places others) ≡ true → get residual_order m others ≡ get residual_order m places
found_same m places others e =
    ap (λ (test : List Place → Bool). lookup test m.entries) (fun_ext (λ k. ap is_eq (sym (residual_total.congr places others k (equal (residual_order places others) e)))))

-- these places are then kept where that was left
abbrev pub Keeps : BTreeMap (List Place) (BTreeSet ℕ) → BTreeMap (List Place) (BTreeSet ℕ) → List Place → BTreeSet ℕ → Type 0
Keeps m n places t = UpdatesBy residual_order (residual_order places) m n (Some t)

-- these in place of those
abbrev pub with_blocks : VisitedSet → BTreeMap (List Place) (BTreeSet ℕ) → VisitedSet
with_blocks g m = record { root_residual = g.root_residual; places = g.places; blocks = m; inline = g.inline }

-- what is the same as at a root is not the same as what isn't
apart : (whole places others : List Place) → same_residual whole places ≡ false → same_residual whole others ≡ true → same_residual places others ≡ false
apart whole places others other e = residual_equivalence.symm places others ∙ sym (residual_equivalence.congr whole others places e) ∙ other

-- a place more
pub noted_place : (old : VisitedSet) (blocks : BTreeMap (List Place) (BTreeSet ℕ)) (n : ℕ) (c : List ℕ) (places : List Place) (t : BTreeSet ℕ) → same_residual old.root_residual places ≡ false → Keeps old.blocks blocks places t
    → is_in n (get residual_order old.blocks places) ≡ false → ((m : ℕ) → contains nat_cmp t m ≡ (nat_eq n m || is_in m (get residual_order old.blocks places))) → IsNoted old (with_blocks old blocks) (Some n) c places true
noted_place old blocks n c places t other keeps first more = (ap (λ (b : Bool). if b then contains_place old.places n else is_in n (get residual_order old.blocks places)) other ∙ first, here) where
  by : (m : ℕ) (others : List Place) (b : Bool) → is_eq (residual_order places others) ≡ b → is_in m (cond b (Some t) (get residual_order old.blocks others)) ≡ ((nat_eq n m && b) || is_in m (get residual_order old.blocks others))
  by m others true e =
      more m ∙ ap (λ (o : Option (BTreeSet ℕ)). nat_eq n m || is_in m o) (sym (found_same old.blocks places others e)) ∙ ap (λ (b : Bool). b || is_in m (get residual_order old.blocks others)) (sym (and-true (nat_eq n m)))
  by m others false e = ap (λ (b : Bool). b || is_in m (get residual_order old.blocks others)) (sym (and-false (nat_eq n m)))

  at : (m : ℕ) (others : List Place) (b : Bool) → same_residual old.root_residual others ≡ b
      → (if b then contains_place old.places m else is_in m (get residual_order blocks others)) ≡ ((nat_eq n m && same_residual places others) || (if b then contains_place old.places m else is_in m (get residual_order old.blocks others)))
  at m others true e = ap (λ (b : Bool). b || contains_place old.places m) (sym (and-false (nat_eq n m)) ∙ ap (λ (b : Bool). nat_eq n m && b) (sym (apart old.root_residual places others other e)))
  at m others false e =
      ap (is_in m) (keeps.0 others) ∙ by m others (is_eq (residual_order places others)) refl
      ∙ ap (λ (b : Bool). (nat_eq n m && b) || is_in m (get residual_order old.blocks others)) (sym (residual_ties places others))

  here : (b : Option ℕ) (d : List ℕ) (others : List Place) → has_expanded (with_blocks old blocks) b d others ≡ (is_same_going (Some n) c places b d others || has_expanded old b d others)
  here None d others = refl
  here (Some m) d others = at m others (same_residual old.root_residual others) refl

-- the same places
pub noted_no_place : (old : VisitedSet) (blocks : BTreeMap (List Place) (BTreeSet ℕ)) (n : ℕ) (c : List ℕ) (places : List Place) (t : BTreeSet ℕ) → same_residual old.root_residual places ≡ false → Keeps old.blocks blocks places t
    → is_in n (get residual_order old.blocks places) ≡ true → ((m : ℕ) → contains nat_cmp t m ≡ is_in m (get residual_order old.blocks places)) → IsNoted old (with_blocks old blocks) (Some n) c places false
noted_no_place old blocks n c places t other keeps again same = (ap (λ (b : Bool). if b then contains_place old.places n else is_in n (get residual_order old.blocks places)) other ∙ again, here) where
  by : (m : ℕ) (others : List Place) (b : Bool) → is_eq (residual_order places others) ≡ b → is_in m (cond b (Some t) (get residual_order old.blocks others)) ≡ is_in m (get residual_order old.blocks others)
  by m others true e = same m ∙ ap (is_in m) (sym (found_same old.blocks places others e))
  by m others false e = refl

  here : (b : Option ℕ) (d : List ℕ) (others : List Place) → has_expanded (with_blocks old blocks) b d others ≡ has_expanded old b d others
  here None d others = refl
  here (Some m) d others =
      ap (λ (b : Bool). if same_residual old.root_residual others then contains_place old.places m else b) (ap (is_in m) (keeps.0 others) ∙ by m others (is_eq (residual_order places others)) refl)

-- among those that were there
pub noted_among : (old : VisitedSet) (blocks : BTreeMap (List Place) (BTreeSet ℕ)) (n : ℕ) (c : List ℕ) (places : List Place) (s t : BTreeSet ℕ) (added : Bool) → same_residual old.root_residual places ≡ false → get residual_order old.blocks places ≡ Some s
    → Keeps old.blocks blocks places t → added ≡ not (contains nat_cmp s n) → Updates nat_cmp s t n true → OnFalse added (IsUnchanged s t) → IsNoted old (with_blocks old blocks) (Some n) c places added
noted_among old blocks n c places s t true other had keeps first updates same =
    noted_place old blocks n c places t other keeps (ap (is_in n) had ∙ was_not (contains nat_cmp s n) first)
    (λ m. updates.0 m ∙ or_is (is_eq (nat_cmp n m)) (nat_eq n m) (contains nat_cmp s m) (number_is n m) ∙ ap (λ (o : Option (BTreeSet ℕ)). nat_eq n m || is_in m o) (sym had))
noted_among old blocks n c places s t false other had keeps first updates same =
    noted_no_place old blocks n c places t other keeps (ap (is_in n) had ∙ was (contains nat_cmp s n) first)
    (λ m. ap (λ (ks : List ℕ). list_any (is_at (nat_cmp m)) ks) same ∙ ap (is_in m) (sym had))

-- where none were there
pub noted_alone : (old : VisitedSet) (blocks : BTreeMap (List Place) (BTreeSet ℕ)) (n : ℕ) (c : List ℕ) (places : List Place) (s t : BTreeSet ℕ) → same_residual old.root_residual places ≡ false → get residual_order old.blocks places ≡ None
    → Keeps old.blocks blocks places t → s.keys ≡ [] → Updates nat_cmp s t n true → IsNoted old (with_blocks old blocks) (Some n) c places true
noted_alone old blocks n c places s t other had keeps none updates =
    noted_place old blocks n c places t other keeps (ap (is_in n) had)
    (λ m. updates.0 m ∙ or_is (is_eq (nat_cmp n m)) (nat_eq n m) (contains nat_cmp s m) (number_is n m) ∙ ap (λ (ks : List ℕ). nat_eq n m || list_any (is_at (nat_cmp m)) ks) none
    ∙ ap (λ (o : Option (BTreeSet ℕ)). nat_eq n m || is_in m o) (sym had))

-- ---- by the CID

-- the set with other CIDs without a block
abbrev pub with_others : VisitedSet → BTreeSet (List ℕ × List Place) → VisitedSet
with_others g others = record { root_residual = g.root_residual; places = g.places; blocks = g.blocks; inline = others }

-- recording a CID without a block
pub noted_other : (old : VisitedSet) (set : BTreeSet (List ℕ × List Place)) (c : List ℕ) (places : List Place) (added : Bool) → added ≡ not (contains cid_order old.inline (c, places)) → Updates cid_order old.inline set (c, places) true
    → OnFalse added (IsUnchanged old.inline set) → IsNoted old (with_others old set) None c places added
noted_other old set c places true first updates same = (was_not (contains cid_order old.inline (c, places)) first, here) where
  here : (b : Option ℕ) (d : List ℕ) (others : List Place) → has_expanded (with_others old set) b d others ≡ (is_same_going None c places b d others || has_expanded old b d others)
  here (Some m) d others = refl
  here None d others = updates.0 (d, others) ∙ or_is (is_eq (cid_order (c, places) (d, others))) (bytes_eq c d && same_residual places others) (contains cid_order old.inline (d, others)) (cid_is c d places others)
noted_other old set c places false first updates same = (was (contains cid_order old.inline (c, places)) first, here) where
  here : (b : Option ℕ) (d : List ℕ) (others : List Place) → has_expanded (with_others old set) b d others ≡ has_expanded old b d others
  here (Some m) d others = refl
  here None d others = ap (λ (ks : List (List ℕ × List Place)). list_any (is_at (cid_order (d, others))) ks) same
