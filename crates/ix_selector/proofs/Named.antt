-- What a binary search finds among names that rise, and where fields lead.
use Rattle.std.proofs.Common.{◌≡◌, ℕ, zero, suc, ◌<◌, inl, inr, ⊎_elim, Bool, true, false, List, [], ◌∷◌, map, get_or, length, refl, sym, ◌∙◌, ap, subst, arith}
use Rattle.std.specs.Prelude.{nat_lt}
use Rattle.std.specs.Global.{Vec}
use Rattle.std.specs.List.{HoldsAt}
use Rattle.std.specs.List.Sorted.{IsPartitionPoint, IsNonDecreasingBy, IsSortedBy}
use Rattle.std.specs.Ordering.{is_lt, ordering_index, ordering_reverse}
use Rattle.std.specs.declared.cmp.Ordering.{Ordering}
use Rattle.std.specs.declared.cmp.Ordering.TheVariants.{Less, Equal, Greater}
use Rattle.std.proofs.lemmas.Bool.{ltb-true, ltb-false}
use Rattle.std.proofs.lemmas.Cmp.{tied_itself}
use Rattle.std.proofs.lemmas.List.Sorted.{searchable_from_sorted}
use Rattle.ix_cbor.specs.Spelling.{key_cmp}
use Rattle.ix_cbor.proofs.Keys.{key_total, key_exact, less_not_equal}
use Rattle.ix_selector.specs.Pattern.{Pattern, fields, fields_of, Around, after_step, AreGuarded, IsGuarded}
use Rattle.ix_selector.specs.Enters.{Step, key, nth, Path, Frame, IsNamed, first, later, Enters, below_fields}
use Rattle.ix_selector.specs.Places.{at, named_at, IsBefore, AreRising}
use Rattle.ix_selector.specs.Named.{IsNumbered, IsUnnamed, HasName, HasNoName}
use Rattle.ix_selector.specs.States.{LeadsTo, LeadsNowhere}

-- ---- keys that compare as equal are one key

-- no key is before itself
pub not_before : (a b : List ℕ) → key_cmp a b ≡ Less → a ≡ b → ⊥
not_before a b h same =
    let tied : key_cmp a b ≡ Equal = subst (λ c. key_cmp a c ≡ Equal) same (tied_itself key_total a) in
    less_not_equal (sym h ∙ tied)

-- ---- names that rise

-- neighbours rise
next_rises : (names : List (Vec ℕ × ℕ)) (k : ℕ) (d : Vec ℕ × ℕ) → AreRising names → suc k < length names → key_cmp (get_or names k d).0.items (get_or names (suc k) d).0.items ≡ Less
next_rises [] k d h within = absurd (omega arith)
next_rises (f ∷ []) k d h within = absurd (omega arith)
next_rises (f ∷ g ∷ fs) zero d h within = h.0.0
next_rises (f ∷ g ∷ fs) (suc k) d h within = next_rises (g ∷ fs) k d h.1 (omega arith)

-- if one key is before another, that one isn't before it
not_back : (a b : List ℕ) → key_cmp a b ≡ Less → is_lt (key_cmp b a) ≡ false
not_back a b h = ap is_lt (key_total.antisymm b a ∙ ap ordering_reverse h)

-- so rising names are sorted for a binary search
sorted_names : (names : List (Vec ℕ × ℕ)) → AreRising names → IsSortedBy (λ (x y : Vec ℕ × ℕ). is_lt (key_cmp x.0.items y.0.items)) names
sorted_names names h k d low within =
    subst (λ j. is_lt (key_cmp (get_or names j d).0.items (get_or names k d).0.items) ≡ false) {x = suc k} (omega arith)
    (not_back (get_or names k d).0.items (get_or names (suc k) d).0.items (next_rises names k d h (omega arith)))

-- the comparisons with a key rise along them
pub names_searchable : (names : List (Vec ℕ × ℕ)) (l : List ℕ) → AreRising names → IsNonDecreasingBy (λ (y : Vec ℕ × ℕ). ordering_index (key_cmp y.0.items l)) names
names_searchable names l h = searchable_from_sorted key_total (λ (y : Vec ℕ × ℕ). y.0.items) names l (sorted_names names h)

-- ---- what the search answers

-- the number at a position belongs to its key
numbered_at : (names : List (Vec ℕ × ℕ)) (l : List ℕ) (i : ℕ) (d : Vec ℕ × ℕ) → i < length names → (get_or names i d).0.items ≡ l → IsNumbered names l (get_or names i d).1
numbered_at [] l i d within same = absurd (omega arith)
numbered_at (f ∷ fs) l zero d within same = inl (same, refl)
numbered_at (f ∷ fs) l (suc i) d within same = inr (numbered_at fs l i d (omega arith) same)

-- what the search finds is the number of the key
pub found_name : (names : List (Vec ℕ × ℕ)) (l : List ℕ) (i : ℕ) (f : Vec ℕ × ℕ) → i < length names → f ≡ get_or names i f → HoldsAt (λ (y : Vec ℕ × ℕ). key_cmp y.0.items l ≡ Equal) names i → IsNumbered names l f.1
found_name names l i f within is equal =
    subst (λ (x : Vec ℕ × ℕ). IsNumbered names l x.1) (sym is) (numbered_at names l i f within (key_exact _ _ (equal f)))

-- a key that no position has isn't among the names
unnamed_by : (names : List (Vec ℕ × ℕ)) (l : List ℕ) → ((k : ℕ) (d : Vec ℕ × ℕ) → k < length names → (get_or names k d).0.items ≡ l → ⊥) → IsUnnamed names l
unnamed_by [] l none = tt
unnamed_by (f ∷ fs) l none = (none 0 f (omega arith), unnamed_by fs l (λ k d within. none (suc k) d (omega arith)))

-- an ordering isn't both
less_no_equal : (o : Ordering) → o ≡ Less → o ≡ Equal → ⊥
less_no_equal o less equal = absurd cc

-- an ordering isn't both
greater_no_equal : (o : Ordering) → o ≡ Greater → o ≡ Equal → ⊥
greater_no_equal o greater equal = absurd cc

-- if the search fails, the key isn't among the names: all before the point are less, all after greater
pub not_found : (names : List (Vec ℕ × ℕ)) (l : List ℕ) (i : ℕ) → IsPartitionPoint (λ (y : Vec ℕ × ℕ). key_cmp y.0.items l ≡ Less) (λ (y : Vec ℕ × ℕ). key_cmp y.0.items l ≡ Greater) names i → IsUnnamed names l
not_found names l i parted = unnamed_by names l (λ k d within same. by k d within (subst (λ c. key_cmp c l ≡ Equal) (sym same) (tied_itself key_total l)) (nat_lt k i) refl) where
  by : (k : ℕ) (d : Vec ℕ × ℕ) → k < length names → key_cmp (get_or names k d).0.items l ≡ Equal → (b : Bool) → nat_lt k i ≡ b → ⊥
  by k d within tied true e = less_no_equal _ (parted.0 k d (omega arith) (ltb-true k i e)) tied
  by k d within tied false e = greater_no_equal _ (parted.1 k d (ltb-false k i e) within) tied

-- ---- where fields lead

-- a key that is before all has no number among them
pub before_unnumbered : (names : List (Vec ℕ × ℕ)) (l : List ℕ) (k : ℕ) → IsBefore l names → IsNumbered names l k → ⊥
before_unnumbered [] l k before n = absurd n
before_unnumbered (f ∷ fs) l k before n =
    ⊎_elim
    (λ (here : (f.0.items ≡ l) × (f.1 ≡ k)). not_before l f.0.items before.0 (sym here.0))
    (λ (there : IsNumbered fs l k). before_unnumbered fs l k before.1 there)
    n

-- a number in the table is a name in the definition
numbered_named : (ps : List Pattern) (names : List (Vec ℕ × ℕ)) (l : List ℕ) (k : ℕ) → IsNumbered names l k → IsNamed l (at ps k) (fields_of (map (named_at ps) names))
numbered_named ps [] l k n = absurd n
numbered_named ps (f ∷ fs) l k n =
    ⊎_elim
    (λ (here : (f.0.items ≡ l) × (f.1 ≡ k)). subst (λ m. IsNamed m (at ps k) (fields_of (map (named_at ps) (f ∷ fs)))) here.0 (subst (λ j. IsNamed f.0.items (at ps j) (fields_of (map (named_at ps) (f ∷ fs)))) here.1 first))
    (λ (there : IsNumbered fs l k). later (numbered_named ps fs l k there))
    n

-- and back
named_numbered : (ps : List Pattern) (names : List (Vec ℕ × ℕ)) (l : List ℕ) (s : Pattern) → IsNamed l s (fields_of (map (named_at ps) names)) → (k : ℕ) × IsNumbered names l k × (at ps k ≡ s)
named_numbered ps [] l s n = elim n [ ]
named_numbered ps (f ∷ fs) l s first = (f.1, inl (refl, refl), refl)
named_numbered ps (f ∷ fs) l s (later n) = let found = named_numbered ps fs l s n in (found.0, inr found.1, found.2)

-- rising names have a key once
one_number : (names : List (Vec ℕ × ℕ)) (l : List ℕ) (k j : ℕ) → AreRising names → IsNumbered names l k → IsNumbered names l j → k ≡ j
one_number [] l k j rising n m = absurd n
one_number (f ∷ fs) l k j rising n m =
    ⊎_elim
    (λ (a : (f.0.items ≡ l) × (f.1 ≡ k)).
    ⊎_elim
    (λ (b : (f.0.items ≡ l) × (f.1 ≡ j)). sym a.1 ∙ b.1)
    (λ (b : IsNumbered fs l j). absurd (before_unnumbered fs l j (subst (λ c. IsBefore c fs) a.0 rising.0) b))
    m)
    (λ (a : IsNumbered fs l k).
    ⊎_elim
    (λ (b : (f.0.items ≡ l) × (f.1 ≡ j)). absurd (before_unnumbered fs l k (subst (λ c. IsBefore c fs) b.0 rising.0) a))
    (λ (b : IsNumbered fs l j). one_number fs l k j rising.1 a b)
    m)
    n

-- a key that isn't among the names has no number
unnamed_no_number : (names : List (Vec ℕ × ℕ)) (l : List ℕ) (k : ℕ) → IsUnnamed names l → IsNumbered names l k → ⊥
unnamed_no_number [] l k none n = absurd n
unnamed_no_number (f ∷ fs) l k none n =
    ⊎_elim (λ (here : (f.0.items ≡ l) × (f.1 ≡ k)). none.0 here.0) (λ (there : IsNumbered fs l k). unnamed_no_number fs l k none.1 there) n

-- the selector of a key is guarded after one more step
named_guarded : (a : Around) (ps : List Pattern) (names : List (Vec ℕ × ℕ)) (l : List ℕ) (k : ℕ) → IsNumbered names l k → AreGuarded a (fields_of (map (named_at ps) names)) → IsGuarded (after_step a) (at ps k)
named_guarded a ps [] l k n g = absurd n
named_guarded a ps (f ∷ fs) l k n g =
    ⊎_elim
    (λ (here : (f.0.items ≡ l) × (f.1 ≡ k)). subst (λ j. IsGuarded (after_step a) (at ps j)) here.1 g.0)
    (λ (there : IsNumbered fs l k). named_guarded a ps fs l k there g.1)
    n

-- fields lead to the selector at the number that belongs to the name of the step
pub fields_lead : (ps : List Pattern) (names : List (Vec ℕ × ℕ)) (t : Step) (k : ℕ) → AreRising names → HasName names t k → LeadsTo (fields (fields_of (map (named_at ps) names))) t (at ps k)
fields_lead ps names (key l) k rising n = record {
  enters = λ e p. (λ h. into e p h, λ h. below_fields (numbered_named ps names l k n) h);
  guarded = λ a g. named_guarded a ps names l k n g;
} where
  into : (e : List Frame) (p : Path) → Enters (fields (fields_of (map (named_at ps) names))) e (key l ∷ p) → Enters (at ps k) e p
  into e p (below_fields {s = s} named h) =
      let found = named_numbered ps names l s named in
      subst (λ q. Enters q e p) (sym found.2 ∙ ap (at ps) (one_number names l found.0 k rising found.1 n)) h
fields_lead ps names (nth m) k rising n = absurd n

-- fields without the key enter nothing after the step
pub fields_nowhere : (ps : List Pattern) (names : List (Vec ℕ × ℕ)) (t : Step) → HasNoName names t → LeadsNowhere (fields (fields_of (map (named_at ps) names))) t
fields_nowhere ps names (key l) none e p (below_fields {s = s} named h) = let found = named_numbered ps names l s named in unnamed_no_number names l found.0 none found.1
fields_nowhere ps names (nth m) none e p h = elim h [ ]
