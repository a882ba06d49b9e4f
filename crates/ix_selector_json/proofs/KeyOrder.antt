-- Entries in the order of their keys, no two of which are one.
use Rattle.std.proofs.Common.{◌≡◌, ℕ, suc, ◌+◌, ◌<◌, false, List, [], ◌∷◌, length, get_or, map, refl, sym, ap, ◌∙◌, subst, arith}
use Rattle.std.specs.Prelude.{IsPermutation}
use Rattle.std.specs.List.{AllAdjacentBelow}
use Rattle.std.specs.Ordering.{ordering_reverse, is_lt}
use Rattle.std.specs.declared.cmp.Ordering.{Ordering}
use Rattle.std.specs.declared.cmp.Ordering.TheVariants.{Less, Equal, Greater}
use Rattle.std.proofs.lemmas.List.{get_or-map, length-map}
use Rattle.std.proofs.lemmas.List.Sorted.{IsPermutation-map}
use Rattle.json.specs.Strict.{AreDistinct}
use Rattle.json.proofs.Unique.Keys.{Key, texts, AreDistinct-permutation}
use Rattle.ix_cbor.specs.Spelling.{key_cmp}
use Rattle.ix_cbor.proofs.Keys.{key_total, key_exact}
use Rattle.ix_selector_json.specs.Saying.{key_of}
use Rattle.ix_selector_json.proofs.Sayings.{Entry}

-- the key is below each of these
abbrev pub IsBelow : List ℕ → List Entry → Type 0
IsBelow k [] = Unit {0}
IsBelow k (e ∷ es) = (key_cmp k (key_of e) ≡ Less) × IsBelow k es

-- each key is below those after it
abbrev pub AreSorted : List Entry → Type 0
AreSorted [] = Unit {0}
AreSorted (e ∷ es) = IsBelow (key_of e) es × AreSorted es

-- below what another is below
below_more : (a b : List ℕ) (es : List Entry) → key_cmp a b ≡ Less → IsBelow b es → IsBelow a es
below_more a b [] low h = tt
below_more a b (e ∷ es) low h = (key_total.trans a b (key_of e) low h.0, below_more a b es low h.1)

abbrev pub Rise : List Entry → Type 0
Rise es = AllAdjacentBelow (λ a b. key_cmp (key_of a) (key_of b) ≡ Less) es (length es)

-- in a sorted list of entries the first key is below the others
first_below : (e : Entry) (es : List Entry) → Rise (e ∷ es) → AreSorted es → IsBelow (key_of e) es
first_below e [] h sorted = tt
first_below e (f ∷ es) h sorted = let low : key_cmp (key_of e) (key_of f) ≡ Less = h 0 e (omega arith) in (low, below_more (key_of e) (key_of f) es low sorted.0)

-- where each is below the next
pub sorted_from_rise : (es : List Entry) → Rise es → AreSorted es
sorted_from_rise [] h = tt
sorted_from_rise (e ∷ es) h = let rest = sorted_from_rise es behind in (first_below e es h rest, rest) where
  behind : Rise es
  behind k d l =
      let next : suc k + 1 ≡ suc (k + 1) = omega arith in
      subst (λ n. key_cmp (key_of (get_or es k d)) (key_of (get_or (e ∷ es) n d)) ≡ Less) next (h (suc k) d (omega arith))

-- two keys of which neither is below the other are equal
only_equal : (o p : Ordering) → o ≡ ordering_reverse p → is_lt p ≡ false → is_lt o ≡ false → o ≡ Equal
only_equal o Less e p q = absurd cc
only_equal o Equal e p q = e
only_equal o Greater e p q = let less : is_lt Less ≡ false = ap is_lt (sym e) ∙ q in absurd cc

-- neither of two keys that are one is below the other, and only of such
pub tied : (a b : List ℕ) → is_lt (key_cmp b a) ≡ false → is_lt (key_cmp a b) ≡ false → a ≡ b
tied a b p q = key_exact a b (only_equal (key_cmp a b) (key_cmp b a) (key_total.antisymm a b) p q)

-- the key of an entry, as a text that is lent
abbrev lent : Entry → Key
lent e = record { ref_ptr = (0, 0); now = key_of e }

-- the borrowed entries have the same keys
lent_keys : (es : List Entry) → texts (map lent es) ≡ map key_of es
lent_keys [] = refl
lent_keys (e ∷ es) = ap (λ ks. key_of e ∷ ks) (lent_keys es)

-- a key that stands twice in another order stands twice
pub found_twice : (old new : List Entry) (k : ℕ) → IsPermutation old new → k + 1 < length new
    → ((d : Entry) → key_of (get_or new k d) ≡ key_of (get_or new (k + 1) d)) → ¬ AreDistinct (map key_of old)
found_twice old [] k moved l same h = omega arith
found_twice old (e ∷ es) k moved l same h =
    let new = e ∷ es in
    let apart : AreDistinct (map key_of new) =
    subst AreDistinct (lent_keys new) (AreDistinct-permutation (map lent old) (map lent new) (IsPermutation-map lent old new moved) (subst AreDistinct (sym (lent_keys old)) h)) in
    apart k (k + 1) [] (omega arith) (omega (arith, length-map new key_of)) (get_or-map key_of new k e [] (omega arith) ∙ same e ∙ sym (get_or-map key_of new (k + 1) e [] l))
