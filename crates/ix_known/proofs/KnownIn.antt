-- The positions of known blocks, one block after the other.
use Rattle.std.proofs.Common.{◌≡◌, ℕ, ◌+◌, ◌<◌, ◌≤◌, Bool, true, false, ◌||◌, List, length, map, get_or, refl, sym, ap, ◌∙◌, subst, arith}
use Rattle.std.specs.Prelude.{Option, None, Some, ◌==◌, slice_get, option_map}
use Rattle.std.proofs.lemmas.Option.{same_Some, get_or_from_slice_get, slice_get-map}
use Rattle.std.proofs.lemmas.Bool.{eqb-true, eq-eqb}
use Rattle.ix_store.specs.Store.{Blocks}
use Rattle.ix_store.specs.declared.places.PlaceSet.{PlaceSet}
use Rattle.ix_store.specs.PlaceSet.{contains_place, HasOneMoreThan}
use Rattle.ix_store.proofs.Blocks.{place_within}
use Rattle.ix_store.proofs.Stores.{asked-there}
use Rattle.ix_known.specs.Known.{knows, IsKnownIn, IsAnswerOf, IsPutIf}

-- which blocks of a store are known
abbrev pub answers_of : Blocks → Blocks → List Bool
answers_of store base = map (λ e. knows base e.0) store

-- a set has those of the first positions, so many, whose answer is yes
pub record HasFirst (answers : List Bool) (set : PlaceSet) (count : ℕ) : Type 0 where
  pub before : (n : ℕ) → n < count → contains_place set n ≡ get_or answers n false
  pub after : (n : ℕ) → count ≤ n → contains_place set n ≡ false

-- an empty set has those of none
pub first-none : (answers : List Bool) (set : PlaceSet) → ((n : ℕ) → contains_place set n ≡ false) → HasFirst answers set 0
first-none answers set empty = record { before = λ n less. absurd (omega (arith, less)); after = λ n within. empty n }

-- the next position, whose answer is no
pub first-skipped : (answers : List Bool) (set : PlaceSet) (count : ℕ) → HasFirst answers set count → get_or answers count false ≡ false → HasFirst answers set (count + 1)
first-skipped answers set count h isnt = record {
  before = λ n less. by n less (count == n) refl;
  after = λ n within. h.after n (omega (arith, within));
} where
  by : (n : ℕ) → n < count + 1 → (b : Bool) → (count == n) ≡ b → contains_place set n ≡ get_or answers n false
  by n less true e = let same = eqb-true count n e in h.after n (omega (arith, same)) ∙ sym (subst (λ m. get_or answers m false ≡ false) same isnt)
  by n less false e = h.before n (let apart : (count ≡ n → ⊥) = λ same. let bad : true ≡ false = sym (eq-eqb count n same) ∙ e in cc in omega (arith, less, apart))

-- the next position, whose answer is yes and which is put in
pub first-put : (answers : List Bool) (set more : PlaceSet) (count : ℕ) → HasFirst answers set count → get_or answers count false ≡ true → HasOneMoreThan more set count → HasFirst answers more (count + 1)
first-put answers set more count h is put = record {
  before = λ n less. put n ∙ by n less (count == n) refl;
  after = λ n within. put n ∙ away n within (count == n) refl;
} where
  by : (n : ℕ) → n < count + 1 → (b : Bool) → (count == n) ≡ b → ((count == n) || contains_place set n) ≡ get_or answers n false
  by n less true e = ap (λ b. b || contains_place set n) e ∙ sym (subst (λ m. get_or answers m false ≡ true) (eqb-true count n e) is)
  by n less false e = ap (λ b. b || contains_place set n) e ∙ h.before n (let apart : (count ≡ n → ⊥) = λ same. let bad : true ≡ false = sym (eq-eqb count n same) ∙ e in cc in omega (arith, less, apart))

  away : (n : ℕ) → count + 1 ≤ n → (b : Bool) → (count == n) ≡ b → ((count == n) || contains_place set n) ≡ false
  away n within true e = let same = eqb-true count n e in absurd (omega (arith, within, same))
  away n within false e = ap (λ b. b || contains_place set n) e ∙ h.after n (omega (arith, within))

-- once all were asked, the set has the positions of the blocks that the base knows
pub first-all : (store base : Blocks) (set : PlaceSet) (count : ℕ) → HasFirst (answers_of store base) set count → length store ≤ count → IsKnownIn store base set
first-all store base set count h all c place at =
    let within : place < length store = place_within place store c (sym at) in
    let less : place < count = omega (arith, within, all) in
    let asked = asked-there (λ e. knows base e.0) store place c (get_or (answers_of store base) place false) false (sym at) refl in
    h.before place less ∙ asked.2

-- the next position, by its answer
pub first-step : (store base : Blocks) (set more : PlaceSet) (count : ℕ) (answer : Option Bool) → HasFirst (answers_of store base) set count → IsAnswerOf store base count answer → IsPutIf answer set more count → HasFirst (answers_of store base) more (count + 1)
first-step store base set more count None h is put = absurd put
first-step store base set more count (Some true) h is put = first-put (answers_of store base) set more count h (get_or_from_slice_get (answers_of store base) count true false is) put
first-step store base set more count (Some false) h is put =
    subst (λ s. HasFirst (answers_of store base) s (count + 1)) (sym put) (first-skipped (answers_of store base) set count h (get_or_from_slice_get (answers_of store base) count false false is))

-- the answer for a CID at a position
pub answer-there : (store base : Blocks) (place : ℕ) (c : List ℕ) → slice_get (map (λ e. e.0) store) place ≡ Some c → slice_get (answers_of store base) place ≡ Some (knows base c)
answer-there store base place c at =
    slice_get-map (λ (e : List ℕ × List ℕ). knows base e.0) store place ∙ named (slice_get store place) (sym (slice_get-map (λ (e : List ℕ × List ℕ). e.0) store place) ∙ at) where
      named : (o : Option (List ℕ × List ℕ)) → option_map (λ e. e.0) o ≡ Some c → option_map (λ e. knows base e.0) o ≡ Some (knows base c)
      named None h = absurd cc
      named (Some e) h = ap (λ (k : List ℕ). Some (knows base k)) (same_Some e.0 c h)
