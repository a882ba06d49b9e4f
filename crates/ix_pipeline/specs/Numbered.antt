-- Items with numbers, as a ring holds them.
use Rattle.std.specs.Prelude.{◌≡◌, ◌≤◌, ◌<◌, ℕ, zero, suc, ◌+◌, List, [], ◌∷◌, length, Option, Some, None, MatchOption, ◌==◌, if◌then◌else◌, refl}
use Rattle.std.specs.Coded.{Coded, code_by, coded×, coded_list, coded_ℕ}
use Rattle.ix_pipeline.specs.declared.ring_fault.RingFault.{RingFault}
use Rattle.ix_pipeline.specs.declared.ring_fault.RingFault.TheVariants.{Passed, Far, Taken, Memory}

-- the next number to be popped, and the items with their numbers
pub record Numbered (T : Type 0) : Type 0 where
  pub next : ℕ
  pub entries : List (ℕ × T)

module _ {T : Type 0} where
  abbrev pub numbered_code : Coded T → Coded (Numbered T)
  numbered_code c = code_by (ℕ × List (ℕ × T)) (coded× coded_ℕ (coded_list (coded× coded_ℕ c))) (λ r. (r.next, r.entries)) (λ p. record { next = p.0; entries = p.1 }) (λ _. refl)

  -- the item in slot k
  abbrev pub slot : List (Option T) → ℕ → Option T
  slot [] k = None
  slot (o ∷ os) zero = o
  slot (o ∷ os) (suc k) = slot os k

  -- there is an item in slot k
  abbrev pub IsTaken : List (Option T) → ℕ → Type 0
  IsTaken os k = (x : T) × (slot os k ≡ Some x)

  -- the window was extended up to a slot and no further
  abbrev pub ReachesNoFurther : ℕ → List (Option T) → List (Option T) → Type 0
  ReachesNoFurther k old new = (most : ℕ) → k < most → length old ≤ most → length new ≤ most

  -- the items of slots that are numbered from n on
  abbrev pub entries_of : ℕ → List (Option T) → List (ℕ × T)
  entries_of n [] = []
  entries_of n (None ∷ os) = entries_of (n + 1) os
  entries_of n (Some x ∷ os) = (n, x) ∷ entries_of (n + 1) os

  -- the first item in a list of entries that has the number k
  abbrev pub entry_at : List (ℕ × T) → ℕ → Option T
  entry_at [] k = None
  entry_at (e ∷ es) k = if e.0 == k then Some e.1 else entry_at es k

  -- the item with the number k
  abbrev pub found : Numbered T → ℕ → Option T
  found r k = entry_at r.entries k

  -- each number that has an item is the next one or above it, and fits 32 bits
  abbrev pub IsHeldWithin : Numbered T → Type 0
  IsHeldWithin r = (k : ℕ) (x : T) → found r k ≡ Some x → (r.next ≤ k) × (k < 4294967296)

  -- the number n may be placed
  abbrev pub IsFree : Numbered T → ℕ → Type 0
  IsFree r n = (r.next ≤ n) × (n < r.next + 1048576) × (found r n ≡ None)

  -- the two rings differ at the number n alone
  abbrev pub IsSameBeside : ℕ → Numbered T → Numbered T → Type 0
  IsSameBeside n old new = (k : ℕ) → (k ≡ n → ⊥) → found new k ≡ found old k

  -- x was placed at its number
  abbrev pub IsPlaced : Numbered T → ℕ → T → Numbered T → Type 0
  IsPlaced old n x new = IsFree old n × (new.next ≡ old.next) × (found new n ≡ Some x) × IsSameBeside n old new

  -- x is returned with the first reason that holds
  abbrev pub IsRefused : Numbered T → ℕ → T → RingFault T → Type 0
  IsRefused r n x (Passed y) = (y ≡ x) × (n < r.next)
  IsRefused r n x (Far y) = (y ≡ x) × (r.next + 1048576 ≤ n)
  IsRefused r n x (Taken y) = (y ≡ x) × (r.next ≤ n) × (n < r.next + 1048576) × ((z : T) × (found r n ≡ Some z))
  IsRefused r n x (Memory y) = (y ≡ x) × IsFree r n

  -- the same, and nothing changed
  abbrev pub Refuses : Numbered T → ℕ → T → Numbered T → RingFault T → Type 0
  Refuses old n x new fault = (new ≡ old) × IsRefused old n x fault

  -- the reason is that memory ran out
  abbrev pub IsMemory : RingFault T → Type 0
  IsMemory (Passed x) = ⊥
  IsMemory (Far x) = ⊥
  IsMemory (Taken x) = ⊥
  IsMemory (Memory x) = Unit {0}

  -- the next item isn't there, and nothing changed
  abbrev pub HasNoNext : Numbered T → Numbered T → Type 0
  HasNoNext old new = (new ≡ old) × (found old old.next ≡ None)

  -- the next item was popped
  abbrev pub IsPopped : Numbered T → T → Numbered T → Type 0
  IsPopped old x new = (found old old.next ≡ Some x) × (new.next ≡ old.next + 1) × (found new old.next ≡ None) × IsSameBeside old.next old new

  -- the result of a pop: the next item, if it is there
  abbrev pub Pops : Numbered T → Option T → Numbered T → Type 0
  Pops old result new = MatchOption result (HasNoNext old new) (λ item. IsPopped old item new)
