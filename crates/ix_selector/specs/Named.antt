-- The number that belongs to the name of a step.
use Rattle.std.specs.Prelude.{◌≡◌, ◌⊎◌, ℕ, List, [], ◌∷◌}
use Rattle.std.specs.Global.{Vec}
use Rattle.ix_selector.specs.Enters.{Step, key, nth}

-- the number belongs to the key
abbrev pub IsNumbered : List (Vec ℕ × ℕ) → List ℕ → ℕ → Type 0
IsNumbered [] l k = ⊥
IsNumbered (f ∷ fs) l k = ((f.0.items ≡ l) × (f.1 ≡ k)) ⊎ IsNumbered fs l k

-- the key isn't among the names
abbrev pub IsUnnamed : List (Vec ℕ × ℕ) → List ℕ → Type 0
IsUnnamed [] l = Unit {0}
IsUnnamed (f ∷ fs) l = (f.0.items ≡ l → ⊥) × IsUnnamed fs l

-- the number belongs to the key of the step
abbrev pub HasName : List (Vec ℕ × ℕ) → Step → ℕ → Type 0
HasName names (key l) k = IsNumbered names l k
HasName names (nth n) k = ⊥

-- the key of the step isn't among the names
abbrev pub HasNoName : List (Vec ℕ × ℕ) → Step → Type 0
HasNoName names (key l) = IsUnnamed names l
HasNoName names (nth n) = Unit {0}
