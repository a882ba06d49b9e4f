-- What has a spelling, by the levels that lists and maps may still nest.
use Rattle.std.specs.Prelude.{ℕ, ◌≤◌, List, Option, Some, None}
use Rattle.ix_cbor.specs.Data.{Data, Items, Entries}
use Rattle.ix_cbor.specs.Spelling.{IsSpellable, AreSpellable, AreRising, Rises, nesting_of, items_nesting, entries_nesting}

-- data has a spelling, and lists and maps nest at most n deep in it
pub record Fits (n : ℕ) (d : Data) : Type 0 where
  pub parts : IsSpellable d
  pub nesting : nesting_of d ≤ n

-- so does each element
pub record ItemsFit (n : ℕ) (ds : Items) : Type 0 where
  pub parts : AreSpellable ds
  pub nesting : items_nesting ds ≤ n

-- the first key is above a key or none
abbrev pub RisesAbove : Option (List ℕ) → Entries → Type 0
RisesAbove None es = Unit {0}
RisesAbove (Some before) es = Rises before es

-- so does each value, and the keys rise, above a key or none
pub record EntriesFit (n : ℕ) (before : Option (List ℕ)) (es : Entries) : Type 0 where
  pub parts : AreRising es
  pub nesting : entries_nesting es ≤ n
  pub above : RisesAbove before es
