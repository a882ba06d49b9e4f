use Rattle.std.proofs.Common.{◌≡◌, ◌-◌, List, ℕ, Ok}
use Rattle.std.specs.Prelude.{option_map}
use Rattle.ix_cbor.specs.Data.{Entries}
use Rattle.ix_cbor.specs.Reading.{item_at, entries_at}
use Rattle.ix_sections.specs.Standing.{EntriesAreAt}
use Rattle.ix_sections.specs.Reading.{value_at}
use Rattle.ix_sections.proofs.reader.header.value_at.Given as goal

abbrev pub invariant-loop : goal.invariant-loop
invariant-loop l =
    (es : Entries) → EntriesAreAt l.count l.entries es
    → (more : Entries) × (after : List ℕ) × (entries_at (item_at 511) (option_map (λ k. k.now) l.before) (l.count - l.counter) l.rest ≡ Ok (more, after)) × (value_at l.key es ≡ value_at l.key more)
