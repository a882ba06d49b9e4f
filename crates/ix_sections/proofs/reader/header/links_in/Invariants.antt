use Rattle.std.proofs.Common.{◌≡◌, ◌-◌, ◌++◌, List, ℕ, Ok}
use Rattle.ix_cbor.specs.Data.{Items}
use Rattle.ix_cbor.specs.Reading.{item_at, items_at}
use Rattle.ix_sections.specs.Standing.{MembersAreAt}
use Rattle.ix_sections.specs.Sections.{links_in}
use Rattle.ix_sections.proofs.reader.header.links_in.Given as goal

abbrev pub invariant-loop : goal.invariant-loop
invariant-loop l =
    (ds : Items) → MembersAreAt l.count l.members ds
    → (more : Items) × (after : List ℕ) × (items_at (item_at 510) (l.count - l.counter) l.rest ≡ Ok (more, after)) × (links_in ds ≡ l.links.items ++ links_in more)
