use Rattle.std.proofs.Common.{◌≡◌, ◌-◌, List, ℕ, Ok}
use Rattle.ix_cbor.specs.Data.{Items}
use Rattle.ix_cbor.specs.Reading.{item_at, items_at}
use Rattle.ix_sections.specs.Standing.{MembersAreAt}
use Rattle.ix_sections.specs.Reading.{are_links}
use Rattle.ix_sections.proofs.reader.header.are_links.Given as goal

abbrev pub invariant-loop : goal.invariant-loop
invariant-loop l =
    (ds : Items) → MembersAreAt l.count l.members ds
    → (more : Items) × (after : List ℕ) × (items_at (item_at 510) (l.count - l.counter) l.rest ≡ Ok (more, after)) × (are_links ds ≡ are_links more)
