use Rattle.std.proofs.Common.{◌↔◌, None, drop}
use Rattle.std.specs.Option.{option_map}
use Rattle.ix_cbor.specs.Fits.{ItemsFit, EntriesFit}
use Rattle.ix_cbor.specs.Data.{node_items, node_entries}
use Rattle.ix_cbor.proofs.canonical.+fits.Given as goal

abbrev pub invariant-entries_fit-loop-key : goal.invariant-entries_fit-loop-key
invariant-entries_fit-loop-key l =
    EntriesFit l.levels (option_map (λ k. k.now) l.before) (node_entries (drop l.key-index l.entries)) ↔ EntriesFit l.levels None (node_entries l.entries)

abbrev pub invariant-members_fit-loop-member : goal.invariant-members_fit-loop-member
invariant-members_fit-loop-member l =
    ItemsFit l.levels (node_items (drop l.member-index l.members)) ↔ ItemsFit l.levels (node_items l.members)
