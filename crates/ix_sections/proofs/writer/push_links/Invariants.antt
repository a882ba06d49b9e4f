use Rattle.std.proofs.Common.{◌≡◌, ◌++◌, drop}
use Rattle.ix_cbor.specs.Spelling.{items_spelling}
use Rattle.ix_sections.specs.Writing.{links_to}
use Rattle.ix_sections.proofs.writer.push_links.Given as goal

abbrev pub invariant-loop-cid : goal.invariant-loop-cid
invariant-loop-cid l = l.out.items ++ items_spelling (links_to (drop l.cid-index l.cids)) ≡ l.initial.out.items ++ items_spelling (links_to l.cids)
