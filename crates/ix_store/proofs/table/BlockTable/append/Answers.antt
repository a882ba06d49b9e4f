use Rattle.std.proofs.Common.{◌∙◌, ap, map, ◌++◌, ◌∷◌, [], ℕ, List}
use Rattle.ix_store.specs.Table.{file_bytes, pair_in}
use Rattle.ix_store.proofs.Tables.{grows-last, pairs-kept}
use Rattle.ix_store.proofs.table.BlockTable.append.Goals as goal

pub returns-clause-pairs : goal.returns-clause-pairs
returns-clause-pairs c =
    let files = map file_bytes c.self.inside.files.items in
    let entries = c.self.inside.entries.items in
    let buffer = c.self.inside.buffer.items in
    ap (λ (b : List ℕ). map (pair_in (files ++ b ∷ [])) entries) c.in_ok-extend_from_slice.ensures.items
    ∙ pairs-kept (files ++ buffer ∷ []) (files ++ (buffer ++ c.args.bytes.now) ∷ []) entries (grows-last files buffer c.args.bytes.now) c.self.invariant
    ∙ ap (λ t. t.pairs) c.self.view_is
