use Rattle.std.proofs.Common.{◌∙◌, ap, sym, map, take}
use Rattle.std.proofs.lemmas.List.{take-map}
use Rattle.ix_store.specs.Table.{files_of, pair_in, TableMeaning}
use Rattle.ix_store.proofs.Tables.{table}
use Rattle.ix_store.proofs.table.BlockTable.truncate.Goals as goal

pub returns : goal.returns
returns c =
    let pair = pair_in (files_of c.self.inside.files.items c.self.inside.buffer.items) in
    let cut = ap (map pair) c.truncate.ensures.items ∙ sym (take-map pair c.args.count c.self.inside.entries.items) in
    ap (table (files_of c.self.inside.files.items c.self.inside.buffer.items)) cut ∙ ap (λ (t : TableMeaning). table t.files (take c.args.count t.pairs)) c.self.view_is
