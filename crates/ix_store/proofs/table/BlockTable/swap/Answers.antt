use Rattle.std.proofs.Common.{◌≡◌, ◌∙◌, ◌<◌, ap, sym, subst, map, length, arith}
use Rattle.std.specs.List.{swap, All}
use Rattle.std.proofs.lemmas.List.{length-map}
use Rattle.ix_store.specs.Table.{files_of, pair_in, IsWithin, TableMeaning}
use Rattle.ix_store.proofs.Tables.{table, none, map-swap, All-swap}
use Rattle.ix_store.proofs.table.BlockTable.swap.Goals as goal

pub invariant_of-self : goal.invariant_of-self
invariant_of-self c =
    let files = files_of c.self.inside.files.items c.self.inside.buffer.items in
    let entries = c.self.inside.entries.items in
    let many : length c.args.self.now.pairs ≡ length entries = ap (λ t. length t.pairs) (sym c.self.view_is) ∙ length-map entries (pair_in files) in
    let first : c.args.first < length entries = omega (arith, many, c.requires.first) in
    let second : c.args.second < length entries = omega (arith, many, c.requires.second) in
    subst (All (IsWithin files)) (sym c.swap.ensures.items) (All-swap (IsWithin files) entries c.args.first c.args.second none first second c.self.invariant)

pub returns : goal.returns
returns c =
    let pair = pair_in (files_of c.self.inside.files.items c.self.inside.buffer.items) in
    let entries = c.self.inside.entries.items in
    let many : length c.args.self.now.pairs ≡ length entries = ap (λ t. length t.pairs) (sym c.self.view_is) ∙ length-map entries pair in
    let first : c.args.first < length entries = omega (arith, many, c.requires.first) in
    let second : c.args.second < length entries = omega (arith, many, c.requires.second) in
    let swapped = ap (map pair) c.swap.ensures.items ∙ map-swap pair entries c.args.first c.args.second none first second in
    ap (table (files_of c.self.inside.files.items c.self.inside.buffer.items)) swapped ∙ ap (λ (t : TableMeaning). table t.files (swap t.pairs c.args.first c.args.second)) c.self.view_is
