use Rattle.std.proofs.Common.{◌≡◌, ◌∙◌, List, ap, sym, subst, map}
use Rattle.std.specs.List.{All}
use Rattle.ix_store.specs.Table.{files_of, pair_in, IsWithin, TableMeaning}
use Rattle.ix_store.specs.Sound.{passing_first}
use Rattle.ix_store.specs.declared.table.Entry.{Entry}
use Rattle.ix_store.proofs.SoundFirst.{map-passing_first, All-passing_first}
use Rattle.ix_store.proofs.table.BlockTable.sort_passing_first.Goals as goal

pub invariant_of-self : goal.invariant_of-self
invariant_of-self c =
    let files = files_of c.self.inside.files.items c.self.inside.buffer.items in
    let entries = c.self.inside.entries.items in
    let sorted : c.in_ok-self-inside.field-0.items ≡ passing_first c.args.verdicts.now entries = c.in_ok-self-inside.ensures ∙ ap (λ (l : List Entry). passing_first c.args.verdicts.now l) c.as_slice.ensures.value in
    subst (All (IsWithin files)) (sym sorted) (All-passing_first (IsWithin files) c.args.verdicts.now entries c.self.invariant)

pub returns : goal.returns
returns c =
    let pair = pair_in (files_of c.self.inside.files.items c.self.inside.buffer.items) in
    let entries = c.self.inside.entries.items in
    ap (map pair) (c.in_ok-self-inside.ensures ∙ ap (λ (l : List Entry). passing_first c.args.verdicts.now l) c.as_slice.ensures.value)
    ∙ map-passing_first pair c.args.verdicts.now entries
    ∙ ap (λ (t : TableMeaning). passing_first c.args.verdicts.now t.pairs) c.self.view_is
