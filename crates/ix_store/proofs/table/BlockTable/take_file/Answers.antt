use Rattle.std.specs.Arc.{arc_value}
use Rattle.std.proofs.Common.{◌≡◌, ◌∙◌, ap, map, ◌++◌, ◌∷◌, [], List, ℕ, rules}
use Rattle.ix_store.specs.Table.{files_of, file_bytes, pair_in, TableMeaning, with_file}
use Rattle.ix_store.specs.declared.table.File.{File}
use Rattle.ix_store.specs.declared.table.File.TheVariants.{Shared, Copied}
use Rattle.ix_store.proofs.Tables.{table, files-more, grows-more, pairs-kept}
use Rattle.ix_store.proofs.table.BlockTable.take_file.Goals as goal

pub returns-clause-taken : goal.returns-clause-taken
returns-clause-taken c =
    let files = c.self.inside.files.items in
    let entries = c.self.inside.entries.items in
    let before = files_of files c.self.inside.buffer.items in
    let more : List (List ℕ) = file_bytes (Shared c.in_ok-bytes.bytes) ∷ [] ∷ [] in
    let closed : c.push_reserved.new.self.items ≡ files ++ Copied c.replace-copied.result ∷ [] =
    c.push_reserved.ensures.items ∙ ap (λ (l : List File). l ++ Copied c.replace-copied.result ∷ []) c.in_ok-reserve.ensures.items in
    let taken : c.push_reserved-2.new.self.items ≡ (files ++ Copied c.replace-copied.result ∷ []) ++ Shared c.in_ok-bytes.bytes ∷ [] =
    c.push_reserved-2.ensures.items ∙ ap (λ (l : List File). l ++ Shared c.in_ok-bytes.bytes ∷ []) closed in
    let after : files_of c.push_reserved-2.new.self.items c.replace-copied.new.dest.items ≡ before ++ more =
    ap (λ (l : List File). files_of l c.replace-copied.new.dest.items) taken
    ∙ ap (files_of ((files ++ Copied c.replace-copied.result ∷ []) ++ Shared c.in_ok-bytes.bytes ∷ [])) (ap (λ v. v.items) c.replace-copied.ensures.after ∙ c.new.ensures.items)
    ∙ files-more files (Copied c.replace-copied.result) (Shared c.in_ok-bytes.bytes)
    ∙ ap (λ v. files_of files v.items ++ more) c.replace-copied.ensures.value in
    let shared : arc_value c.in_ok-bytes.bytes ≡ arc_value c.args.bytes.now = search rules in
    ap (λ (f : List (List ℕ)). table f (map (pair_in f) entries)) after
    ∙ ap (table (before ++ more)) (pairs-kept before (before ++ more) entries (grows-more before more) c.self.invariant)
    ∙ ap (λ (t : TableMeaning). with_file t (arc_value c.in_ok-bytes.bytes).items) c.self.view_is
    ∙ ap (λ v. with_file c.args.self.now v.items) shared
