use Rattle.std.proofs.Common.{◌≡◌, ◌∙◌, ap, cond, List, ℕ, Some, rules}
use Rattle.std.specs.Prelude.{bytes_eq}
use Rattle.std.specs.BTreeMap.{get}
use Rattle.std.specs.BTreeMap.Entry.{map_with_value}
use Rattle.std.specs.Cmp.Lexicographic.{slice_cmp}
use Rattle.std.specs.Ordering.{nat_cmp}
use Rattle.std.proofs.lemmas.Map.Text.{is_eq-slice_cmp}
use Rattle.ix_store.specs.Index.{place_after}
use Rattle.ix_store.proofs.index.Index.insert_overflow.Goals as goal

pub returns-in-Ok-clause-put : goal.returns-in-Ok-clause-put
returns-in-Ok-clause-put c k =
    let w = c.or_insert.result.now in
    let u : get (slice_cmp nat_cmp) (map_with_value c.in-Ok.entry w) k ≡ cond (bytes_eq c.args.cid.now k) (Some w) (place_after c.args.self.now k) = (c.in-Ok.ensures.update.0 w).0 k ∙ ap (λ b. cond b (Some w) (place_after c.args.self.now k)) (is_eq-slice_cmp _ k ∙ ap (λ (x : List ℕ). bytes_eq x k) c.in_ok-key.ensures) in
    search rules
