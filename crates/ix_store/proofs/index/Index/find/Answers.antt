use Rattle.std.proofs.Common.{◌≡◌, ◌∙◌, subst, List, ℕ, Some}
use Rattle.ix_store.specs.Index.{place_after}
use Rattle.ix_store.specs.Store.{position_of}
use Rattle.ix_store.proofs.Indexes.{found-behind}
use Rattle.ix_store.proofs.index.Index.find.Goals as goal

pub returns-in-Overflow : goal.returns-in-Overflow
returns-in-Overflow c =
    let there = subst (λ (k : List ℕ). (p : ℕ) → position_of c.args.entries.now k ≡ Some p → place_after c.args.self.now k ≡ Some p) c.as_bytes.ensures.bytes c.in-Overflow.ensures.1 in
    c.copied.ensures ∙ c.get.ensures.value ∙ found-behind c.args.self.now c.args.entries.now c.args.cid.now c.requires there
