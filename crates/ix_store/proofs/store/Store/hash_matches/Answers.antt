use Rattle.std.proofs.Common.{◌≡◌, ◌∙◌, sym, subst, slice_get, List, ℕ, Some, None}
use Rattle.ix_store.specs.Store.{Blocks}
use Rattle.ix_store.specs.Memo.{hash_matches}
use Rattle.ix_store.proofs.Stores.{asked-of, asked-none}
use Rattle.ix_store.proofs.store.Store.hash_matches.Goals as goal

pub returns-in-Some-memo : goal.returns-in-Some-memo
returns-in-Some-memo c =
    let e : List ℕ × List ℕ = (c.in-Some.cid.now, c.in-Some.block.now) in
    let at : slice_get c.args.self.now c.args.place ≡ Some e = subst (λ (l : Blocks). slice_get l c.args.place ≡ Some e) (c.entries.ensures ∙ c.self.view_is) (sym c.in-Some.ensures) in
    asked-of hash_matches c.args.self.now c.args.place e _ _ at c.hash_matches.ensures

pub returns-in-None : goal.returns-in-None
returns-in-None c =
    let e : List ℕ × List ℕ = (c.in-Some.cid.now, c.in-Some.block.now) in
    let at : slice_get c.args.self.now c.args.place ≡ Some e = subst (λ (l : Blocks). slice_get l c.args.place ≡ Some e) (c.entries.ensures ∙ c.self.view_is) (sym c.in-Some.ensures) in
    asked-of hash_matches c.args.self.now c.args.place e _ _ at c.hash_matches-in-None.ensures

pub returns-in_default : goal.returns-in_default
returns-in_default c =
    asked-none hash_matches c.args.self.now c.args.place _ (subst (λ (l : Blocks). slice_get l c.args.place ≡ None) (c.entries.ensures ∙ c.self.view_is) (sym c.in_default.ensures))
