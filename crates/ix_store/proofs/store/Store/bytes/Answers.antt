use Rattle.std.proofs.Common.{◌≡◌, ◌∙◌, subst, map, slice_get, Some}
use Rattle.ix_store.proofs.Stores.{block, block-at}
use Rattle.ix_store.proofs.store.Store.bytes.Goals as goal

pub returns : goal.returns
returns c = subst (λ l. slice_get (map block l) c.args.place ≡ Some c.at.result.1.now) (c.entries.ensures ∙ c.self.view_is) (block-at _ c.args.place _ c.at.ensures)
