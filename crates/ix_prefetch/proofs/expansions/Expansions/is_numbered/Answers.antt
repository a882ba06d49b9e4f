use Rattle.std.proofs.Common.{◌≡◌, ◌∙◌, ◌<◌, List, length, sym, ap, subst, arith}
use Rattle.std.specs.Prelude.{Some, slice_get}
use Rattle.std.specs.Bool.{OnTrue}
use Rattle.std.proofs.lemmas.Option.{slice_get-get_or}
use Rattle.ix_selector.specs.Residual.{Place}
use Rattle.ix_prefetch.specs.Expansions.{ExpansionTable, IsMet, HasNumber, table_of}
use Rattle.ix_prefetch.proofs.Tables.{numbered_if}
use Rattle.ix_prefetch.proofs.expansions.Expansions.is_numbered.Goals as goal

pub returns : goal.returns
returns c =
    let s = c.self.inside in
    let n = c.args.number in
    let x = c.index.result.now in
    let lt : n < length s.residuals.items = omega (arith, s.residuals.ok.0, c.len.ensures) in
    let at : slice_get s.residuals.items n ≡ Some x = slice_get-get_or s.residuals.items n x lt ∙ ap (λ (r : List Place). Some r) (sym c.index.ensures) in
    subst (λ (t : ExpansionTable). OnTrue c.is_same.result (HasNumber t c.args.residual.now n)) c.self.view_is
    (numbered_if (table_of s.store.now s.job.now s.residuals.items s.cids.items s.links.items) x c.args.residual.now n c.is_same.result c.self.invariant.selector at
    (subst (IsMet s.job.now.selector) (sym c.index.ensures) (c.self.invariant.met n x lt))
    (subst (λ (t : ExpansionTable). IsMet t.job.selector c.args.residual.now) (sym c.self.view_is) c.requires) c.is_same.ensures)
