use Rattle.std.proofs.Common.{◌≡◌, ◌∙◌, [], List, map, get_or, false, refl, sym, ap, subst}
use Rattle.std.specs.Prelude.{All}
use Rattle.ix_selector.specs.Pattern.{IsSelector}
use Rattle.ix_selector.specs.Residual.{Place}
use Rattle.ix_store.specs.Store.{Blocks}
use Rattle.ix_store.specs.Memo.{hash_matches}
use Rattle.ix_walk.specs.declared.subtree.PendingLink.{PendingLink}
use Rattle.ix_walk.specs.Expansion.{AreLinksIn}
use Rattle.ix_prefetch.specs.Expansions.{ExpansionTable, IsMet, residual_in}
use Rattle.ix_prefetch.specs.Growing.{at_depth}
use Rattle.std.proofs.lemmas.Result.{err_from_is_err_and}
use Rattle.ix_prefetch.proofs.Adding.{some_of_block, adds_nothing, adds_same, damaged, links_met, block_links}
use Rattle.ix_prefetch.proofs.expansions.Expansions.push_block.Goals as goal

pub returns-in_err-links : goal.returns-in_err-links
returns-in_err-links c =
    let t = c.args.self.now in
    let p = err_from_is_err_and c.from_residual-in_err-links.result c.from_residual-in_err-links.ensures.1 in
    some_of_block t t c.args.block.cid (residual_in t c.args.task.residual) c.from_residual-in_err-links.result p.0 p.1 ([], adds_nothing t)

pub returns-then-not-hash_matches : goal.returns-then-not-hash_matches
returns-then-not-hash_matches c =
    let b = c.args.block in
    let place = c.args.task.place in
    record {
      block = (
        damaged c.args.self.now.store b.cid b.bytes place c.hash_matches.result c.requires.block
            (subst (λ (s : Blocks). c.hash_matches.result ≡ get_or (map hash_matches s) place false) (ap (λ (t : ExpansionTable). t.store) c.self.view_is) c.hash_matches.ensures) c.if-not-hash_matches.true,
        refl,
      );
      err = tt;
    }

pub push_links-requires : goal.push_links-requires
push_links-requires c =
    let t = c.args.self.now in
    let b = c.args.block in
    let places = residual_in t c.args.task.residual in
    let links = c.in_ok-links.links.items in
    let are = subst (λ (r : List Place). AreLinksIn b.bytes r 0 links) (c.in_ok-residual.ensures.same ∙ c.residual.ensures.value) c.in_ok-links.ensures in
    let selector = subst (λ (x : ExpansionTable). IsSelector x.job.selector) c.self.view_is c.self.invariant.selector in
    subst (λ (l : List PendingLink). All (λ f. IsMet t.job.selector f.residual) l) (sym c.as_slice.ensures.value)
    (links_met t.job.selector t.store b.cid b.bytes places links selector (subst (IsMet t.job.selector) c.residual.ensures.value c.residual.ensures.met) c.requires.block.value are)

pub returns : goal.returns
returns c =
    let t = c.args.self.now in
    let b = c.args.block in
    let places = residual_in t c.args.task.residual in
    let links = c.in_ok-links.links.items in
    let are = subst (λ (r : List Place). AreLinksIn b.bytes r 0 links) (c.in_ok-residual.ensures.same ∙ c.residual.ensures.value) c.in_ok-links.ensures in
    record {
      block = adds_same t c.push_links.new.self _ _ (ap (map (at_depth 0)) c.as_slice.ensures.value ∙ block_links t.store b.cid b.bytes places links c.requires.block.value are) c.in_ok-push_links.ensures.added;
      err = tt;
    }
