-- Traversing all of a block.
use Rattle.std.proofs.Common.{◌≡◌, ℕ, suc, ◌<◌, List, [], ◌∷◌, ◌++◌, length, refl, sym, ◌∙◌, ap, append_assoc, append-nil, arith}
use Rattle.std.specs.Prelude.{Some, None}
use Rattle.ix_cbor.proofs.Steps.{ok_same}
use Rattle.ix_selector.specs.Residual.{Place}
use Rattle.ix_walk.specs.declared.subtree.Frontier.{Frontier}
use Rattle.ix_walk.specs.declared.subtree.PendingLink.{PendingLink}
use Rattle.ix_walk.specs.Walking.{links_below, Subtree, all_links, frontier_stands, subtrees}
use Rattle.ix_walk.specs.Descent.{IsItem, Finds}
use Rattle.ix_walk.specs.Arriving.{Roots}
use Rattle.ix_walk.proofs.Readings.{item_of_block}
use Rattle.ix_walk.proofs.Stands.{subtrees_are}
use Rattle.ix_walk.specs.Expansion.{IsBlock, AreLinksIn}

-- these links were found, and the others are left on the frontier
pub record IsExpanding (block : List ℕ) (places : List Place) (depth : ℕ) (links : List PendingLink) (t : Frontier) : Type 0 where
  pub left : List Subtree
  pub stands : frontier_stands t ≡ Some left
  pub all : AreLinksIn block places depth (links ++ all_links left)

-- a block is an item
pub block_item : (b : List ℕ) → IsBlock b → IsItem b
block_item b is = ((is.0, []), item_of_block b is.0 is.1)

-- how many links are left
abbrev pub links_to_come : Frontier → ℕ
links_to_come t = length (all_links (subtrees t))

-- where a block is entered, none was found
pub begins : (block : List ℕ) (places : List Place) (depth : ℕ) (links : List PendingLink) (old new : Frontier) → links ≡ [] → frontier_stands old ≡ Some [] → IsBlock block → Roots places (Some block) depth old new
    → IsExpanding block places depth links new
begins block places depth links old new none empty is roots =
    let r = roots (Some is.0) (is.0, refl, is.1) [] empty in
    record {
      left = r.0;
      stands = r.1;
      all = λ d e. ap (λ (z : List PendingLink). z ++ all_links r.0) none ∙ r.2 ∙ append-nil (links_below places depth is.0) ∙ ap (links_below places depth) (ok_same is.0 d (sym is.1 ∙ e));
    }

-- one more link is found
pub goes_on : (block : List ℕ) (places : List Place) (depth : ℕ) (links more : List PendingLink) (f : PendingLink) (old new : Frontier) → IsExpanding block places depth links old → Finds old (Some f) new → more ≡ links ++ f ∷ []
    → IsExpanding block places depth more new
goes_on block places depth links more f old new is finds pushed =
    let g = finds is.left is.stands in
    record {
      left = g.0;
      stands = g.1;
      all = λ d e. ap (λ (z : List PendingLink). z ++ all_links g.0) pushed ∙ append_assoc links (f ∷ []) (all_links g.0) ∙ ap (λ (z : List PendingLink). links ++ z) (sym g.2.links) ∙ is.all d e;
    }

-- so fewer are left
pub fewer : (block : List ℕ) (places : List Place) (depth : ℕ) (links : List PendingLink) (f : PendingLink) (old new : Frontier) → IsExpanding block places depth links old → Finds old (Some f) new → links_to_come new < links_to_come old
fewer block places depth links f old new is finds =
    let g = finds is.left is.stands in
    let o : links_to_come old ≡ length (all_links is.left) = ap (λ (z : List Subtree). length (all_links z)) (subtrees_are old is.left is.stands) in
    let n : links_to_come new ≡ length (all_links g.0) = ap (λ (z : List Subtree). length (all_links z)) (subtrees_are new g.0 g.1) in
    let l : length (all_links is.left) ≡ suc (length (all_links g.0)) = ap length g.2.links in omega (arith, o, n, l)

-- where no link is left, these are all
pub ends : (block : List ℕ) (places : List Place) (depth : ℕ) (links : List PendingLink) (old new : Frontier) → IsExpanding block places depth links old → Finds old None new → AreLinksIn block places depth links
ends block places depth links old new is finds d e =
    let g = finds is.left is.stands in
    sym (append-nil links) ∙ ap (λ (z : List PendingLink). links ++ z) (sym (g.2.links ∙ ap all_links g.2.ends)) ∙ is.all d e
