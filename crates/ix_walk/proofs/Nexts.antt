-- The next link that is left, or the next root.
use Rattle.std.proofs.Common.{◌≡◌, ℕ, List, [], ◌∷◌, ◌++◌, map, sym, ◌∙◌, ap, subst, arith}
use Rattle.std.specs.Prelude.{Some, None}
use Rattle.ix_selector.specs.Pattern.{Pattern}
use Rattle.ix_selector.specs.Residual.{Place}
use Rattle.ix_walk.specs.declared.subtree.PendingLink.{PendingLink}
use Rattle.ix_walk.specs.declared.subtree.Frontier.{Frontier}
use Rattle.ix_selector.specs.Behind.{residual_of}
use Rattle.ix_walk.specs.Walking.{waiting, all_links, root_link, NoDeeper}
use Rattle.ix_walk.specs.Descent.{Finds}
use Rattle.ix_walk.specs.Arriving.{FindsNext}

-- a link is left
pub next_link : (selector : Pattern) (old new : Frontier) (roots : List (List ℕ)) (f : PendingLink) → Finds old (Some f) new → FindsNext selector old roots (Some f) new roots
next_link selector old new roots f finds = λ ss e.
    let g = finds ss e in (
      g.0,
      g.1,
      record {
        links = ap (λ (z : List PendingLink). z ++ map (root_link selector) roots) g.2.links;
        deep = λ bound n. subst (NoDeeper bound) g.2.links n;
        ends = tt;
      },
    )

-- no link is left, but a root
pub next_root : (selector : Pattern) (old new : Frontier) (roots rest : List (List ℕ)) (places : List Place) (c d : List ℕ) → Finds old None new → roots ≡ c ∷ rest → places ≡ residual_of selector → d ≡ c
    → FindsNext selector old roots (Some (record { residual = places; cid = d; depth = 0 })) new rest
next_root selector old new roots rest places c d finds first same is = λ ss e.
    let g = finds ss e in
    let nothing : all_links g.0 ≡ [] = ap all_links g.2.ends in
    let others = map (root_link selector) rest in (
      g.0,
      g.1,
      record {
        links =
            ap (λ (z : List PendingLink). z ++ map (root_link selector) roots) (g.2.links ∙ nothing)
            ∙ ap (map (root_link selector)) first
            ∙ ap (λ (r : List Place). waiting r 0 c ∷ others) (sym same)
            ∙ ap (λ (e : List ℕ). waiting places 0 e ∷ others) (sym is)
            ∙ ap (λ (z : List PendingLink). waiting places 0 d ∷ (z ++ others)) (sym nothing);
        deep = λ bound n. (omega arith, subst (NoDeeper bound) g.2.links n);
        ends = tt;
      },
    )
