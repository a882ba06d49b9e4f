-- Links that wait on a stack, the next one last.
use Rattle.std.specs.Prelude.{◌≡◌, ℕ, List, ◌++◌, map, reverse, Option, IfNone, []}
use Rattle.ix_selector.specs.Pattern.{Pattern}
use Rattle.ix_walk.specs.declared.subtree.PendingLink.{PendingLink}
use Rattle.ix_walk.specs.Walking.{found_links, root_link, NoDeeper}

-- links are put before those that wait
abbrev pub IsPutBefore : List PendingLink → List PendingLink → List PendingLink → Type 0
IsPutBefore links old new = reverse new ≡ links ++ reverse old

-- all links to visit: those that wait, and after them the roots
abbrev pub all_waiting : Pattern → List PendingLink → List (List ℕ) → List PendingLink
all_waiting selector links roots = reverse links ++ map (root_link selector) roots

-- the next link to visit, or there is none
pub record IsNextLink (selector : Pattern) (old : List PendingLink) (roots : List (List ℕ)) (o : Option PendingLink) (new : List PendingLink) (rest : List (List ℕ)) : Type 0 where
  pub links : all_waiting selector old roots ≡ found_links o ++ all_waiting selector new rest
  pub deep : (bound : ℕ) → NoDeeper bound (reverse old) → NoDeeper bound (found_links o ++ reverse new)
  pub ends : IfNone o (all_waiting selector new rest ≡ [])
