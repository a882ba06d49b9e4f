-- Visiting a link: its visit, and the root after it.
use Rattle.std.proofs.Common.{◌≡◌, ℕ, ◌+◌, Bool, List, [], ◌∷◌, ◌++◌, reverse, sym, ◌∙◌, ap}
use Rattle.std.specs.Prelude.{Option, Some, None, option_map}
use Rattle.ix_cbor.specs.Data.{Data}
use Rattle.ix_selector.specs.Residual.{Place}
use Rattle.ix_walk.specs.declared.subtree.Child.TheVariants.{Link, Open}
use Rattle.ix_walk.specs.declared.subtree.OpenNode.{OpenNode}
use Rattle.ix_walk.specs.declared.subtree.PendingLink.{PendingLink}
use Rattle.ix_walk.specs.declared.subtree.Frontier.{Frontier}
use Rattle.ix_store.specs.Store.{Blocks, position_of}
use Rattle.ix_walk.specs.Walking.{Going, data_inside, waiting, links_below, links_inside, all_links, opened, found, stands, with_next, frontier_stands}
use Rattle.ix_walk.specs.Descent.{IsNode}
use Rattle.ix_walk.specs.Arriving.{IsReading, Goes, Roots, ArrivesBy}
use Rattle.ix_walk.proofs.Readings.{item_of_block}
use Rattle.ix_walk.proofs.Stands.{open_on, reversed_push, trail_without}

-- links at a root that is there
rooted : (places : List Place) (depth : ℕ) (value : Option Data) (d : Data) (xs ys : List PendingLink) → value ≡ Some d → ys ≡ links_below places depth d ++ xs → ys ≡ links_inside places depth value ++ xs
rooted places depth value d xs ys is e = e ∙ sym (ap (λ v. links_inside places depth v ++ xs) is)

-- a root in which no link can be
pub roots_flat : (places : List Place) (b at : List ℕ) (depth : ℕ) (old new : Frontier) → IsNode places b depth None at → new ≡ old → Roots places (Some b) depth old new
roots_flat places b at depth old new node same = λ value is ss e.
    let n = node is.0 [] (item_of_block b is.0 is.2) in (
      ss,
      ap frontier_stands same ∙ e,
      rooted places depth value is.0 (all_links ss) (all_links ss) is.1 (ap (λ z. z ++ all_links ss) (sym n.1)),
    )

-- a root that is a link
pub roots_link : (places : List Place) (b at : List ℕ) (depth : ℕ) (f : PendingLink) (old new : Frontier) → IsNode places b depth (Some (Link f)) at → old.next ≡ None → new.at ≡ old.at → new.stack.items ≡ old.stack.items → new.next ≡ Some f
    → Roots places (Some b) depth old new
roots_link places b at depth f old new node none at_is stack_is next_is = λ value is ss e.
    let n = node is.0 [] (item_of_block b is.0 is.2) in
    let below : stands new.at (reverse new.stack.items) ≡ Some ss = ap (λ l. stands l (reverse new.stack.items)) at_is ∙ ap (λ os. stands old.at (reverse os)) stack_is ∙ sym (trail_without old none) ∙ e in (
      found f ∷ ss,
      ap (λ o. option_map (with_next o) (stands new.at (reverse new.stack.items))) next_is ∙ ap (option_map (with_next (Some f))) below,
      rooted places depth value is.0 (all_links ss) (all_links (found f ∷ ss)) is.1 (ap (λ z. z ++ all_links ss) (sym n.1)),
    )

-- a root that is a list or map, after which the walk goes back to where it was
pub roots_open : (places : List Place) (b at : List ℕ) (depth : ℕ) (o root : OpenNode) (old new : Frontier) → IsNode places b depth (Some (Open o)) at → old.next ≡ None → new.next ≡ None → new.at ≡ at
    → new.stack.items ≡ old.stack.items ++ root ∷ [] → root ≡ record { residual = o.residual; children = o.children; depth = o.depth; resume_at = Some old.at }
    → Roots places (Some b) depth old new
roots_open places b at depth o root old new node none next_is at_is pushed root_is = λ value is ss e.
    let n = node is.0 [] (item_of_block b is.0 is.2) in
    let r : OpenNode = record { residual = o.residual; children = o.children; depth = o.depth; resume_at = Some old.at } in
    let below : stands old.at (reverse old.stack.items) ≡ Some ss = sym (trail_without old none) ∙ e in
    let on : stands at (r ∷ reverse old.stack.items) ≡ Some (opened r n.1 ∷ ss) = open_on at r (reverse old.stack.items) n.1 [] ss n.2 below in
    let stack_is : reverse new.stack.items ≡ r ∷ reverse old.stack.items = reversed_push new.stack.items old.stack.items root pushed ∙ ap (λ x. x ∷ reverse old.stack.items) root_is in (
      opened r n.1 ∷ ss,
      trail_without new next_is ∙ ap (λ l. stands l (reverse new.stack.items)) at_is ∙ ap (stands at) stack_is ∙ on,
      rooted places depth value is.0 (all_links ss) (all_links (opened r n.1 ∷ ss)) is.1 (ap (λ z. z ++ all_links ss) n.3.reaches),
    )

-- a visit, and the root after it
pub arrives : (store : Blocks) (number seq : ℕ) (places : List Place) (depth : ℕ) (c d : List ℕ) (block : Option ℕ) (bytes entered : Option (List ℕ)) (malformed : Bool) (had has : Option Going) (old new : Frontier)
    → d ≡ c → block ≡ position_of store d → IsReading store c bytes malformed → Goes store (waiting places depth c) had entered has → Roots places entered (depth + 1) old new
    → ArrivesBy store number seq (waiting places depth c) had old (record { job = number; seq = seq; depth = depth; cid = d; block = block; malformed = malformed }) has new
arrives store number seq places depth c d block bytes entered malformed had has old new same found reading goes roots = λ ss e.
    let r = roots (data_inside store had (waiting places depth c)) goes.inside ss e in (
      r.0,
      r.1,
      record {
        visit =
            ap (λ (b : Option ℕ). record { job = number; seq = seq; depth = depth; cid = d; block = b; malformed = malformed }) found
            ∙ ap (λ (e : List ℕ). record { job = number; seq = seq; depth = depth; cid = e; block = position_of store e; malformed = malformed }) same
            ∙ ap (λ (m : Bool). record { job = number; seq = seq; depth = depth; cid = c; block = position_of store c; malformed = m }) reading.1;
        expanded = goes.expanded;
        links = r.2;
      },
    )
