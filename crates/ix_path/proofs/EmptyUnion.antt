-- The union of no selectors, beside whose residual others are held.
use Rattle.std.proofs.Common.{◌≡◌, ◌≢◌, Bool, true, false, List, [], ◌∷◌, refl, sym, ◌∙◌, ap, subst}
use Rattle.std.specs.Prelude.{◌↔◌, Ok, codes, not}
use Rattle.std.specs.Global.{Vec}
use Rattle.ix_cbor.specs.declared.node.Node.{Node}
use Rattle.ix_cbor.specs.declared.node.Node.TheVariants as variants
use Rattle.ix_cbor.proofs.Fitting.{data_of-list}
use Rattle.ix_cbor.specs.Data.{Data, list, no_items, data_of, node_items}
use Rattle.ix_selector.specs.declared.fault.SelFault.{SelFault}
use Rattle.ix_selector.specs.declared.fault.SelFault.TheVariants.{Memory}
use Rattle.ix_selector.specs.Gives.{Fails}
use Rattle.ix_selector.specs.Pattern.{Pattern, union, no_members, IsSelector}
use Rattle.ix_selector.specs.IsEntered.{is_entered}
use Rattle.ix_selector.specs.Reading.{selector_of, selector_at}
use Rattle.ix_selector.specs.Residual.{Place}
use Rattle.ix_selector.specs.Behind.{residual_of, residual_at, same_residual}
use Rattle.ix_selector.specs.Spelled.{one_key}
use Rattle.ix_selector.proofs.Guarded.{err_no_ok, ok_same}
use Rattle.ix_selector.proofs.Onward.{left-entered}
use Rattle.ix_path.proofs.Ends.{failed}

-- its data
abbrev pub nothing_data : Data
nothing_data = one_key (codes "|") (list no_items)

-- which a node with this key and no members has
pub nothing_node : (tree d : Data) (v : Vec Node) → v.items ≡ [] → tree ≡ d → d ≡ one_key (codes "|") (data_of (variants.List v)) → tree ≡ nothing_data
nothing_node tree d v none same is = same ∙ is ∙ ap (one_key (codes "|")) (data_of-list v ∙ ap (λ l. list (node_items l)) none)

reads_nothing : selector_of nothing_data ≡ Ok (union no_members)
unfolding selector_at
reads_nothing = refl

-- they are read as it
pub nothing_is_read : (d : Data) (s : Pattern) → d ≡ nothing_data → selector_of d ≡ Ok s → s ≡ union no_members
nothing_is_read d s is read = ok_same s (union no_members) (sym read ∙ ap selector_of is ∙ reads_nothing)

-- and only memory is in the way
pub nothing_is_right : (d : Data) (fault : SelFault) → d ≡ nothing_data → Fails fault (selector_of d) → fault ≢ Memory → ⊥
nothing_is_right d fault is h other = err_no_ok fault (sym (failed fault (selector_of d) h other) ∙ ap selector_of is ∙ reads_nothing)

-- nothing is left of it
nothing_left : residual_of (union no_members) ≡ []
unfolding residual_of
nothing_left = refl

-- the residual is that of nothing exactly if it is empty
same_as_nothing : (left : List Place) (b : Bool) → (b ≡ false ↔ left ≡ []) → not (same_residual left []) ≡ b
unfolding same_residual
same_as_nothing [] b h = sym (h.1 refl)
same_as_nothing (x ∷ xs) true h = refl
same_as_nothing (x ∷ xs) false h = let empty : x ∷ xs ≡ [] = h.0 refl in absurd cc

-- so it is another exactly if the selector enters its own place
pub enters_by_residual : (s : Pattern) (left none : List Place) → IsSelector s → left ≡ residual_of s → none ≡ residual_of (union no_members) → not (same_residual left none) ≡ is_entered s []
unfolding residual_at
enters_by_residual s left none rules is empty =
    ap (λ l. not (same_residual left l)) (empty ∙ nothing_left) ∙ same_as_nothing left (is_entered s []) (subst (λ l. is_entered s [] ≡ false ↔ l ≡ []) (sym is) (left-entered s rules []))
