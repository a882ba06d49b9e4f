use Rattle.std.proofs.Common.{◌≡◌, arith, subst, sym}
use Rattle.std.proofs.lemmas.Bool.{ltb-true, ltb-false}
use Rattle.ix_cbor.specs.Data.{data_of}
use Rattle.ix_cbor.specs.Data as data_forms
use Rattle.ix_selector.specs.Shapes.{around_of, entries_data, Shapes}
use Rattle.ix_selector.proofs.Parts.{is_map_node, one_shape, no_shape}
use Rattle.ix_selector.proofs.read.shape_of.Goals as goal
use Rattle.ix_selector.proofs.read.shape_of.Goals.{in_default-as_slice-via-then-as_slice-lt1, in_default-as_slice-via-else-as_slice-lt1+else-this-lt2}

pub returns : goal.returns
returns c = λ read.
    let es = c.as_slice.result.now in
    let is : data_of c.args.node.now ≡ data_forms.map (entries_data es) = is_map_node c.args.node.now c.in-Map.entries es c.in-Map.is c.as_slice.ensures.value in
    subst (λ m. Shapes read (around_of c.args.around) c.shape_named.result m)
    (sym (one_shape read (around_of c.args.around) (data_of c.args.node.now) es c.index-key-0.result c.index-body-0.result c.as_slice-2.result.now is (omega arith) c.as_slice-2.ensures.value))
    (c.shape_named.ensures read)

pub returns-in_default-as_slice : goal.returns-in_default-as_slice
returns-in_default-as_slice c = λ read.
    let es = c.as_slice.result.now in
    let is : data_of c.args.node.now ≡ data_forms.map (entries_data es) = is_map_node c.args.node.now c.in-Map.entries es c.in-Map.is c.as_slice.ensures.value in
    elim c.in_default-as_slice.branch [
      | in_default-as_slice-via-then-as_slice-lt1 w ↦ no_shape read (around_of c.args.around) (data_of c.args.node.now) es is (λ e. omega (arith, ltb-true, ltb-false))
      | in_default-as_slice-via-else-as_slice-lt1+else-this-lt2 w ↦ no_shape read (around_of c.args.around) (data_of c.args.node.now) es is (λ e. omega (arith, ltb-true, ltb-false))
    ]
