use Rattle.std.proofs.Common.{◌≡◌, false, true, arith}
use Rattle.std.specs.Prelude.{bytes_eq, codes}
use Rattle.ix_cbor.specs.Data.{data_of}
use Rattle.ix_selector.proofs.Parts.{is_map_node, no_envelope, other_key, in_envelope}
use Rattle.ix_selector.proofs.read.without_envelope.Goals as goal

pub returns-in_default-as_slice-2 : goal.returns-in_default-as_slice-2
returns-in_default-as_slice-2 c =
    let es = c.as_slice.result.now in
    no_envelope (data_of c.args.node.now) es (is_map_node c.args.node.now c.in-Map.entries es c.in-Map.is c.as_slice.ensures.value) (λ e. omega arith)

pub returns-then-eq : goal.returns-then-eq
returns-then-eq c =
    let es = c.as_slice.result.now in
    let test : bytes_eq c.as_slice-2.result.now (codes "selector") ≡ true = cc in
    in_envelope (data_of c.args.node.now) es c.index-key-0.result c.index-inner-0.result c.as_slice-2.result.now (is_map_node c.args.node.now c.in-Map.entries es c.in-Map.is c.as_slice.ensures.value) (omega arith) c.as_slice-2.ensures.value test

pub returns-else-eq : goal.returns-else-eq
returns-else-eq c =
    let es = c.as_slice.result.now in
    let test : bytes_eq c.as_slice-2.result.now (codes "selector") ≡ false = cc in
    other_key (data_of c.args.node.now) es c.index-key-0.result c.as_slice-2.result.now (is_map_node c.args.node.now c.in-Map.entries es c.in-Map.is c.as_slice.ensures.value) (omega arith) c.as_slice-2.ensures.value test
