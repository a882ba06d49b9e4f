use Rattle.std.proofs.Common.{ℕ, List, subst}
use Rattle.ix_walk.specs.Arriving.{IsValue, IsReading}
use Rattle.ix_receive.proofs.sections.Sections.read.Goals as goal

pub returns-clause-value : goal.returns-clause-value
returns-clause-value c =
    let store = c.store_with-store.result.now in
    let here = subst (λ (d : List ℕ). IsReading store d c.read_block-bytes.result.0 c.read_block-bytes.result.1) c.by_ref.ensures.same c.read_block-bytes.ensures.reading in
    subst (λ o. IsValue o c.read_block-bytes.result.0) c.store_with-store.ensures here.0
