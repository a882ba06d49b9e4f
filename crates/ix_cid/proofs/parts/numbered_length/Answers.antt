use Rattle.ix_cid.specs.Cid.{numbered_at}
use Rattle.ix_cid.proofs.Cids.{numbered_at-reads, rest_within}
use Rattle.ix_cid.proofs.parts.numbered_length.Goals as goal

pub overflow_sub-result : goal.overflow_sub-result
overflow_sub-result c = rest_within 4 numbered_at numbered_at-reads c.args.bytes.now _ c.in_ok-rest.rest.now c.in_ok-rest.ensures.exact
