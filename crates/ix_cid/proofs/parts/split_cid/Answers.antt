use Rattle.ix_cid.specs.Cid.{parts_at}
use Rattle.ix_cid.proofs.Cids.{parts_at-reads, rest_within, IsCid-from_parts}
use Rattle.ix_cid.proofs.parts.split_cid.Goals as goal

pub slice_bounds-result-count : goal.slice_bounds-result-count
slice_bounds-result-count c = rest_within 2 parts_at parts_at-reads c.args.bytes.now _ c.in_ok-rest.rest.now c.in_ok-rest.ensures.exact

pub returns-clause-cid : goal.returns-clause-cid
returns-clause-cid c = IsCid-from_parts c.args.bytes.now _ c.in_ok-rest.rest.now c.in_ok-rest.ensures.exact
