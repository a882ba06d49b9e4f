use Rattle.std.proofs.Common.{subst}
use Rattle.ix_store.specs.Store.{Blocks}
use Rattle.ix_walk.specs.Arriving.{Goes}
use Rattle.ix_walk.specs.VisitedSet.{going_of}
use Rattle.ix_walk.specs.Walking.{waiting, data_inside}
use Rattle.ix_prefetch.proofs.Visits.{block_valued, block_visited}
use Rattle.ix_prefetch.proofs.visiting.Visiting.visit_bytes.Goals as goal

pub put_block-requires : goal.put_block-requires
put_block-requires c =
    let store = c.store.result.now in
    block_valued (data_inside store (going_of store c.args.state.now.expanded) (waiting c.args.residual.now 0 c.args.visit.cid)) c.in_ok-bytes.bytes (c.in_ok-bytes.ensures.goes 0).inside

pub returns : goal.returns
returns c =
    let v = c.args.visit in
    let old = c.args.state.now in
    let expanded = c.bytes_to_expand.new.expanded in
    let bytes = c.in_ok-bytes.bytes in
    block_visited c.args.self.now.table.now c.args.self.now.number c.args.self.now.seq c.args.residual.now v bytes old c.put_block.new.state expanded c.requires.visit c.requires.within
    (subst (λ (s : Blocks). Goes s (waiting c.args.residual.now v.depth v.cid) (going_of s old.expanded) bytes (going_of s expanded)) c.store.ensures (c.in_ok-bytes.ensures.goes v.depth)) c.in_ok-put_block.ensures
