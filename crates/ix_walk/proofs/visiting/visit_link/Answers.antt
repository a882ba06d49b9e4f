use Rattle.std.proofs.Common.{List, ℕ, subst}
use Rattle.ix_walk.specs.Arriving.{Goes}
use Rattle.ix_walk.specs.Walking.{waiting}
use Rattle.ix_walk.specs.VisitedSet.{going_of}
use Rattle.ix_walk.proofs.Roots.{arrives}
use Rattle.ix_walk.proofs.visiting.visit_link.Goals as goal

pub returns-clause-arrives : goal.returns-clause-arrives
returns-clause-arrives c =
    let store = c.args.store.now in
    let f = c.args.found in
    let had = going_of store c.args.state.now.expanded in
    let has = going_of store c.bytes_to_expand.new.expanded in
    arrives store c.args.number c.args.seq f.residual f.depth f.cid c.in_ok-cid.cid c.find-block.result c.read_block-bytes.result.0 c.in_ok-bytes.bytes c.read_block-bytes.result.1 had has c.args.state.now.frontier c.enter_block.new.frontier
    c.in_ok-cid.ensures.same c.find-block.ensures c.read_block-bytes.ensures.reading
    (subst (λ (d : List ℕ). Goes store (waiting f.residual f.depth d) had c.in_ok-bytes.bytes has) c.in_ok-cid.ensures.same (c.in_ok-bytes.ensures.goes f.depth)) c.in_ok-enter_block.ensures
