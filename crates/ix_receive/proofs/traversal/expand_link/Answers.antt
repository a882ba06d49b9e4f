use Rattle.std.proofs.Common.{Bool, map, sym, ◌∙◌, subst}
use Rattle.std.specs.Bool.{OnFalse}
use Rattle.std.specs.BTreeSet.{IsUnchanged}
use Rattle.ix_receive.specs.Base.{store_of}
use Rattle.ix_receive.specs.Traversal.{as_pending}
use Rattle.ix_receive.proofs.Expansions.{expands-nothing, expands-again, expands-first}
use Rattle.ix_receive.proofs.traversal.expand_link.Goals as goal

pub returns-in_default : goal.returns-in_default
returns-in_default c =
    let link = c.args.link in
    expands-nothing (store_of c.args.sections.now) c.requires.sound link.residual link.depth link.cid c.args.expanded.now (map as_pending c.args.waiting.now.items) c.in_default.ensures.value

pub returns-then-not-is_first : goal.returns-then-not-is_first
returns-then-not-is_first c =
    let link = c.args.link in
    let had = c.args.expanded.now in
    let has = c.insert.new.self in
    expands-again (store_of c.args.sections.now) link.residual link.depth link.cid c.in_ok-try_clone.field-0 c.in_ok-try_clone-2.field-0 had has (map as_pending c.args.waiting.now.items) c.in_ok-try_clone.ensures.same c.in_ok-try_clone-2.ensures.same
    (sym c.if-not-is_first.true ∙ c.in_ok-is_first.ensures.added) (subst (λ (b : Bool). OnFalse b (IsUnchanged had has)) c.if-not-is_first.true c.in_ok-is_first.ensures.unchanged)

pub returns : goal.returns
returns c =
    let link = c.args.link in
    expands-first (store_of c.args.sections.now) c.requires.sound link.residual link.depth link.cid c.in_ok-try_clone.field-0 c.in-Some.bytes c.in_ok-try_clone-2.field-0 c.args.expanded.now c.insert.new.self c.in_ok-links.links.items (map as_pending c.args.waiting.now.items) (map as_pending c.put_before.new.waiting.items)
    c.in_ok-try_clone.ensures.same c.in_ok-try_clone-2.ensures.same c.in-Some.ensures.value (sym c.if-not-is_first.false ∙ c.in_ok-is_first.ensures.added) c.in_ok-is_first.ensures.updates c.in_ok-links.ensures c.in_ok-put_before.ensures
