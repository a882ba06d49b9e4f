use Rattle.std.proofs.lemmas.Result.{IfOk-weaker}
use Rattle.ix_path.specs.Resolution.{crossed, stepped, ◌and_then◌, Goes, GoesBy}
use Rattle.ix_path.proofs.Routes.{advance_on}
use Rattle.ix_path.proofs.resolution.advance.Goals as goal

pub returns-in_ok-push-in-Ok : goal.returns-in_ok-push-in-Ok
returns-in_ok-push-in-Ok c =
    let store = c.args.store.now in
    let s = c.args.segment.now in
    let old = c.args.blocks.now.items in
    let new = c.cross.new.blocks.items in
    let before = c.args.steps.now.items in
    let after = c.push.new.self.items in
    IfOk-weaker c.cross.result (λ end. Goes old new end (crossed store 128 c.in-Ok.next)) (λ end. GoesBy old new before after end (stepped s c.args.node and_then crossed store 128))
    (λ end g. advance_on store 128 s c.args.node old new before after c.in-Ok.step c.in-Ok.next end c.in-Ok.ensures c.in_ok-push-in-Ok.ensures.items g) c.cross.ensures
