use Rattle.std.proofs.Common.{sym, ◌∙◌}
use Rattle.ix_api.proofs.OneCid.{cid_at-whole, added, with_block-known}
use Rattle.ix_api.proofs.input.add_block.Goals as goal

pub returns-in-Ok-true : goal.returns-in-Ok-true
returns-in-Ok-true c =
    let is = cid_at-whole c.args.cid.now c.in-Ok.read c.in-Ok.length c.in-Ok.ensures.exact c.if-length-cid.true in
    let has = added c.args.store.now c.add_copy.new.self c.args.cid.now c.in-Ok.read c.args.block.now is.1 (sym c.in-Ok-true.field-0-test ∙ c.in-Ok-true.ensures.answer) c.in-Ok-true.ensures.added in (is.0, has.0, has.1)

pub returns-in-Ok-false : goal.returns-in-Ok-false
returns-in-Ok-false c =
    let is = cid_at-whole c.args.cid.now c.in-Ok.read c.in-Ok.length c.in-Ok.ensures.exact c.if-length-cid.true in
    let has = with_block-known c.args.store.now c.add_copy.new.self c.args.cid.now c.in-Ok.read c.args.block.now is.1 (sym c.in-Ok-false.field-0-test ∙ c.in-Ok-false.ensures.answer) c.in-Ok-false.ensures.added in (is.0, has.0, has.1)
