use Rattle.std.proofs.Common.{arith}
use Rattle.std.proofs.lemmas.Result.{err_from_is_err_and}
use Rattle.ix_dag_json.proofs.Items.{block_there, block_printed, block_lacks}
use Rattle.ix_dag_json.proofs.text.text_of_checked.Goals as goal

pub push_item-requires : goal.push_item-requires
push_item-requires c = (omega arith, block_there c.args.block.now c.requires)

pub returns-in_err-push_item-clause-refused : goal.returns-in_err-push_item-clause-refused
returns-in_err-push_item-clause-refused c =
    let p = err_from_is_err_and c.from_residual.result c.from_residual.ensures.1 in
    rw (p.1, p.2) (block_lacks c.args.block.now _ c.requires c.in_err-push_item.ensures.refused)

pub returns-clause-text : goal.returns-clause-text
returns-clause-text c =
    block_printed c.args.layout c.args.block.now c.in_ok-push_item.field-0.now _ c.new-out.result c.push_item.new.out c.requires c.new-out.ensures c.in_ok-push_item.ensures.shown c.in_ok-string_of.ensures
