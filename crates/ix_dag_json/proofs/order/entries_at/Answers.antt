use Rattle.ix_dag_json.proofs.PlacedEntries.{entry_there, value_there, one_entry_more, all_entries_read}
use Rattle.ix_cbor.specs.Views.{key_bytes}
use Rattle.ix_dag_json.specs.declared.order.Entry.{Entry}
use Rattle.ix_dag_json.proofs.order.entries_at.Goals as goal

pub key_at-requires : goal.key_at-requires
key_at-requires c =
    let there = entry_there c.args.levels c.args.count c.args.at.now c.loop.entries.items c.loop.counter (key_bytes c.loop.before) c.loop.rest.now c.loop-test.true c.requires.1 c.loop.invariant in
    (there.0, there.1)

pub skipped-rest-requires : goal.skipped-rest-requires
skipped-rest-requires c = (
  c.requires.0,
  value_there c.args.levels c.args.count c.args.at.now c.loop.entries.items c.loop.counter (key_bytes c.loop.before) c.loop.rest.now c.key_at.result.0.now c.key_at.result.1.now
      c.loop-test.true c.requires.1 c.key_at.ensures c.loop.invariant,
)

pub loop-preserved : goal.loop-preserved
loop-preserved c =
    let x : Entry = record { key = c.key_at.result.0; value = c.key_at.result.1 } in
    one_entry_more c.args.levels c.args.count c.args.at.now c.loop.entries.items c.push.new.self.items x c.loop.counter (key_bytes c.loop.before) c.loop.rest.now c.skipped-rest.result.now
    c.loop-test.true c.key_at.ensures c.skipped-rest.ensures c.in_ok-push.ensures.items c.loop.invariant

pub returns : goal.returns
returns c =
    all_entries_read c.args.levels c.args.count c.args.at.now c.loop.entries.items c.loop.counter (key_bytes c.loop.before) c.loop.rest.now c.loop-test.false c.loop.invariant
