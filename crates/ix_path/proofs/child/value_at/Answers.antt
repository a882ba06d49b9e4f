use Rattle.std.proofs.Common.{◌≡◌, true, false, sym, ◌∙◌}
use Rattle.std.specs.Prelude.{bytes_eq}
use Rattle.ix_path.proofs.Members.{entry_is_key, entry_is_item, entry_found, entries_more, entries_all}
use Rattle.ix_path.proofs.child.value_at.Goals as goal

pub key_at-requires : goal.key_at-requires
key_at-requires c = entry_is_key c.args.count c.loop.counter c.args.key.now c.args.at.now c.loop.rest.now c.loop-test.true c.loop.invariant c.requires

pub node_at-requires : goal.node_at-requires
node_at-requires c = entry_is_item c.args.count c.loop.counter c.args.key.now c.args.at.now c.loop.rest.now c.loop-test.true c.loop.invariant c.key_at.result.0.now c.key_at.result.1.now c.key_at.ensures c.requires

pub returns-then-eq : goal.returns-then-eq
returns-then-eq c =
    let same : bytes_eq c.key_at.result.0.now c.args.key.now ≡ true = sym c.eq.ensures ∙ c.if-eq.true in
    entry_found c.args.count c.loop.counter c.args.key.now c.args.at.now c.loop.rest.now c.loop-test.true c.loop.invariant c.key_at.result.0.now c.key_at.result.1.now c.key_at.ensures c.node_at.result same c.node_at.ensures

pub skipped-rest-requires : goal.skipped-rest-requires
skipped-rest-requires c = entry_is_item c.args.count c.loop.counter c.args.key.now c.args.at.now c.loop.rest.now c.loop-test.true c.loop.invariant c.key_at.result.0.now c.key_at.result.1.now c.key_at.ensures c.requires

pub loop-preserved : goal.loop-preserved
loop-preserved c =
    let other : bytes_eq c.key_at.result.0.now c.args.key.now ≡ false = sym c.eq.ensures ∙ c.if-eq.false in
    entries_more c.args.count c.loop.counter c.args.key.now c.args.at.now c.loop.rest.now c.loop-test.true c.loop.invariant c.key_at.result.0.now c.key_at.result.1.now c.key_at.ensures c.skipped-rest.result.now other c.skipped-rest.ensures

pub returns : goal.returns
returns c = entries_all c.args.count c.loop.counter c.args.key.now c.args.at.now c.loop.rest.now c.loop-test.false c.loop.invariant
