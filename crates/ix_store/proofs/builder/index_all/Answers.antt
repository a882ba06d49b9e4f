use Rattle.std.proofs.Common.{length, sym, arith, rules}
use Rattle.ix_store.specs.Index.{IsIndexed}
use Rattle.ix_store.proofs.Gathered.{made-all}
use Rattle.ix_store.proofs.builder.index_all.Goals as goal

pub returns-in-Some-clause-kept : goal.returns-in-Some-clause-kept
returns-in-Some-clause-kept g c =
    let pairs = c.args.blocks.pairs in
    let indexed : IsIndexed c.in-Some.made pairs = search rules in
    sym (made-all (length pairs) pairs c.args.indexed (omega arith) indexed.distinct)
