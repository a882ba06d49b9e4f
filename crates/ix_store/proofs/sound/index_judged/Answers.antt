use Rattle.std.proofs.Common.{length, sym, arith, rules}
use Rattle.ix_store.specs.Index.{IsIndexed}
use Rattle.ix_store.proofs.Gathered.{made-all}
use Rattle.ix_store.proofs.sound.index_judged.Goals as goal

pub returns-in-Some : goal.returns-in-Some
returns-in-Some g c =
    let pairs = c.args.blocks.pairs in
    let indexed : IsIndexed c.in-Some.made pairs = search rules in
    record { kept = sym (made-all (length pairs) pairs 0 (omega arith) indexed.distinct); indexed = indexed }
