use Rattle.ix_store.specs.Table.{section_in}
use Rattle.ix_store.proofs.Gathered.{added-in}
use Rattle.ix_store.proofs.builder.StoreBuilder.add_section.Goals as goal

pub returns-clause-added : goal.returns-clause-added
returns-clause-added c =
    added-in c.push_section.result _ _ _ _ (λ files. section_in files c.args.file c.args.place c.args.cid_size c.args.size) c.args.self.now c.self.view_is c.self.invariant.0 c.push_section.ensures.pushed
