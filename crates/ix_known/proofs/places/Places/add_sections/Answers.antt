use Rattle.std.proofs.Common.{◌≡◌, length, sym, rules}
use Rattle.std.proofs.lemmas.Result.{err_from_is_err_and}
use Rattle.ix_known.proofs.Sections.{read-first, read-more, read-fault, read-all}
use Rattle.ix_known.proofs.places.Places.add_sections.Goals as goal

pub loop-rest-init : goal.loop-rest-init
loop-rest-init g c = read-first c.args.store.now c.args.self.now c.args.sections.now

pub returns-in_err-batch-clause-refused : goal.returns-in_err-batch-clause-refused
returns-in_err-batch-clause-refused g c =
    let p = err_from_is_err_and c.from_residual.result c.from_residual.ensures.1 in
    rw (p.1, p.2)
    (read-fault c.args.store.now c.args.self.now c.loop-rest.self c.args.sections.now c.loop-rest.rest.now c.loop-rest.invariant c.args.size c.in_err-batch.field-0.0 c.in_err-batch.ensures.refused)

pub loop-rest-preserved : goal.loop-rest-preserved
loop-rest-preserved g c =
    read-more c.args.store.now c.args.self.now c.loop-rest.self c.args.sections.now c.loop-rest.rest.now c.loop-rest.invariant c.args.size c.add_batch-added.new.self c.in_ok-batch.batch c.in_ok-batch.after c.in_ok-batch.ensures.read
    (rw (sym c.as_slice.ensures.value) c.in-Ok.ensures)

pub returns-clause-added : goal.returns-clause-added
returns-clause-added g c =
    let none : length c.loop-rest.rest.now ≡ 0 = search rules in
    read-all c.args.store.now c.args.self.now c.loop-rest.self c.args.sections.now c.loop-rest.rest.now c.loop-rest.invariant none
