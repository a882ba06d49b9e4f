use Rattle.std.proofs.Common.{◌∙◌, ap, sym}
use Rattle.ix_prefetch.proofs.Visits.{table_visit}
use Rattle.ix_prefetch.proofs.table_walk.next_visit.Goals as goal

pub returns-clause-takes : goal.returns-clause-takes
returns-clause-takes c =
    let t = c.args.visiting.now.table.now in
    table_visit t c.args.visiting.now.number c.args.visiting.now.seq c.args.state.now c.next_link.new.state c.visit_next.new.rest c.in-Some.next c.in_ok-visit.visit
    (λ e. c.if-visiting-limit.false (e ∙ ap (λ j. j.limit) (sym c.job.ensures) ∙ sym c.limit.ensures)) c.requires c.in-Some.ensures c.in_ok-visit.ensures
