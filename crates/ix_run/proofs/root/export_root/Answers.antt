use Rattle.std.proofs.Common.{ap, sym, ◌∙◌, ℕ, Vec, Global, refl}
use Rattle.std.specs.Prelude.{Some}
use Rattle.ix_run.proofs.Exports.{exported_by}
use Rattle.ix_run.proofs.root.export_root.Goals as goal

pub returns-in-Ok-clause-archive : goal.returns-in-Ok-clause-archive
returns-in-Ok-clause-archive c =
    exported_by (λ (v : Vec ℕ Global). Some v.items) c.args.car.now c.args.root c.in_ok-store.store c.in_ok-job.job c.new.result c.in-Ok.result c.in-Ok.archive c.in-Ok.archive.items
    c.in_ok-store.ensures c.in_ok-job.ensures (ap (λ l. Some l) c.new.ensures.items) c.in-Ok.ensures.ran (sym c.is_whole.ensures ∙ c.if-is_whole.true) refl
