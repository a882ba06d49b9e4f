use Rattle.std.proofs.Common.{refl, sym, subst}
use Rattle.std.specs.declared.alloc.AllocError.{AllocError}
use Rattle.ix_dag_json.specs.declared.fault.DagJsonFault.TheVariants.{Part}
use Rattle.ix_dag_json.specs.declared.fault.Part.{Part as Lacking}
use Rattle.ix_dag_json.specs.Lack.{IsUnder}
use Rattle.ix_dag_json.proofs.fault.DagJsonFault.under.Goals as goal

pub returns-in-Ok : goal.returns-in-Ok
returns-in-Ok c =
    let stepped : Lacking = record { path = c.insert.new.self; wrong = c.in-Part-Ok.part.wrong } in
    subst (λ s. IsUnder {E = AllocError} c.args.self s (Part stepped)) (sym c.in-Part-Ok.is-1)
    (record { inner = c.in-Part-Ok.part; was = c.in-Part-Ok.is-0; path = c.in-Ok.ensures.items; reason = refl })
