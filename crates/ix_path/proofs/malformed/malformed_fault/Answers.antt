use Rattle.std.proofs.Common.{sym, ap, ◌∙◌}
use Rattle.ix_path.specs.Causes.{goes_by_bytes}
use Rattle.ix_path.proofs.Causes.{why}
use Rattle.ix_path.proofs.malformed.malformed_fault.Goals as goal

pub returns-in-Malformed-default : goal.returns-in-Malformed-default
returns-in-Malformed-default c =
    let bad = c.in-Malformed-default.is-0 in
    why c.args.store.now c.args.cid.now c.judged.result.1.now c.fault_in.result (sym c.judged.ensures.verdict ∙ bad) (c.judged.ensures.bytes (ap goes_by_bytes bad)) c.fault_in.ensures
