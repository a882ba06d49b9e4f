use Rattle.std.proofs.Common.{sym, subst}
use Rattle.std.specs.Prelude.{IfSome}
use Rattle.ix_trace.specs.declared.tracer.Tracer.{Tracer}
use Rattle.ix_trace.specs.Trace.{IsInside, IsKept, AreKept}
use Rattle.ix_trace.proofs.Traced.{kept_turn, kept_more}
use Rattle.ix_trace.proofs.tracer.Tracer.advance.Goals as goal
use Rattle.ix_trace.proofs.tracer.Tracer.advance.Goals.{in-Some+in_ok-push-in-Some, in-None}

pub returns-in_err-push : goal.returns-in_err-push
returns-in_err-push c store are =
    let popped = c.pop.new.self.items in
    let turn = kept_turn store c.args.self.now.levels.items c.truncate.new.self.items popped c.args.depth c.pop.result are c.truncate.ensures.items c.pop.ensures.items in
    let mid : AreKept store c.match-pop.self.levels.items =
    elim c.match-pop.branch [
      | in-Some+in_ok-push-in-Some w ↦
          subst (λ (t : Tracer). AreKept store t.levels.items) (sym w.self-is)
          (subst (AreKept store) (sym w.in_ok-push-in-Some.ensures.items) (kept_more store popped w.after_one.result turn.0 (subst (λ o. IfSome o (IsInside store)) (sym w.after_one.ensures) (subst (λ o. IfSome o (IsKept store)) w.in-Some.is turn.1))))
      | in-None w ↦ subst (λ (t : Tracer). AreKept store t.levels.items) (sym w.self-is) turn.0
    ] in
    subst (AreKept store) (sym c.in_err-push.ensures.items) mid

pub returns : goal.returns
returns c store are =
    let popped = c.pop.new.self.items in
    let turn = kept_turn store c.args.self.now.levels.items c.truncate.new.self.items popped c.args.depth c.pop.result are c.truncate.ensures.items c.pop.ensures.items in
    let mid : AreKept store c.match-pop.self.levels.items =
    elim c.match-pop.branch [
      | in-Some+in_ok-push-in-Some w ↦
          subst (λ (t : Tracer). AreKept store t.levels.items) (sym w.self-is)
          (subst (AreKept store) (sym w.in_ok-push-in-Some.ensures.items) (kept_more store popped w.after_one.result turn.0 (subst (λ o. IfSome o (IsInside store)) (sym w.after_one.ensures) (subst (λ o. IfSome o (IsKept store)) w.in-Some.is turn.1))))
      | in-None w ↦ subst (λ (t : Tracer). AreKept store t.levels.items) (sym w.self-is) turn.0
    ] in
    subst (AreKept store) (sym c.in_ok-push.ensures.items) (kept_more store c.match-pop.self.levels.items _ mid tt)
