use Rattle.std.proofs.Common.{◌≡◌, List, ℕ, map, sym, ◌∙◌, subst, refl, arith}
use Rattle.std.specs.Prelude.{Option, MatchOption, option_map}
use Rattle.std.specs.List.{Contains}
use Rattle.std.proofs.lemmas.Slice.Eq.{bytes_eq-Decides}
use Rattle.ix_receive.specs.Waiting.{IsNextLink}
use Rattle.ix_receive.specs.Base.{store_of}
use Rattle.ix_receive.specs.declared.traversal.WaitingLink.{WaitingLink}
use Rattle.ix_receive.specs.declared.traversal.Traversal.{Traversal}
use Rattle.ix_receive.specs.Traversal.{as_pending, visited}
use Rattle.ix_receive.specs.Passing.{IsPassed, IsStopped}
use Rattle.ix_receive.proofs.Receptions.{before, too-many, no-link, not-asked, still-new, new-before}
use Rattle.ix_receive.proofs.passing.advance_to.Goals as goal

pub returns-then-t-limit-clause-refused : goal.returns-then-t-limit-clause-refused
returns-then-t-limit-clause-refused c =
    let job = c.args.asked.now.job.now in
    let allowed = c.args.asked.now.allowed in
    let s = store_of c.args.sections.now in
    let t : Traversal = c.loop-link.t in
    let u : Traversal = record { expanded = t.expanded; links = c.next_link.new.links; roots = c.next_link.new.roots; visits = t.visits; skips = t.skips } in
    let next = subst (λ (o : Option WaitingLink). IsNextLink job.selector (map as_pending t.links.items) t.roots.now (option_map as_pending o) (map as_pending u.links.items) u.roots.now) c.in-Some.is c.in_ok-link.ensures in
    let at : t.visits ≡ job.limit = c.if-t-limit.true ∙ c.limit.ensures in
    (too-many job allowed s t u c.loop-link.invariant.1 (as_pending c.in-Some.link) next at, subst (λ k. Contains (visited k job s) c.args.cid.now → ⊥) at c.loop-link.invariant.2)

pub returns-then-eq-clause-found : goal.returns-then-eq-clause-found
returns-then-eq-clause-found c =
    let job = c.args.asked.now.job.now in
    let allowed = c.args.asked.now.allowed in
    let s = store_of c.args.sections.now in
    let t : Traversal = c.loop-link.t in
    let u : Traversal = record { expanded = t.expanded; links = c.next_link.new.links; roots = c.next_link.new.roots; visits = t.visits; skips = t.skips } in
    let next = subst (λ (o : Option WaitingLink). IsNextLink job.selector (map as_pending t.links.items) t.roots.now (option_map as_pending o) (map as_pending u.links.items) u.roots.now) c.in-Some.is c.in_ok-link.ensures in
    let link = before job allowed s t u c.loop-link.invariant.1 (as_pending c.in-Some.link) next refl refl refl (λ e. c.if-t-limit.false (e ∙ sym c.limit.ensures)) in
    let within = link.within in
    let limit = c.limit.ensures in
    record {
      later = c.loop-link.invariant.0;
      few = omega (arith, within, limit);
      before = link;
      named = (bytes_eq-Decides c.in-Some.link.cid c.args.cid.now).0 (sym c.eq.ensures ∙ c.if-eq.true);
      first = c.loop-link.invariant.2;
    }

pub pass_link-requires-clause-few : goal.pass_link-requires-clause-few
pass_link-requires-clause-few c =
    let job = c.args.asked.now.job.now in
    let allowed = c.args.asked.now.allowed in
    let s = store_of c.args.sections.now in
    let t : Traversal = c.loop-link.t in
    let u : Traversal = record { expanded = t.expanded; links = c.next_link.new.links; roots = c.next_link.new.roots; visits = t.visits; skips = t.skips } in
    let next = subst (λ (o : Option WaitingLink). IsNextLink job.selector (map as_pending t.links.items) t.roots.now (option_map as_pending o) (map as_pending u.links.items) u.roots.now) c.in-Some.is c.in_ok-link.ensures in
    let link = before job allowed s t u c.loop-link.invariant.1 (as_pending c.in-Some.link) next refl refl refl (λ e. c.if-t-limit.false (e ∙ sym c.limit.ensures)) in
    let within = link.within in
    let limit = c.limit.ensures in
    omega (arith, within, limit)

pub pass_link-requires-clause-before : goal.pass_link-requires-clause-before
pass_link-requires-clause-before c =
    let job = c.args.asked.now.job.now in
    let allowed = c.args.asked.now.allowed in
    let s = store_of c.args.sections.now in
    let t : Traversal = c.loop-link.t in
    let u : Traversal = record { expanded = t.expanded; links = c.next_link.new.links; roots = c.next_link.new.roots; visits = t.visits; skips = t.skips } in
    let next = subst (λ (o : Option WaitingLink). IsNextLink job.selector (map as_pending t.links.items) t.roots.now (option_map as_pending o) (map as_pending u.links.items) u.roots.now) c.in-Some.is c.in_ok-link.ensures in
    before job allowed s t u c.loop-link.invariant.1 (as_pending c.in-Some.link) next refl refl refl (λ e. c.if-t-limit.false (e ∙ sym c.limit.ensures))

pub returns-in-Some-2-clause-refused : goal.returns-in-Some-2-clause-refused
returns-in-Some-2-clause-refused c =
    let job = c.args.asked.now.job.now in
    let allowed = c.args.asked.now.allowed in
    let s = store_of c.args.sections.now in
    let t : Traversal = c.loop-link.t in
    let f = as_pending c.in-Some.link in
    let u : Traversal = record { expanded = t.expanded; links = c.next_link.new.links; roots = c.next_link.new.roots; visits = t.visits; skips = t.skips } in
    let told = subst (λ (o : Option (List ℕ)). MatchOption o (IsPassed job allowed s f u c.pass_link.new.t) (IsStopped job allowed s f u)) c.in-Some-2.is c.in_ok-missing.ensures in
    new-before job allowed s f u c.args.cid.now c.in-Some-2.missing told (sym c.eq.ensures ∙ c.if-eq.false) c.loop-link.invariant.2

pub loop-link-preserved : goal.loop-link-preserved
loop-link-preserved c =
    let job = c.args.asked.now.job.now in
    let allowed = c.args.asked.now.allowed in
    let s = store_of c.args.sections.now in
    let t : Traversal = c.loop-link.t in
    let f = as_pending c.in-Some.link in
    let u : Traversal = record { expanded = t.expanded; links = c.next_link.new.links; roots = c.next_link.new.roots; visits = t.visits; skips = t.skips } in
    let told = subst (λ (o : Option (List ℕ)). MatchOption o (IsPassed job allowed s f u c.pass_link.new.t) (IsStopped job allowed s f u)) c.in_default-2.is c.in_ok-missing.ensures in
    let one = told.one in
    let later = c.loop-link.invariant.0 in
    (omega (arith, one, later), told.passing, still-new job allowed s f u c.pass_link.new.t c.args.cid.now told (sym c.eq.ensures ∙ c.if-eq.false) c.loop-link.invariant.2)

pub returns-clause-refused : goal.returns-clause-refused
returns-clause-refused c =
    let job = c.args.asked.now.job.now in
    let allowed = c.args.asked.now.allowed in
    let s = store_of c.args.sections.now in
    let t : Traversal = c.loop-link.t in
    let u : Traversal = record { expanded = t.expanded; links = c.next_link.new.links; roots = c.next_link.new.roots; visits = t.visits; skips = t.skips } in
    let next = subst (λ (o : Option WaitingLink). IsNextLink job.selector (map as_pending t.links.items) t.roots.now (option_map as_pending o) (map as_pending u.links.items) u.roots.now) c.in_default.is c.in_ok-link.ensures in
    not-asked job allowed s t c.args.cid.now c.loop-link.invariant.1 (no-link job allowed s t u c.loop-link.invariant.1 next) c.loop-link.invariant.2
