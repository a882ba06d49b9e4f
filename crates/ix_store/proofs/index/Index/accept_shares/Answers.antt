use Rattle.std.proofs.Common.{◌∙◌, ◌+◌, ◌*◌, ◌≤◌, ℕ, List, length, All, sym, ap, subst, arith, rules}
use Rattle.ix_store.specs.Index.{AreSeen, AllSeen, IsAfter}
use Rattle.ix_store.specs.declared.index.Slot.{Slot}
use Rattle.ix_store.proofs.Found.{AreFound, indexed-found}
use Rattle.ix_store.proofs.Seen.{found-share, seen-here, shares-end}
use Rattle.ix_store.proofs.index.Index.accept_shares.Goals as goal

pub loop-places-preserved : goal.loop-places-preserved
loop-places-preserved c =
    let es = c.args.entries.now in
    let index = c.loop-places.self in
    let later = c.insert_all_overflow.new.self in
    let said = c.in_ok-insert_all_overflow-in-Ok-Some.ensures in
    let n = c.loop-places.places-index in
    let share = c.args.share in
    let places = c.in-Ok-Some.places.items in
    let table : AllSeen index.slots.items es share c.args.shares.now = subst (λ (l : List Slot). AllSeen l es share c.args.shares.now) (sym (ap (λ v. v.items) c.loop-places.invariant.0)) c.requires.seen in
    let seen : AreSeen index.slots.items es (n * share) (n * share + share) places = seen-here index.slots.items es share c.args.shares.now n c.places-item.result c.in-Ok-Some.places table c.loop-places-test.true c.places-item.is (search rules) in
    let put : All (λ p. IsAfter later es p) places = subst (λ (l : List ℕ). All (λ p. IsAfter later es p) l) c.as_slice.ensures.value (said.put c.if-not-branch.false) in
    let slots = ap (λ v. v.items) said.slots in (
      said.slots ∙ c.loop-places.invariant.0,
      subst (λ (m : ℕ). AreFound later es m) (omega arith) (found-share index later es (n * share) share places slots said.kept c.loop-places.invariant.1 seen put),
      said.overflow c.loop-places.invariant.2,
    )

pub returns : goal.returns
returns c =
    let es = c.args.entries.now in
    let past : length es ≤ c.loop-places.places-index * c.args.share = shares-end (length es) c.loop-places.places-index (length c.args.shares.now) c.args.share c.requires.whole c.loop-places-test.false in
    indexed-found c.loop-places.self es (λ k e less at. c.loop-places.invariant.1 k e (omega (arith, past, less)) at) c.loop-places.invariant.2
