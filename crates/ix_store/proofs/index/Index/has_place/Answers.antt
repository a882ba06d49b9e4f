use Rattle.std.proofs.Common.{◌≡◌, ◌∙◌, ◌+◌, ◌<◌, ◌≤◌, List, length, get_or, ap, subst, ⊎_elim}
use Rattle.ix_store.specs.Index.{window_of, end_of, fingerprint, IsFree}
use Rattle.ix_store.specs.declared.index.Slot.{Slot}
use Rattle.ix_store.proofs.Indexes.{free, leads-on, leads-free, leads-end}
use Rattle.ix_store.proofs.index.Index.has_place.Goals.{in-Some+else-other-place, in_default}
use Rattle.ix_store.proofs.index.Index.has_place.Goals as goal

pub loop-slot-preserved : goal.loop-slot-preserved
loop-slot-preserved c behind h =
    let l = window_of c.args.self.now.slots.items c.args.hash in
    let n = c.loop-slot.slot-index in
    let m = fingerprint c.args.hash in
    let e : c.window.result.1.now ≡ l = c.window.ensures.slots ∙ ap (λ (r : List Slot). window_of r c.args.hash) c.as_slice.ensures.value in
    let within : n < length l = subst (λ (r : List Slot). n < length r) e c.loop-slot-test.true in
    elim c.match-place.branch [
      | in-Some+else-other-place w ↦ leads-on l n behind m c.args.place w.in-Some.other (subst (λ (r : List Slot). end_of (get_or r n free) ≡ w.in-Some.other + 1) e w.in-Some.ensures) within w.if-other-place.false (c.loop-slot.invariant behind h)
      | in_default w ↦ absurd (leads-free l n behind m c.args.place (subst (λ (r : List Slot). IsFree (get_or r n free)) e w.in_default.ensures) within (c.loop-slot.invariant behind h))
    ]

pub returns : goal.returns
returns c same behind h =
    let l = window_of c.args.self.now.slots.items c.args.hash in
    let n = c.loop-slot.slot-index in
    let past : length l ≤ n = subst (λ (r : List Slot). length r ≤ n) (c.window.ensures.slots ∙ ap (λ (r : List Slot). window_of r c.args.hash) c.as_slice.ensures.value) c.loop-slot-test.false in
    ⊎_elim (λ large. large.1) (λ leads. leads-end l n behind (fingerprint c.args.hash) c.args.place past (c.loop-slot.invariant behind leads)) h
