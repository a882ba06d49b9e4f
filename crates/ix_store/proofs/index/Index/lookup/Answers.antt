use Rattle.std.proofs.Common.{◌≡◌, ◌∙◌, ◌+◌, ◌-◌, ◌^◌, ◌<◌, ◌≤◌, List, length, get_or, sym, ap, subst, arith, inl, inr}
use Rattle.std.proofs.lemmas.Bool.{false≢true}
use Rattle.ix_store.specs.Index.{key_hash, fingerprint, first_of, window_of, end_of, IsFree, IsLarge}
use Rattle.ix_store.specs.Store.{position_of}
use Rattle.ix_store.specs.declared.index.Slot.{Slot}
use Rattle.ix_store.proofs.Blocks.{place_within}
use Rattle.ix_store.proofs.Indexes.{free, first-from, none-small, passed-free, passed-more, passed-all}
use Rattle.ix_store.proofs.index.Index.lookup.Goals.{else-slot-tag-via-then-slot-tag+else-holds, else-slot-tag-via-else-slot-tag}
use Rattle.ix_store.proofs.index.Index.lookup.Goals as goal

pub returns-then-len-lt-MOST_PLACES : goal.returns-then-len-lt-MOST_PLACES
returns-then-len-lt-MOST_PLACES c =
    let l = window_of c.args.self.now.slots.items (key_hash c.args.cid.now) in
    let n = c.loop-step.step in
    let blocks = c.args.entries.now in
    let e : c.window-first.result.1.now ≡ l = c.window-first.ensures.slots ∙ ap (λ (r : List Slot). window_of r c.key_hash-hash.result) c.as_slice.ensures.value ∙ ap (window_of c.args.self.now.slots.items) c.key_hash-hash.ensures in
    let within : n < length l = subst (λ (r : List Slot). n < length r) e c.loop-step-test.true in
    let vacant : IsFree (get_or l n free) = subst (λ (r : List Slot). IsFree (get_or r n free)) e c.in_default.ensures in
    let small : length blocks < 2 ^ 32 - 1 = omega (arith, c.if-len-lt-MOST_PLACES.true, c.len.ensures) in (
      none-small (position_of blocks c.args.cid.now) _ (length blocks) (λ p is. place_within p blocks c.args.cid.now (sym is)) small (passed-free l n _ _ _ c.loop-step.invariant within vacant),
      (small, (n, ap (λ k. k + n) (c.window-first.ensures.first ∙ ap (λ (r : List Slot). first_of r c.key_hash-hash.result) c.as_slice.ensures.value ∙ ap (first_of c.args.self.now.slots.items) c.key_hash-hash.ensures), first-from l n c.loop-step.invariant.taken within vacant)),
    )

pub returns-in_default : goal.returns-in_default
returns-in_default c =
    let l = window_of c.args.self.now.slots.items (key_hash c.args.cid.now) in
    let n = c.loop-step.step in
    let e : c.window-first.result.1.now ≡ l = c.window-first.ensures.slots ∙ ap (λ (r : List Slot). window_of r c.key_hash-hash.result) c.as_slice.ensures.value ∙ ap (window_of c.args.self.now.slots.items) c.key_hash-hash.ensures in
    let within : n < length l = subst (λ (r : List Slot). n < length r) e c.loop-step-test.true in
    let vacant : IsFree (get_or l n free) = subst (λ (r : List Slot). IsFree (get_or r n free)) e c.in_default.ensures in
    let large : IsLarge (length c.args.entries.now) = omega (arith, c.if-len-lt-MOST_PLACES.false, c.len.ensures) in
    (inl large, λ p is. (passed-free l n _ _ _ c.loop-step.invariant within vacant p is).1)

pub loop-step-preserved : goal.loop-step-preserved
loop-step-preserved c =
    let l = window_of c.args.self.now.slots.items (key_hash c.args.cid.now) in
    let n = c.loop-step.step in
    let e : c.window-first.result.1.now ≡ l = c.window-first.ensures.slots ∙ ap (λ (r : List Slot). window_of r c.key_hash-hash.result) c.as_slice.ensures.value ∙ ap (window_of c.args.self.now.slots.items) c.key_hash-hash.ensures in
    let tag = c.fingerprint-tag.ensures ∙ ap fingerprint c.key_hash-hash.ensures in
    passed-more l n _ _ _ c.in-Some.place c.loop-step.invariant (subst (λ (r : List Slot). n < length r) e c.loop-step-test.true) (subst (λ (r : List Slot). end_of (get_or r n free) ≡ c.in-Some.place + 1) e c.in-Some.ensures)
    (elim c.else-slot-tag.branch [
      | else-slot-tag-via-then-slot-tag+else-holds w ↦ λ same is. false≢true (sym w.if-holds.false ∙ w.holds.ensures.1 is)
      | else-slot-tag-via-else-slot-tag w ↦ λ same is. w.if-slot-tag.false (ap (λ (r : List Slot). (get_or r n free).tag) e ∙ same ∙ sym tag)
    ])

pub returns : goal.returns
returns c =
    let l = window_of c.args.self.now.slots.items (key_hash c.args.cid.now) in
    let n = c.loop-step.step in
    let e : c.window-first.result.1.now ≡ l = c.window-first.ensures.slots ∙ ap (λ (r : List Slot). window_of r c.key_hash-hash.result) c.as_slice.ensures.value ∙ ap (window_of c.args.self.now.slots.items) c.key_hash-hash.ensures in
    let passed = passed-all l n _ _ _ c.loop-step.invariant (subst (λ (r : List Slot). length r ≤ n) e c.loop-step-test.false) in
    (inr passed.0, passed.1)
