use Rattle.std.proofs.Common.{◌≡◌, ◌∙◌, ◌<◌, ◌≤◌, ◌+◌, List, length, get_or, sym, ap, subst, inl, inr}
use Rattle.ix_store.specs.Index.{window_of, end_of, key_hash, fingerprint, IsFree}
use Rattle.ix_store.specs.declared.index.Slot.{Slot}
use Rattle.ix_store.proofs.Indexes.{free}
use Rattle.ix_store.proofs.Found.{probe-free, probe-here, probe-on, probe-end}
use Rattle.ix_store.proofs.index.look.Goals.{else-slot-tag-via-then-slot-tag+else-is_cid_at, else-slot-tag-via-else-slot-tag}
use Rattle.ix_store.proofs.index.look.Goals as goal

pub returns-in_default : goal.returns-in_default
returns-in_default c =
    let l = window_of c.args.slots.now (key_hash c.args.cid.now) in
    let n = c.loop-slot.slot-index in
    let e : c.window.result.1.now ≡ l = c.window.ensures.slots ∙ ap (window_of c.args.slots.now) c.key_hash-hash.ensures in
    let within : n < length l = subst (λ (r : List Slot). n < length r) e c.loop-slot-test.true in
    sym (probe-free c.args.entries.now l n _ c.args.cid.now within (subst (λ (r : List Slot). IsFree (get_or r n free)) e c.in_default.ensures)) ∙ c.loop-slot.invariant

pub returns-then-is_cid_at : goal.returns-then-is_cid_at
returns-then-is_cid_at c =
    let l = window_of c.args.slots.now (key_hash c.args.cid.now) in
    let n = c.loop-slot.slot-index in
    let p = c.in-Some.place in
    let e : c.window.result.1.now ≡ l = c.window.ensures.slots ∙ ap (window_of c.args.slots.now) c.key_hash-hash.ensures in
    let within : n < length l = subst (λ (r : List Slot). n < length r) e c.loop-slot-test.true in
    let tag : (get_or l n free).tag ≡ fingerprint (key_hash c.args.cid.now) = subst (λ (r : List Slot). (get_or r n free).tag ≡ c.fingerprint-tag.result) e c.if-slot-tag.true ∙ c.fingerprint-tag.ensures ∙ ap fingerprint c.key_hash-hash.ensures in
    let end : end_of (get_or l n free) ≡ p + 1 = subst (λ (r : List Slot). end_of (get_or r n free) ≡ p + 1) e c.in-Some.ensures in
    sym (probe-here c.args.entries.now l n (fingerprint (key_hash c.args.cid.now)) p c.args.cid.now within (tag, end) (sym c.is_cid_at.ensures ∙ c.if-is_cid_at.true)) ∙ c.loop-slot.invariant

pub loop-slot-preserved : goal.loop-slot-preserved
loop-slot-preserved c =
    let l = window_of c.args.slots.now (key_hash c.args.cid.now) in
    let n = c.loop-slot.slot-index in
    let p = c.in-Some.place in
    let e : c.window.result.1.now ≡ l = c.window.ensures.slots ∙ ap (window_of c.args.slots.now) c.key_hash-hash.ensures in
    let within : n < length l = subst (λ (r : List Slot). n < length r) e c.loop-slot-test.true in
    let tag = c.fingerprint-tag.ensures ∙ ap fingerprint c.key_hash-hash.ensures in
    let end : end_of (get_or l n free) ≡ p + 1 = subst (λ (r : List Slot). end_of (get_or r n free) ≡ p + 1) e c.in-Some.ensures in
    probe-on c.args.entries.now l n (fingerprint (key_hash c.args.cid.now)) p c.args.cid.now within end
    (elim c.else-slot-tag.branch [
      | else-slot-tag-via-then-slot-tag+else-is_cid_at w ↦ inr (sym w.is_cid_at.ensures ∙ w.if-is_cid_at.false)
      | else-slot-tag-via-else-slot-tag w ↦ inl (λ same. w.if-slot-tag.false (ap (λ (r : List Slot). (get_or r n free).tag) e ∙ same ∙ sym tag))
    ])
    ∙ c.loop-slot.invariant

pub returns : goal.returns
returns c =
    let l = window_of c.args.slots.now (key_hash c.args.cid.now) in
    let n = c.loop-slot.slot-index in
    let e : c.window.result.1.now ≡ l = c.window.ensures.slots ∙ ap (window_of c.args.slots.now) c.key_hash-hash.ensures in
    sym (probe-end c.args.entries.now l n _ c.args.cid.now (subst (λ (r : List Slot). length r ≤ n) e c.loop-slot-test.false)) ∙ c.loop-slot.invariant
