use Rattle.std.proofs.Common.{◌≡◌, ◌∙◌, refl, sym, ap, subst, arith, length, ℕ, true, false, Some, None}
use Rattle.std.specs.Prelude.{not, ◌==◌}
use Rattle.std.specs.Option.{unwrap_or}
use Rattle.std.proofs.lemmas.Bool.{not-true, not-false}
use Rattle.std.proofs.lemmas.Result.{err_from_is_err_and}
use Rattle.ix_store.specs.Index.{key_hash, fingerprint, Has, place_after}
use Rattle.ix_store.specs.Store.{has_cid}
use Rattle.ix_store.proofs.Stores.{position-none}
use Rattle.ix_store.proofs.Indexes.{free-at, indexed-slot, indexed-behind, indexed-same, has-by, existing-answer, put-same}
use Rattle.ix_store.proofs.index.Index.enter.Goals as goal

pub index_mut-requires : goal.index_mut-requires
index_mut-requires c =
    let first = free-at c.args.self.now.slots.items (key_hash c.args.cid.now) c.in-Vacant.slot c.in-Vacant.ensures.1.1 in
    omega (arith, first.within, c.args.self.now.slots.ok.0)

pub returns-in_err-existing-in-Overflow-clause-err : goal.returns-in_err-existing-in-Overflow-clause-err
returns-in_err-existing-in-Overflow-clause-err c =
    let p = err_from_is_err_and c.from_residual.result c.from_residual.ensures.1 in
    rw p.1 (indexed-same c.args.self.now c.insert_overflow.new.self _ c.requires (ap (λ s. s.items) c.in_err-existing-in-Overflow.ensures.slots) c.in_err-existing-in-Overflow.ensures.err)

pub returns-in-Present-clause-answer : goal.returns-in-Present-clause-answer
returns-in-Present-clause-answer c = ap not (sym (has-by _ c.args.cid.now (Some c.in-Present.field-0) c.in-Present.ensures))

pub returns-in-Vacant-clause-answer : goal.returns-in-Vacant-clause-answer
returns-in-Vacant-clause-answer c = ap not (sym (has-by _ c.args.cid.now None c.in-Vacant.ensures.0))

pub returns-in-Vacant-clause-entered : goal.returns-in-Vacant-clause-entered
returns-in-Vacant-clause-entered c _ b =
    let entries = c.args.entries.now in
    let k = c.args.cid.now in
    let first = free-at c.args.self.now.slots.items (key_hash k) c.in-Vacant.slot c.in-Vacant.ensures.1.1 in
    let x = c.taken.result in
    let tagged : Has x (fingerprint (key_hash k)) c.len-place.result = subst (λ (t : ℕ). Has x (fingerprint t) c.len-place.result) c.key_hash.ensures c.taken.ensures in
    let has : Has x (fingerprint (key_hash k)) (length entries) = subst (λ (n : ℕ). Has x (fingerprint (key_hash k)) n) c.len-place.ensures tagged in
    indexed-slot c.args.self.now _ _ k b c.in-Vacant.slot x c.requires c.in-Vacant.ensures.0 first has refl refl

pub returns-in_ok-existing-in-Overflow-clause-answer : goal.returns-in_ok-existing-in-Overflow-clause-answer
returns-in_ok-existing-in-Overflow-clause-answer c =
    let entries = c.args.entries.now in
    let index = c.args.self.now in
    let k = c.args.cid.now in
    let existing = subst (λ (n : ℕ). c.in_ok-existing-in-Overflow.existing ≡ unwrap_or (place_after index k) n) c.len-place.ensures c.in_ok-existing-in-Overflow.ensures.existing in
    rw c.len-place.ensures (existing-answer index entries k c.in_ok-existing-in-Overflow.existing c.requires c.in-Overflow.ensures.1 existing)

pub returns-in_ok-existing-in-Overflow-clause-entered : goal.returns-in_ok-existing-in-Overflow-clause-entered
returns-in_ok-existing-in-Overflow-clause-entered c entered b =
    let entries = c.args.entries.now in
    let index = c.args.self.now in
    let k = c.args.cid.now in
    let existing = subst (λ (n : ℕ). c.in_ok-existing-in-Overflow.existing ≡ unwrap_or (place_after index k) n) c.len-place.ensures c.in_ok-existing-in-Overflow.ensures.existing in
    let answer = existing-answer index entries k c.in_ok-existing-in-Overflow.existing c.requires c.in-Overflow.ensures.1 existing in
    let new : has_cid entries k ≡ false = not-true (has_cid entries k) (sym answer ∙ ap (λ (n : ℕ). c.in_ok-existing-in-Overflow.existing == n) (sym c.len-place.ensures) ∙ entered) in
    indexed-behind index c.insert_overflow.new.self entries k b c.in_ok-existing-in-Overflow.existing c.requires (position-none 0 entries k new) c.in-Overflow.ensures.0
    (ap (λ s. s.items) c.in_ok-existing-in-Overflow.ensures.slots) c.in_ok-existing-in-Overflow.ensures.put existing

pub returns-in_ok-existing-in-Overflow-clause-held : goal.returns-in_ok-existing-in-Overflow-clause-held
returns-in_ok-existing-in-Overflow-clause-held c held =
    let entries = c.args.entries.now in
    let index = c.args.self.now in
    let k = c.args.cid.now in
    let existing = subst (λ (n : ℕ). c.in_ok-existing-in-Overflow.existing ≡ unwrap_or (place_after index k) n) c.len-place.ensures c.in_ok-existing-in-Overflow.ensures.existing in
    let answer = existing-answer index entries k c.in_ok-existing-in-Overflow.existing c.requires c.in-Overflow.ensures.1 existing in
    let there : has_cid entries k ≡ true = not-false (has_cid entries k) (sym answer ∙ ap (λ (n : ℕ). c.in_ok-existing-in-Overflow.existing == n) (sym c.len-place.ensures) ∙ held) in
    put-same index c.insert_overflow.new.self entries k c.in_ok-existing-in-Overflow.existing c.requires c.in-Overflow.ensures.1 there
    (ap (λ s. s.items) c.in_ok-existing-in-Overflow.ensures.slots) c.in_ok-existing-in-Overflow.ensures.put existing
