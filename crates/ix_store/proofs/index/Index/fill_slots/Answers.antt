use Rattle.std.proofs.Common.{◌≡◌, ◌∙◌, ◌+◌, ◌<◌, sym, ap, subst, arith, length, take, get_or, slice_get, List, [], ◌∷◌, ◌++◌, ℕ, Bool, Some, None}
use Rattle.std.specs.BTreeMap.{BTreeMap, get}
use Rattle.std.specs.Cmp.Lexicographic.{slice_cmp}
use Rattle.std.specs.Ordering.{nat_cmp}
use Rattle.std.proofs.lemmas.List.{length-take, take_all}
use Rattle.std.proofs.Math.ListN.{set}
use Rattle.ix_store.specs.Index.{key_hash, fingerprint, place_after, Has, FindsFree, GoesAfter, AreLedTo}
use Rattle.ix_store.specs.Room.{taken_in, slot_for, taken_by}
use Rattle.ix_store.specs.Store.{Blocks, position_of}
use Rattle.ix_store.specs.declared.index.Index.{Index}
use Rattle.ix_store.specs.declared.index.Slot.{Slot}
use Rattle.ix_store.proofs.Stores.{read-at, entries-more, entries-before, position-none}
use Rattle.ix_store.proofs.Indexes.{free-at, led-slot, led-behind}
use Rattle.ix_store.proofs.Room.{slot-found, slot-none, taken-more, taken-set}
use Rattle.ix_store.proofs.index.Index.fill_slots.Goals.{in-Some, in_default}
use Rattle.ix_store.proofs.index.Index.fill_slots.Goals as goal

pub loop-place-preserved : goal.loop-place-preserved
loop-place-preserved c =
    let entries = c.args.entries.now in
    let size = length c.args.self.now.slots.items in
    let place = c.loop-place.place in
    let e : List ℕ × List ℕ = (c.at.result.0.now, c.at.result.1.now) in
    let here_is : slice_get entries place ≡ Some e = c.at.ensures in
    let read : e ≡ get_or entries place e = read-at entries place e here_is in
    let t = c.key_hash-hash.result in
    let hash : t ≡ key_hash e.0 = c.key_hash-hash.ensures in
    let index = c.loop-place.self in
    let slots = c.loop-place.self.slots.items in
    let before = take place entries in
    let h = c.loop-place.invariant in
    let within : place < length entries = omega (arith, c.loop-place-test.true, c.len-place-end.ensures) in
    let new : position_of before e.0 ≡ None = position-none 0 before e.0 (entries-before entries place e within read c.requires.distinct) in
    let few : place ≡ length before = omega (arith, within, length-take place entries) in
    let more : take (place + 1) entries ≡ before ++ e ∷ [] = entries-more entries place e within read in
    elim c.match-free_slot.branch [
      | in-Some w ↦
          let slot = w.in-Some.slot in
          let found : FindsFree slots (key_hash e.0) place (Some slot) = subst (λ (n : ℕ). FindsFree slots n place (Some slot)) hash (subst (λ (r : List Slot). FindsFree r t place (Some slot)) c.as_slice.ensures.value w.in-Some.ensures) in
          let x = w.taken.result in
          let has : Has x (fingerprint (key_hash e.0)) place = subst (λ (n : ℕ). Has x (fingerprint n) place) hash w.taken.ensures in
          let last : Has x (fingerprint (key_hash e.0)) (length before) = subst (λ (n : ℕ). Has x (fingerprint (key_hash e.0)) n) few has in
          let here : AreLedTo (set slots slot x) index (before ++ e ∷ []) = led-slot slots index before e.0 e.1 slot x h.0 new (free-at slots (key_hash e.0) slot found.1) last in
          let led : AreLedTo (set slots slot x) index (take (place + 1) entries) = subst (λ (es : Blocks). AreLedTo (set slots slot x) index es) (sym more) here in
          let taken : taken_in (set slots slot x) ≡ taken_by size entries (place + 1) =
          taken-set slots slot x (fingerprint (key_hash e.0)) place has
          ∙ taken-more size entries place e (taken_in slots) (Some slot) here_is h.1 (slot-found slots (key_hash e.0) place slot found) in (
            subst (λ (i : Index). AreLedTo i.slots.items i (take (place + 1) entries)) (sym w.self-is) led,
            subst (λ (i : Index). taken_in i.slots.items ≡ taken_by size entries (place + 1)) (sym w.self-is) taken,
            ap (λ (i : Index). i.overflow) w.self-is ∙ h.2,
          )
      | in_default w ↦
          let goes : GoesAfter slots (key_hash e.0) place = subst (λ (n : ℕ). GoesAfter slots n place) hash (subst (λ (r : List Slot). GoesAfter r t place) c.as_slice.ensures.value w.in_default.ensures) in
          let none : slot_for (taken_in slots) (key_hash e.0) place ≡ None = slot-none slots (key_hash e.0) place goes in
          let behind : place_after index e.0 ≡ Some place =
          ap (λ (m : BTreeMap (List ℕ) ℕ). get (slice_cmp nat_cmp) m e.0) h.2
          ∙ c.requires.crowded place e within here_is (ap (λ (r : List Bool). slot_for r (key_hash e.0) place) (sym h.1) ∙ none) in
          let full : GoesAfter slots (key_hash e.0) (length before) = subst (λ (n : ℕ). GoesAfter slots (key_hash e.0) n) few goes in
          let here : AreLedTo slots index (before ++ e ∷ []) = led-behind slots index before e.0 e.1 h.0 new full (behind ∙ ap Some few) in
          let led : AreLedTo slots index (take (place + 1) entries) = subst (λ (es : Blocks). AreLedTo slots index es) (sym more) here in
          let taken : taken_in slots ≡ taken_by size entries (place + 1) = taken-more size entries place e (taken_in slots) None here_is h.1 none in (
            subst (λ (i : Index). AreLedTo i.slots.items i (take (place + 1) entries)) (sym w.self-is) led,
            subst (λ (i : Index). taken_in i.slots.items ≡ taken_by size entries (place + 1)) (sym w.self-is) taken,
            ap (λ (i : Index). i.overflow) w.self-is ∙ h.2,
          )
    ]

pub returns : goal.returns
returns c =
    let h = c.loop-place.invariant in
    record {
      distinct = c.requires.distinct;
      leads = subst (λ (l : Blocks). AreLedTo c.loop-place.self.slots.items c.loop-place.self l) (take_all c.loop-place.place c.args.entries.now (omega (arith, c.loop-place-test.false, c.len-place-end.ensures))) h.0;
      true_after = λ k p is. c.requires.overflow k p (sym (ap (λ (m : BTreeMap (List ℕ) ℕ). get (slice_cmp nat_cmp) m k) h.2) ∙ is);
    }
