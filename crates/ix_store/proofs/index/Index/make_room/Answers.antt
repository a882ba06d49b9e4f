use Rattle.std.proofs.Common.{◌≡◌, ◌∙◌, ◌+◌, ◌<◌, refl, sym, ap, subst, arith, slice_get, List, ℕ, Bool, Some, None}
use Rattle.std.specs.BTreeMap.{BTreeMap, get}
use Rattle.std.specs.Cmp.Lexicographic.{slice_cmp}
use Rattle.std.specs.Ordering.{nat_cmp}
use Rattle.std.proofs.lemmas.Slice.Eq.{bytes_eq-Decides}
use Rattle.ix_store.specs.Index.{key_hash, place_after, Comes, IsIndexed}
use Rattle.ix_store.specs.Room.{slot_for, with_taken, taken_by, HasCrowdedOf}
use Rattle.ix_store.specs.Store.{position_of}
use Rattle.ix_store.specs.declared.index.Index.{Index}
use Rattle.ix_store.proofs.Stores.{position-there}
use Rattle.ix_store.proofs.Indexes.{indexed-same, indexed-put, put-keeps, behind-put}
use Rattle.ix_store.proofs.Room.{taken-more, crowded-slot, crowded-behind, crowded-later}
use Rattle.ix_store.proofs.index.Index.make_room.Goals.{in-Some, in-None+in_ok-insert_overflow-in-None, in-None+else-has_place}
use Rattle.ix_store.proofs.index.Index.make_room.Goals as goal

pub returns-in_err-insert_overflow-in-None : goal.returns-in_err-insert_overflow-in-None
returns-in_err-insert_overflow-in-None c =
    indexed-same c.loop-place.self c.insert_overflow.new.self _ c.loop-place.invariant.0 (ap (λ s. s.items) c.in_err-insert_overflow-in-None.ensures.slots) c.in_err-insert_overflow-in-None.ensures.err

pub returns-in_err-free_slots : goal.returns-in_err-free_slots
returns-in_err-free_slots c =
    indexed-same c.loop-place.self c.free_slots.new.self _ c.loop-place.invariant.0 c.in_err-free_slots.ensures.err
    (λ k. ap (λ (m : BTreeMap (List ℕ) ℕ). get (slice_cmp nat_cmp) m k) c.in_err-free_slots.ensures.overflow)

pub fill_slots-requires-clause-crowded : goal.fill_slots-requires-clause-crowded
fill_slots-requires-clause-crowded c k e within there none =
    let all : k < c.loop-place.place = omega (arith, within, c.loop-place-test.false, c.len-place-end.ensures) in
    ap (λ (m : BTreeMap (List ℕ) ℕ). get (slice_cmp nat_cmp) m e.0) c.in_ok-free_slots.ensures.overflow
    ∙ c.loop-place.invariant.2 k e all there (subst (λ (n : ℕ). slot_for (taken_by n c.args.entries.now k) (key_hash e.0) k ≡ None) c.in_ok-free_slots.ensures.len none)

pub loop-place-preserved : goal.loop-place-preserved
loop-place-preserved c =
    let entries = c.args.entries.now in
    let size = c.saturating_add-size.result in
    let place = c.loop-place.place in
    let e : List ℕ × List ℕ = (c.at.result.0.now, c.at.result.1.now) in
    let here_is : slice_get entries place ≡ Some e = c.at.ensures in
    let t = c.key_hash-hash.result in
    let hash : t ≡ key_hash e.0 = c.key_hash-hash.ensures in
    let index = c.loop-place.self in
    let taken = c.loop-place.taken.items in
    let h = c.loop-place.invariant in
    let there : position_of entries e.0 ≡ Some place = position-there entries place e e.0 h.0.distinct here_is ((bytes_eq-Decides e.0 e.0).1 refl) in
    elim c.match-slot_for.branch [
      | in-Some w ↦
          let slot = w.in-Some.slot in
          let found : slot_for taken (key_hash e.0) place ≡ Some slot =
          ap (λ (n : ℕ). slot_for taken n place) (sym hash) ∙ ap (λ (r : List Bool). slot_for r t place) (sym c.as_slice.ensures.value) ∙ sym w.in-Some.ensures in
          let more : with_taken taken (Some slot) ≡ taken_by size entries (place + 1) = taken-more size entries place e taken (Some slot) here_is h.1 found in (
            subst (λ (i : Index). IsIndexed i entries) (sym w.self-is) h.0,
            ap (λ v. v.items) w.taken-is ∙ more,
            subst (λ (i : Index). HasCrowdedOf i entries size (place + 1)) (sym w.self-is) (crowded-slot index entries size place slot e taken here_is h.1 found h.2),
          )
      | in-None+in_ok-insert_overflow-in-None w ↦
          let none : slot_for taken (key_hash e.0) place ≡ None =
          ap (λ (n : ℕ). slot_for taken n place) (sym hash) ∙ ap (λ (r : List Bool). slot_for r t place) (sym c.as_slice.ensures.value) ∙ sym w.in-None.ensures in
          let more : taken ≡ taken_by size entries (place + 1) = taken-more size entries place e taken None here_is h.1 none in
          let later = w.insert_overflow.new.self in
          let s = w.in_ok-insert_overflow-in-None.ensures in
          let behind = behind-put index later entries e.0 _ place h.0 there s.put s.existing in
          let kept : HasCrowdedOf later entries size place = crowded-later index later entries size place (λ d q is. put-keeps index later e.0 d _ place q s.put s.existing is) h.2 in (
            subst (λ (i : Index). IsIndexed i entries) (sym w.self-is) (indexed-put index later entries e.0 _ place h.0 there (ap (λ v. v.items) s.slots) s.put s.existing),
            ap (λ v. v.items) w.taken-is ∙ more,
            subst (λ (i : Index). HasCrowdedOf i entries size (place + 1)) (sym w.self-is) (crowded-behind later entries size place e here_is behind kept),
          )
      | in-None+else-has_place w ↦
          let none : slot_for taken (key_hash e.0) place ≡ None =
          ap (λ (n : ℕ). slot_for taken n place) (sym hash) ∙ ap (λ (r : List Bool). slot_for r t place) (sym c.as_slice.ensures.value) ∙ sym w.in-None.ensures in
          let more : taken ≡ taken_by size entries (place + 1) = taken-more size entries place e taken None here_is h.1 none in
          let old : Comes index.slots.items (place_after index e.0) (key_hash e.0) place = h.0.leads e.0 place there in
          let behind : place_after index e.0 ≡ Some place = w.has_place.ensures w.if-has_place.false (place_after index e.0)
          (subst (λ (n : ℕ). Comes index.slots.items (place_after index e.0) n place) (sym hash) old) in (
            subst (λ (i : Index). IsIndexed i entries) (sym w.self-is) h.0,
            ap (λ v. v.items) w.taken-is ∙ more,
            subst (λ (i : Index). HasCrowdedOf i entries size (place + 1)) (sym w.self-is) (crowded-behind index entries size place e here_is behind h.2),
          )
    ]
