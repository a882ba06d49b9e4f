use Rattle.std.proofs.Common.{◌≡◌, ◌∙◌, ℕ, List, take, slice_get, get_or, Some, All, refl, sym, ap, subst}
use Rattle.std.proofs.lemmas.List.{take_all}
use Rattle.std.proofs.lemmas.List.Elements.{All-more}
use Rattle.ix_store.specs.Index.{IsAfter, HasAllOf}
use Rattle.ix_store.proofs.Found.{true-put}
use Rattle.ix_store.proofs.Seen.{all-put, all-of-both, all-behind, put-behind}
use Rattle.ix_store.proofs.index.Index.insert_all_overflow.Goals as goal

pub loop-place-preserved : goal.loop-place-preserved
loop-place-preserved c =
    let es = c.args.entries.now in
    let index = c.loop-place.self in
    let later = c.insert_overflow.new.self in
    let said = c.in_ok-existing.ensures in
    let n = c.loop-place.place-index in
    let place = get_or c.args.places.now n 0 in
    let x : List ℕ × List ℕ = (c.in-Some.cid.now, c.in-Some.field-0-1.now) in
    let at : slice_get es place ≡ Some x = sym c.in-Some.ensures in
    let same : c.in_ok-existing.existing ≡ place = c.if-existing-place.false in
    let has : HasAllOf later index = all-put index later x.0 c.in_ok-existing.existing place said.put said.existing in (
      said.slots ∙ c.loop-place.invariant.0,
      all-of-both c.args.self.now index later c.loop-place.invariant.1 has,
      (λ before. true-put index later es x.0 c.in_ok-existing.existing x (c.loop-place.invariant.2 before) said.put (ap (slice_get es) same ∙ at) refl),
      All-more (λ p. IsAfter later es p) c.args.places.now n 0 c.loop-place-test.true (all-behind index later es (take n c.args.places.now) has c.loop-place.invariant.3) (put-behind index later es x c.in_ok-existing.existing place said.put same at),
    )

pub returns-clause-put : goal.returns-clause-put
returns-clause-put c _ =
    let places = c.args.places.now in
    subst (λ (l : List ℕ). All (λ p. IsAfter c.loop-place.self c.args.entries.now p) l) (take_all c.loop-place.place-index places c.loop-place-test.false) c.loop-place.invariant.3
