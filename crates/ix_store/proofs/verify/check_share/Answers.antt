use Rattle.std.proofs.Common.{◌≡◌, ◌∙◌, ◌+◌, ◌<◌, ℕ, List, length, slice_get, Some, sym, ap, subst, arith, rules}
use Rattle.std.proofs.lemmas.Option.{slice_get_within}
use Rattle.ix_store.specs.Index.{AreSeen, probe_in}
use Rattle.ix_store.specs.declared.index.Probe.TheVariants.{At, Full}
use Rattle.ix_store.proofs.Seen.{seen-there, seen-full}
use Rattle.ix_store.proofs.verify.check_share.Goals.{in-At, in-Full+in_ok-push-in-Full}
use Rattle.ix_store.proofs.verify.check_share.Goals as goal

pub loop-place-preserved : goal.loop-place-preserved
loop-place-preserved c =
    let es = c.args.entries.now in
    let slots = c.args.slots.now in
    let from = c.min-from.result in
    let place = c.loop-place.place in
    let e : List ℕ × List ℕ = (c.at.result.0.now, c.at.result.1.now) in
    let at : slice_get es place ≡ Some e = c.at.ensures in
    elim c.match-look.branch [
      | in-At w ↦
          let seen : probe_in slots es e.0 ≡ At place = sym w.in-At.ensures ∙ ap At w.if-other-place.true in
          subst (λ (l : List ℕ). AreSeen slots es from (place + 1) l) (sym (ap (λ v. v.items) w.places-is)) (seen-there slots es from place c.loop-place.places.items e c.loop-place.invariant at seen)
      | in-Full+in_ok-push-in-Full w ↦
          let seen : probe_in slots es e.0 ≡ Full = sym w.in-Full.ensures in
          let more = seen-full slots es from place c.loop-place.places.items e c.loop-place.invariant at seen in
          subst (λ (l : List ℕ). AreSeen slots es from (place + 1) l) (search rules) more
    ]

pub returns : goal.returns
returns c k e above less is =
    let within : k < length c.args.entries.now = slice_get_within c.args.entries.now k e is in
    c.loop-place.invariant k e (omega (arith, above, within, c.min-from.ensures, c.saturating_mul.ensures)) (omega (arith, above, less, within, c.min-from.ensures, c.saturating_mul.ensures, c.saturating_add.ensures, c.min-to.ensures, c.loop-place-test.false)) is
