use Rattle.std.proofs.Common.{◌≡◌, ◌⊎◌, ◌∙◌, ◌+◌, ◌*◌, ◌<◌, ◌≤◌, ℕ, List, length, map, slice_get, Some, ap, inl, inr, ⊎_elim, arith}
use Rattle.std.proofs.lemmas.Bool.{cases_lt}
use Rattle.std.proofs.lemmas.Option.{slice_get_within}
use Rattle.ix_store.specs.Sound.{verdict_of_copy}
use Rattle.ix_store.proofs.Judging.{judged-more, same-part}
use Rattle.ix_store.proofs.judge.judge_share.Goals as goal

pub loop-place-preserved : goal.loop-place-preserved
loop-place-preserved c =
    let pairs = c.args.entries.now in
    let e : List ℕ × List ℕ = (c.at.result.0.now, c.at.result.1.now) in
    let at : slice_get pairs c.loop-place.place ≡ Some e = c.at.ensures in
    c.in_ok-push.ensures.items
    ∙ judged-more pairs c.min-from.result c.loop-place.place e c.loop-place.verdicts.items c.verdict_on.result c.loop-place.auto.place (slice_get_within pairs c.loop-place.place e at) at c.loop-place.invariant c.verdict_on.ensures

pub returns : goal.returns
returns c =
    let pairs = c.args.entries.now in
    let long = length pairs in
    let from = c.min-from.result in
    let place = c.loop-place.place in
    let start = c.args.number * c.args.share in
    let first : (from ≡ start) ⊎ ((long ≤ from) × (long ≤ start)) =
    ⊎_elim (λ (h : start < long). inl (omega (arith, h, c.len.ensures, c.len-2.ensures, c.saturating_mul.ensures, c.saturating_add.ensures, c.min-from.ensures, c.min-to.ensures, c.loop-place-test.false, c.loop-place.auto.place-end))) (λ (h : long ≤ start). inr (omega (arith, h, c.len.ensures, c.len-2.ensures, c.saturating_mul.ensures, c.saturating_add.ensures, c.min-from.ensures, c.min-to.ensures, c.loop-place-test.false, c.loop-place.auto.place-end), h)) (cases_lt start long) in
    let last : (place ≡ start + c.args.share) ⊎ ((long ≤ place) × (long ≤ start + c.args.share)) =
    ⊎_elim (λ (h : start + c.args.share < long). inl (omega (arith, h, c.len.ensures, c.len-2.ensures, c.saturating_mul.ensures, c.saturating_add.ensures, c.min-from.ensures, c.min-to.ensures, c.loop-place-test.false, c.loop-place.auto.place-end))) (λ (h : long ≤ start + c.args.share). inr (omega (arith, h, c.len.ensures, c.len-2.ensures, c.saturating_mul.ensures, c.saturating_add.ensures, c.min-from.ensures, c.min-to.ensures, c.loop-place-test.false, c.loop-place.auto.place-end), h)) (cases_lt (start + c.args.share) long) in
    c.loop-place.invariant ∙ ap (map verdict_of_copy) (same-part pairs from place start (start + c.args.share) first last)
