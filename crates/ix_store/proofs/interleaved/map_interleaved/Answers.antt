use Rattle.std.proofs.Common.{rules, ◌≡◌, ◌<◌, ℕ, ◌+◌, ◌*◌, ◌/◌, ◌%◌, length, refl, sym, ap, subst, ◌∙◌, arith}
use Rattle.std.specs.Prelude.{slice_index_or}
use Rattle.std.specs.Fn.{FnReturns}
use Rattle.ix_store.specs.Shares.{IsShare}
use Rattle.ix_store.proofs.Sharing.{each-more, number-in}
use Rattle.ix_store.proofs.interleaved.map_interleaved.Goals as goal

pub loop-number-init : goal.loop-number-init
loop-number-init g c = (ap length c.in_ok-found.ensures.items, λ i d less. absurd (omega (arith, less)))

pub loop-number-preserved : goal.loop-number-preserved
loop-number-preserved g c =
    let found = c.loop-number.found.items in
    let number = c.loop-number.number in
    let step = c.max-step.result in
    let share = c.in-Ok.share.items in
    let Is : ℕ → g.row.X.Denot → Type 0 = λ i x. FnReturns g.F.Fn c.args.f.now (i, tt) x in
    let of : IsShare g.F.Fn c.args.f.now c.args.count step (number % step) share = search rules in
    let at : number % step + number / step * step ≡ number = number-in number step in
    let inside : number / step < length share = of.whole (number / step) (subst (λ n. n < c.args.count) (sym at) c.loop-number-test.true) in
    let result : g.row.X.Denot = c.index-in-Ok.result.now in
    let new : Is number result = subst (λ n. Is n result) at (subst (Is (number % step + number / step * step)) (sym c.index-in-Ok.ensures) (of.each (number / step) _ inside)) in
    let longer : length c.push.new.self.items ≡ length found + 1 = omega (arith, c.in_ok-push-in-Ok.ensures.len) in (
      longer ∙ ap (λ n. n + 1) c.loop-number.invariant.0,
      λ i d less. (refl, subst (λ xs. Is i (slice_index_or xs i d)) (sym c.in_ok-push-in-Ok.ensures.items) (each-more Is found result (λ k e h. (c.loop-number.invariant.1 k e (omega (arith, h, c.loop-number.invariant.0))).1) (subst (λ n. Is n result) (sym c.loop-number.invariant.0) new) i d (omega (arith, less, c.loop-number.invariant.0)))),
    )

pub returns-clause-len : goal.returns-clause-len
returns-clause-len g c = omega (arith, c.loop-number.invariant.0, c.loop-number-test.false, c.loop-number.auto.number-end)

pub returns-clause-each : goal.returns-clause-each
returns-clause-each g c i d less = c.loop-number.invariant.1 i d (omega (arith, less, c.loop-number-test.false))
