use Rattle.std.proofs.Common.{◌≡◌, ◌<◌, ◌^◌, ℕ, ◌+◌, ◌*◌, [], ◌∷◌, ◌++◌, length, sym, ap, subst, ◌∙◌, arith}
use Rattle.std.specs.Prelude.{min, slice_index_or}
use Rattle.std.specs.Fn.{FnReturns}
use Rattle.ix_store.proofs.Sharing.{greatest, each-more, next-number, here-now, whole-share}
use Rattle.ix_store.proofs.interleaved.share_of.Goals as goal

pub loop-number-init : goal.loop-number-init
loop-number-init g c =
    let none : length c.in_ok-found.found.items ≡ 0 = ap length c.in_ok-found.ensures.items in
    let small : c.args.from < 2 ^ 64 = c.ranges.from.fits in (
      subst (λ n. c.args.from ≡ min greatest (c.args.from + n * c.args.step)) (sym none) (omega (arith, small)),
      λ k d less. absurd (omega (arith, less, none)),
    )

pub loop-number-preserved : goal.loop-number-preserved
loop-number-preserved g c =
    let found = c.loop-number.found.items in
    let number = c.loop-number.number in
    let Is : ℕ → g.row.X.Denot → Type 0 = λ k x. FnReturns g.F.Fn c.args.f.now (c.args.from + k * c.args.step, tt) x in
    let fits : c.args.count < 2 ^ 64 = c.ranges.count.fits in
    let less : number < greatest = omega (arith, fits, c.loop-number-test.true) in
    let grown : c.push.new.self.items ≡ found ++ c.f.result ∷ [] = c.in_ok-push.ensures.items in
    let longer : length c.push.new.self.items ≡ length found + 1 = omega (arith, c.in_ok-push.ensures.len) in
    let here : number ≡ c.args.from + length found * c.args.step = here-now number c.args.from c.args.step (length found) less c.loop-number.invariant.0 in (
      subst (λ n. c.saturating_add-number.result ≡ min greatest (c.args.from + n * c.args.step)) (sym longer) (c.saturating_add-number.ensures ∙ next-number number c.args.from c.args.step (length found) less c.loop-number.invariant.0),
      λ k d inside. subst (λ xs. Is k (slice_index_or xs k d)) (sym grown) (each-more Is found c.f.result c.loop-number.invariant.1 (subst (λ n. FnReturns g.F.Fn c.args.f.now (n, tt) c.f.result) here (record { met = c.f.ensures })) k d (omega (arith, inside, longer))),
    )

pub returns : goal.returns
returns g c = record {
  whole = whole-share c.args.count c.loop-number.number c.args.from c.args.step (length c.loop-number.found.items) c.loop-number-test.false c.loop-number.invariant.0;
  each = c.loop-number.invariant.1;
}
