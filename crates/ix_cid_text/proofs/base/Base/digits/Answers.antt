use Rattle.std.proofs.Common.{◌+◌, ◌<◌, ℕ, List, All, drop, subst, sym, ap, ◌∙◌}
use Rattle.std.proofs.lemmas.List.Elements.{All-push}
use Rattle.ix_cid_text.specs.Base.{digits_from, radix}
use Rattle.ix_cid_text.proofs.Places.{after, one_more, not_there}
use Rattle.ix_cid_text.proofs.base.Base.digits.Goals as goal

pub returns-in-None-clause-exact : goal.returns-in-None-clause-exact
returns-in-None-clause-exact c =
    sym c.loop-offset.invariant.goes_on
    ∙ not_there c.args.self c.args.place c.loop-offset.offset c.args.text.now c.loop-offset.digits.items c.loop-offset-test.true (sym c.in-None.ensures.exact)

pub loop-offset-preserved : goal.loop-offset-preserved
loop-offset-preserved c =
    let base = c.args.self in
    let i = c.loop-offset.offset in
    let front = c.loop-offset.digits.items in
    let kept = c.loop-offset.invariant in
    record {
      goes_on = ap (λ (l : List ℕ). after l (digits_from base (c.args.place + (i + 1)) (drop (i + 1) c.args.text.now))) c.in_ok-push-in-Some.ensures.items
          ∙ one_more base c.args.place i c.args.text.now front c.in-Some.digit c.loop-offset-test.true (sym c.in-Some.ensures.exact)
          ∙ kept.goes_on;
      below = subst (All (λ d. d < radix base)) (sym c.in_ok-push-in-Some.ensures.items) (All-push (λ d. d < radix base) front c.in-Some.digit kept.below c.in-Some.ensures.below);
    }
