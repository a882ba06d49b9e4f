use Rattle.std.proofs.Common.{refl, sym, subst, List, ◌∙◌, true≢false}
use Rattle.std.proofs.lemmas.List.Elements.{All-nil, All-push}
use Rattle.ix_stages.specs.declared.course.JobVisits.{JobVisits}
use Rattle.ix_stages.specs.Course.{Allowed}
use Rattle.ix_stages.specs.Verified.{IsStop}
use Rattle.ix_stages.proofs.LaneEnds.{same_again}
use Rattle.ix_stages.proofs.Passing.{passed_none, passed_more, verified, same_course, item_of_store}
use Rattle.ix_stages.proofs.verifier.verify.Goals as goal

pub loop-init : goal.loop-init
loop-init g c = (refl, ((refl, refl, refl, refl), refl), (passed_none _ _ _ _, All-nil (λ x. IsStop x → ⊥)))

pub check_item-verdict-requires : goal.check_item-verdict-requires
check_item-verdict-requires g c =
    let did = c.loop.invariant.2.0 in
    let a = c.take-item.ensures.taken.1.allowed in
    item_of_store _ _ _ c.requires.course (subst (λ (k : List JobVisits). Allowed k c.take-item.result) (same_course _ _ _ _ _ _ _ did) a)

pub returns-then-stop-clause-verified : goal.returns-then-stop-clause-verified
returns-then-stop-clause-verified g c =
    let h = c.loop.invariant.2 in
    verified _ _ _ _ _ _ _ _ _ _ _ _ h.0 h.1 (record { taken = c.take-item.ensures.taken.1; answers = c.check_item-verdict.ensures.answers; sent = c.send.ensures.sent; checked = c.check_item-verdict.ensures.checked })
    (c.if-stop.ensures.0 refl)

pub loop-preserved : goal.loop-preserved
loop-preserved g c =
    let h = c.loop.invariant in (
      c.take-item.ensures.taken.0 ∙ h.0,
      same_again c.args.lane.now c.loop.lane c.send.new.lane h.1 c.send.ensures.same,
      (
        passed_more _ _ _ _ _ _ _ _ _ _ _ _ h.2.0 (record { taken = c.take-item.ensures.taken.1; answers = c.check_item-verdict.ensures.answers; sent = c.send.ensures.sent; checked = c.check_item-verdict.ensures.checked }),
        All-push (λ x. IsStop x → ⊥) _ _ h.2.1 (λ p. true≢false (sym (c.if-stop.ensures.1 p))),
      ),
    )
