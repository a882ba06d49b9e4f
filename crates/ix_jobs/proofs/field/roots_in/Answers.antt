use Rattle.std.proofs.Common.{◌≡◌, ◌+◌, ℕ, List, [], ◌∷◌, length, map, Result, Ok, sym, ◌∙◌, ap, subst, lit<, arith}
use Rattle.std.specs.Borrow.{Bor}
use Rattle.std.proofs.lemmas.List.{map-append, length-append}
use Rattle.std.proofs.lemmas.Result.{err_from_is_err_and}
use Rattle.std.proofs.lemmas.Iterator.Consumers.{YieldsList-at, YieldsList-so_far, YieldsList-turn, YieldsList-end, count_from_yields_List}
use Rattle.std.proofs.lemmas.Iterator.Splits.{YieldsList-from_str_split}
use Rattle.ix_jobs.specs.declared.fault.JobErrorKind.{JobErrorKind}
use Rattle.ix_jobs.specs.Jobs.{root_texts, cids_in}
use Rattle.ix_jobs.specs.Gives.{FailsAs}
use Rattle.ix_jobs.proofs.Roots.{one_more, one_faulty, too_many, not_too_many, some_text}
use Rattle.ix_jobs.proofs.field.roots_in.Goals as goal

pub returns-then-count-gt-MOST_ROOTS-clause-exact : goal.returns-then-count-gt-MOST_ROOTS-clause-exact
returns-then-count-gt-MOST_ROOTS-clause-exact c =
    let road = YieldsList-from_str_split 44 c.args.text.now (lit< tt) c.split.ensures.text c.split.ensures.has_more c.split.ensures.pattern in
    too_many c.args.text.now c.count.result (count_from_yields_List c.split.result c.count.result c.count.ensures.ran road) c.if-count-gt-MOST_ROOTS.true

pub returns-in_err-root_in-clause-exact : goal.returns-in_err-root_in-clause-exact
returns-in_err-root_in-clause-exact c =
    let now : Bor (List ℕ) → List ℕ = λ x. x.now in
    let counted = YieldsList-from_str_split 44 c.args.text.now (lit< tt) c.split.ensures.text c.split.ensures.has_more c.split.ensures.pattern in
    let split = YieldsList-from_str_split 44 c.args.text.now (lit< tt) c.split-part-items.ensures.text c.split-part-items.ensures.has_more c.split-part-items.ensures.pattern in
    let road = YieldsList-at c.into_iter-part-iterator.ensures.into_iter_gives split in
    let so_far = YieldsList-so_far road c.loop-part.yielded _ c.loop-part.yielded_by in
    let turn = YieldsList-turn road c.loop-part.yielded _ c.loop-part.yielded_by _ _ _ c.in-Some.is c.next.ensures.steps in
    let kind : JobErrorKind = c.in_err-root_in.field-0.0 in
    let failed = err_from_is_err_and c.from_residual.result c.from_residual.ensures.1 in
    let faulty : FailsAs kind kind (cids_in (root_texts c.args.text.now)) =
    one_faulty (root_texts c.args.text.now) (map now c.loop-part.yielded) (length c.loop-part.yielded) c.in-Some.part.now c.loop-part.roots.items kind so_far turn.0 turn.1 c.loop-part.invariant.read c.in_err-root_in.ensures in
    rw (failed.1, failed.2)
    (subst (λ (r : Result (List (List ℕ)) JobErrorKind). FailsAs kind kind r) (sym (not_too_many c.args.text.now c.count.result (count_from_yields_List c.split.result c.count.result c.count.ensures.ran counted) c.if-count-gt-MOST_ROOTS.false)) faulty)

pub loop-part-preserved : goal.loop-part-preserved
loop-part-preserved c =
    let now : Bor (List ℕ) → List ℕ = λ x. x.now in
    record {
      read =
          ap cids_in (map-append now c.loop-part.yielded (c.in-Some.part ∷ []))
          ∙ one_more (map now c.loop-part.yielded) c.in-Some.part.now c.loop-part.roots.items c.in_ok-root_in.field-0 c.loop-part.invariant.read c.in_ok-root_in.ensures
          ∙ ap (λ (cs : List (List ℕ)). Ok cs) (sym c.in_ok-push.ensures.items);
      many = simp length-append (simp length-append at (ap length c.in_ok-push.ensures.items) ∙ ap (λ (n : ℕ). n + 1) c.loop-part.invariant.many);
    }

pub returns-clause-exact : goal.returns-clause-exact
returns-clause-exact c =
    let now : Bor (List ℕ) → List ℕ = λ x. x.now in
    let counted = YieldsList-from_str_split 44 c.args.text.now (lit< tt) c.split.ensures.text c.split.ensures.has_more c.split.ensures.pattern in
    let road = YieldsList-from_str_split 44 c.args.text.now (lit< tt) c.split-part-items.ensures.text c.split-part-items.ensures.has_more c.split-part-items.ensures.pattern in
    let end = YieldsList-end (YieldsList-at c.into_iter-part-iterator.ensures.into_iter_gives road) c.loop-part.yielded _ c.loop-part.yielded_by _ _ c.in-None.is c.next.ensures.steps in
    not_too_many c.args.text.now c.count.result (count_from_yields_List c.split.result c.count.result c.count.ensures.ran counted) c.if-count-gt-MOST_ROOTS.false
    ∙ ap cids_in (sym end.0) ∙ c.loop-part.invariant.read

pub returns-clause-within : goal.returns-clause-within
returns-clause-within c =
    let counted = YieldsList-from_str_split 44 c.args.text.now (lit< tt) c.split.ensures.text c.split.ensures.has_more c.split.ensures.pattern in
    let road = YieldsList-from_str_split 44 c.args.text.now (lit< tt) c.split-part-items.ensures.text c.split-part-items.ensures.has_more c.split-part-items.ensures.pattern in
    let end = YieldsList-end (YieldsList-at c.into_iter-part-iterator.ensures.into_iter_gives road) c.loop-part.yielded _ c.loop-part.yielded_by _ _ c.in-None.is c.next.ensures.steps in
    let many : c.count.result ≡ length (root_texts c.args.text.now) = count_from_yields_List c.split.result c.count.result c.count.ensures.ran counted in
    let all : length c.loop-part.yielded ≡ length (root_texts c.args.text.now) = end.1 in
    let some = some_text c.args.text.now in
    let few = c.if-count-gt-MOST_ROOTS.false in
    let is = c.loop-part.invariant.many in
    (omega (arith, some, all, is), omega (arith, few, many, all, is))
