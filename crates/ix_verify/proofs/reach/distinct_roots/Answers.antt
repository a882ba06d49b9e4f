use Rattle.std.proofs.Common.{◌≡◌, ℕ, ◌+◌, ◌<◌, not, List, [], ◌∷◌, ◌++◌, ◌∙◌, sym, ap, subst, length, arith}
use Rattle.std.specs.Global.{Vec}
use Rattle.ix_store.specs.Store.{Blocks, has_cid, with_block}
use Rattle.ix_verify.specs.Walked.{roots_as_blocks}
use Rattle.ix_verify.proofs.Distinct.{AreFirst, first-none, first-new, first-again, set-new, set-again}
use Rattle.ix_verify.proofs.reach.distinct_roots.Goals as goal
use Rattle.ix_verify.proofs.reach.distinct_roots.Goals.{then-is_new+in_ok-try_clone-2+in_ok-push, else-is_new}

pub loop-root-init : goal.loop-root-init
loop-root-init c =
    let roots = c.args.roots.now in (
      subst (λ (s : Blocks). AreFirst roots s 0 c.new-distinct.result.items) (sym c.new-seen.ensures)
          (subst (λ (l : List (List ℕ)). AreFirst roots [] 0 l) (sym c.new-distinct.ensures.items) (first-none roots)),
      c.new-seen.ensures ∙ ap roots_as_blocks (sym c.new-distinct.ensures.items),
    )

pub loop-root-preserved : goal.loop-root-preserved
loop-root-preserved c =
    let lt : c.loop-root.root-index < length c.args.roots.now = omega arith in
    let root = c.root-item.result in
    let seen = c.loop-root.seen in
    let answer : c.in_ok-is_new.is_new ≡ not (has_cid seen root) = c.in_ok-is_new.ensures.answer ∙ ap (λ (k : List ℕ). not (has_cid seen k)) c.in_ok-try_clone.ensures.same in
    let cloned = c.in_ok-try_clone.ensures.same in
    let empty = c.new.ensures.items in
    let added : c.add.new.self ≡ with_block seen (root, []) = c.in_ok-is_new.ensures.added ∙ (λ i. with_block seen (cloned i, empty i)) in
    elim c.if-is_new.branch [
      | then-is_new+in_ok-try_clone-2+in_ok-push w ↦
          let pushed : c.if-is_new.distinct.items ≡ c.loop-root.distinct.items ++ root ∷ [] =
          ap (λ (v : Vec (List ℕ)). v.items) w.distinct-is ∙ w.in_ok-push.ensures.items ∙ ap (λ (k : List ℕ). c.loop-root.distinct.items ++ k ∷ []) w.in_ok-try_clone-2.ensures.same in (
            first-new c.args.roots.now seen c.add.new.self c.loop-root.root-index root c.loop-root.distinct.items c.if-is_new.distinct.items lt c.root-item.is (sym w.if-is_new.true ∙ answer) added pushed c.loop-root.invariant.0,
            set-new seen c.add.new.self root c.loop-root.distinct.items c.if-is_new.distinct.items (sym w.if-is_new.true ∙ answer) added pushed c.loop-root.invariant.1,
          )
      | else-is_new w ↦
          let same : c.if-is_new.distinct.items ≡ c.loop-root.distinct.items = ap (λ (v : Vec (List ℕ)). v.items) w.distinct-is in (
            subst (λ (l : List (List ℕ)). AreFirst c.args.roots.now c.add.new.self (c.loop-root.root-index + 1) l) (sym same)
                (first-again c.args.roots.now seen c.add.new.self c.loop-root.root-index root c.loop-root.distinct.items lt c.root-item.is (sym w.if-is_new.false ∙ answer) added c.loop-root.invariant.0),
            set-again seen c.add.new.self root c.loop-root.distinct.items (sym w.if-is_new.false ∙ answer) added c.loop-root.invariant.1 ∙ ap roots_as_blocks (sym same),
          )
    ]
