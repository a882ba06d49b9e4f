use Rattle.std.proofs.Common.{◌≡◌, ◌∙◌, ◌+◌, ◌<◌, ◌++◌, [], ◌∷◌, ℕ, List, length, get_or, slice_get, take, true, false, sym, ap, subst, arith}
use Rattle.std.specs.Prelude.{not, Some}
use Rattle.std.proofs.lemmas.Bool.{not-true, not-false}
use Rattle.ix_store.specs.Sound.{first_copies}
use Rattle.ix_store.specs.Index.{IsIndexed}
use Rattle.ix_store.specs.Store.{Blocks, has_cid}
use Rattle.ix_store.proofs.Stores.{read-at}
use Rattle.ix_store.proofs.Gathered.{InTurn, in-turn-kept, in-turn-held}
use Rattle.ix_store.proofs.sound.index_judged_in_turn.Goals.{then-branch, else-branch}
use Rattle.ix_store.proofs.sound.index_judged_in_turn.Goals as goal

pub loop-place-preserved : goal.loop-place-preserved
loop-place-preserved c =
    let whole = first_copies c.args.blocks.pairs in
    let count = length c.args.blocks.pairs in
    let pairs = c.loop-place.blocks.pairs in
    let kept = c.loop-place.kept in
    let place = c.loop-place.place in
    let x : List ℕ × List ℕ = (c.at.result.0.now, c.at.result.1.now) in
    let at : slice_get pairs place ≡ Some x = subst (λ (l : Blocks). slice_get l place ≡ Some x) c.entries.ensures c.at.ensures in
    let read : x ≡ get_or pairs place x = read-at pairs place x at in
    let next = c.enter.new.self in
    let less : place < count = omega (arith, c.loop-place-test.true, c.len-place-end.ensures) in
    let front : c.first-before.result ≡ take kept pairs = c.first-before.ensures ∙ ap (λ (l : Blocks). take kept l) c.entries-in-loop-place.ensures in
    let answer : c.in_ok-enter.field-0 ≡ not (has_cid (take kept pairs) x.0) = subst (λ (l : Blocks). c.in_ok-enter.field-0 ≡ not (has_cid l x.0)) front c.in_ok-enter.ensures.answer in
    elim c.if-branch.branch [
      | then-branch w ↦
          let new : has_cid (take kept pairs) x.0 ≡ false = not-true (has_cid (take kept pairs) x.0) (sym answer ∙ w.if-branch.true) in
          let indexed : IsIndexed next (take kept pairs ++ x ∷ []) = subst (λ (l : Blocks). IsIndexed next (l ++ x ∷ [])) front (c.in_ok-enter.ensures.entered w.if-branch.true x.1) in
          subst (λ (k : ℕ). InTurn whole count k (place + 1) c.if-branch.blocks.pairs next) (sym w.kept-is)
          (in-turn-kept whole count kept place pairs c.if-branch.blocks.pairs c.loop-place.index next x c.loop-place.invariant less read new (ap (λ b. b.pairs) w.blocks-is ∙ ap (λ b. b.pairs) w.swap.ensures) indexed)
      | else-branch w ↦
          let held : has_cid (take kept pairs) x.0 ≡ true = not-false (has_cid (take kept pairs) x.0) (sym answer ∙ w.if-branch.false) in
          let indexed : IsIndexed next (take kept pairs) = subst (λ (l : Blocks). IsIndexed next l) front (c.in_ok-enter.ensures.held w.if-branch.false) in
          subst (λ (k : ℕ). InTurn whole count k (place + 1) c.if-branch.blocks.pairs next) (sym w.kept-is)
          (subst (λ (l : Blocks). InTurn whole count kept (place + 1) l next) (sym (ap (λ b. b.pairs) w.blocks-is))
          (in-turn-held whole count kept place pairs c.loop-place.index next x c.loop-place.invariant less read held indexed))
    ]
