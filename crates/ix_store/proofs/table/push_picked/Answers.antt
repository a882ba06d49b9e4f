use Rattle.std.proofs.Common.{◌∙◌, ap}
use Rattle.ix_store.proofs.SoundFirst.{picked-yes, picked-no}
use Rattle.ix_store.proofs.table.push_picked.Goals.{then-passes+in_ok-push, else-passes}
use Rattle.ix_store.proofs.table.push_picked.Goals as goal

pub loop-place-preserved : goal.loop-place-preserved
loop-place-preserved g c =
    let vs = c.args.verdicts.now in
    let xs = c.args.list.now in
    let n = c.loop-place.place in
    let old = c.args.sorted.now.items in
    let now = c.loop-place.sorted.items in
    elim c.if-passes.branch [
      | then-passes+in_ok-push w ↦
          ap (λ v. v.items) w.sorted-is
          ∙ picked-yes c.args.passes n vs xs old now w.push.new.self.items _ c.passes.result w.index-list-place.result c.requires c.loop-place-test.true c.passes.ensures w.if-passes.true w.index-list-place.is c.loop-place.invariant w.in_ok-push.ensures.items
      | else-passes w ↦
          ap (λ v. v.items) w.sorted-is
          ∙ picked-no c.args.passes n vs xs old now _ c.passes.result c.requires c.loop-place-test.true c.passes.ensures w.if-passes.false c.loop-place.invariant
    ]
