use Rattle.std.proofs.Common.{◌+◌, ◌/◌, ◌≤◌, refl, sym, ◌-◌, subst, arith, length, vec_len}
use Rattle.ix_store.specs.declared.places.PlaceSet.{PlaceSet}
use Rattle.ix_store.specs.PlaceSet.{contains_place}
use Rattle.ix_store.proofs.Bits.{HasRoom, filled-up, bit-more}
use Rattle.ix_store.proofs.places.PlaceSet.insert.Goals.{then-len-word+in_ok-resize, else-len-word}
use Rattle.ix_store.proofs.places.PlaceSet.insert.Goals as goal

pub returns-clause-inserted : goal.returns-clause-inserted
unfolding contains_place
returns-clause-inserted c n =
    let words = c.args.self.now.words.items in
    let room : HasRoom words c.if-len-word.self.words.items (c.args.place / 64) =
    elim c.if-len-word.branch [
      | then-len-word+in_ok-resize w ↦
          let short : length words ≤ c.args.place / 64 = omega (arith, w.if-len-word.true, c.len.ensures, c.args.self.now.words.ok.0) in
          subst (λ (m : PlaceSet). HasRoom words m.words.items (c.args.place / 64)) (sym w.self-is)
          (filled-up words w.resize.new.self.items (c.args.place / 64) (c.args.place / 64 + 1 - vec_len c.args.self.now.words) short (omega (arith, short, c.args.self.now.words.ok.0)) w.in_ok-resize.ensures.items)
      | else-len-word w ↦
          subst (λ (m : PlaceSet). HasRoom words m.words.items (c.args.place / 64)) (sym w.self-is)
          (record { same = λ i. refl; within = omega (arith, w.if-len-word.false, c.len.ensures, c.args.self.now.words.ok.0) })
    ] in
    bit-more words c.if-len-word.self.words.items c.index_mut.result.now c.args.place n room c.index_mut.ensures.value
