use Rattle.std.proofs.Common.{rules, ◌≡◌, ◌<◌, ◌≤◌, ◌-◌, ℕ, List, [], ◌∷◌, ◌++◌, length, drop, ap, ◌∙◌, arith, length-append, Option, None}
use Rattle.circular_buffer.specs.Buffer.{Buffer}
use Rattle.ix_pipeline.specs.Numbered.{slot}
use Rattle.ix_pipeline.proofs.Slots.{slot-none}
use Rattle.ix_pipeline.proofs.ring.reach.Goals as goal

pub loop-window-preserved : goal.loop-window-preserved
loop-window-preserved g c =
    let h = c.loop-window.invariant in
    let w = c.loop-window.window in
    let short : length w.items ≤ c.args.index = search rules in
    let cap : c.args.index < w.capacity = h.room in
    let l = length-append w.items (None ∷ []) in
    let n : length (w.items ++ None ∷ []) - w.capacity ≡ 0 = omega (arith, l, short, cap) in
    let e : c.push_back.new.self.items ≡ w.items ++ None ∷ [] = ap (λ (b : Buffer (Option g.row.T.Denot)). b.items) c.push_back.ensures.items ∙ ap (λ (k : ℕ). drop k (w.items ++ None ∷ [])) n in
    let k : c.push_back.new.self.capacity ≡ w.capacity = ap (λ (b : Buffer (Option g.row.T.Denot)). b.capacity) c.push_back.ensures.items in
    let size : length c.push_back.new.self.items ≡ length (w.items ++ None ∷ []) = ap (λ (xs : List (Option g.row.T.Denot)). length xs) e in
    record {
      slots = λ i. ap (λ (xs : List (Option g.row.T.Denot)). slot xs i) e ∙ (slot-none w.items i ∙ h.slots i);
      room = omega (arith, k, cap);
      within = λ most below few. omega arith;
    }
