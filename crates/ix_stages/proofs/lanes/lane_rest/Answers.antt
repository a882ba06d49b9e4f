use Rattle.std.proofs.Common.{◌∷◌, [], ◌++◌, ap, ◌∙◌, sym, append_assoc, List}
use Rattle.rtrb.specs.Ring.{received, known_items}
use Rattle.ix_stages.specs.declared.verdicted.Verdicted.{Verdicted}
use Rattle.ix_stages.proofs.lanes.lane_rest.Goals as goal

pub returns-else-slots_beside-eq0-clause-order : goal.returns-else-slots_beside-eq0-clause-order
returns-else-slots_beside-eq0-clause-order c =
    let popped = c.pop_known.ensures.received in
    let before = received c.slots_beside.new.self in
    let left = known_items c.pop_known.new.self in (
      left,
      ap (λ (l : List Verdicted). l ++ left) popped.0 ∙ append_assoc before (c.pop_known.result ∷ []) left
          ∙ ap (λ (l : List Verdicted). before ++ l) (sym popped.1) ∙ c.slots_beside.ensures.fifo,
    )
