use Rattle.std.proofs.Common.{◌≡◌, ◌<◌, ap, sym, ◌∙◌, arith}
use Rattle.atomic_table.specs.Table.{Me}
use Rattle.ix_stages.specs.Claims.{ClaimsMeaning, SeatMeaning}
use Rattle.ix_stages.proofs.Claiming.{moves, joins}
use Rattle.ix_stages.proofs.claims.join.Goals as goal

pub split_seat-whole-requires : goal.split_seat-whole-requires
split_seat-whole-requires g c =
    let one = c.claims.invariant.0 in
    let here : c.seat.inside.seat.table_id ≡ c.claims.inside.row.shared.table_id = ap (λ (s : SeatMeaning g.row.T.Denot). s.of.table) c.seat.view_is ∙ ap (λ (m : ClaimsMeaning g.row.T.Denot). m.table) c.requires.seat ∙ sym (ap (λ (m : ClaimsMeaning g.row.T.Denot). m.table) c.claims.view_is) in
    (here, omega (arith, one), moves _ _ _ _)

pub join_seat-requires : goal.join_seat-requires
join_seat-requires g c =
    let one = c.claims.invariant.0 in
    let cut = c.split_seat-whole.ensures in
    let here : c.seat.inside.seat.table_id ≡ c.claims.inside.row.shared.table_id = ap (λ (s : SeatMeaning g.row.T.Denot). s.of.table) c.seat.view_is ∙ ap (λ (m : ClaimsMeaning g.row.T.Denot). m.table) c.requires.seat ∙ sym (ap (λ (m : ClaimsMeaning g.row.T.Denot). m.table) c.claims.view_is) in
    let part : 0 < c.split_seat-whole.result.me.0.parts = (let a = ap (λ (m : Me _ _). m.0.parts) cut.4 in let b = c.seat.invariant.0 in omega (arith, a, b)) in (
      c.requires.table ∙ sym (ap (λ (m : ClaimsMeaning g.row.T.Denot). m.table) c.claims.view_is),
      cut.3 ∙ here,
      ap (λ (m : Me _ _). m.1) cut.4,
      omega (arith, one),
      joins _ _ _ _ _ _ part,
    )
