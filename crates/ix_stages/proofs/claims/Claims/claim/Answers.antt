use Rattle.std.proofs.Common.{◌≡◌, ◌<◌, ◌∷◌, ap, sym, ◌∙◌, ℕ, List, arith, length, Option, Some}
use Rattle.atomic_table.specs.Table.{Me, rest}
use Rattle.ix_stages.specs.Claims.{ClaimsMeaning, SeatMeaning}
use Rattle.ix_stages.proofs.Claiming.{claimed_below}
use Rattle.ix_stages.proofs.claims.Claims.claim.Goals as goal

pub exchange-requires : goal.exchange-requires
exchange-requires g c =
    let me = c.seat.inside.seat.me in
    let of : record { table = c.seat.inside.seat.table_id; values = me.0.values; seats = me.0.seats } ≡ c.args.self.now = ap (λ (s : SeatMeaning g.row.T.Denot). s.of) c.seat.view_is ∙ c.requires in
    let table : c.seat.inside.seat.table_id ≡ c.self.inside.row.shared.table_id = ap (λ (m : ClaimsMeaning g.row.T.Denot). m.table) of ∙ sym (ap (λ (m : ClaimsMeaning g.row.T.Denot). m.table) c.self.view_is) in
    let count : length me.0.values ≡ c.self.inside.count = ap (λ (m : ClaimsMeaning g.row.T.Denot). length m.values) of ∙ sym (ap (λ (m : ClaimsMeaning g.row.T.Denot). length m.values) c.self.view_is) ∙ sym c.self.invariant.1 in
    let below : c.draw-found.result < length me.0.values = (let a = c.if-found-from.false in let b = c.from.ensures in omega (arith, a, b, count)) in
    let k = claimed_below me c.draw-found.result c.draw-found.new.seat.me c.draw-found.ensures.draws below in
    let m : c.draw-found.new.seat.me.1 ≡ (c.draw-found.result, Some k.0) ∷ me.1 = ap (λ (w : Me _ _). w.1) k.2 in
    (c.draw-found.ensures.same.0 ∙ table, (Some k.0, m ∙ ap (λ (l : List (ℕ × Option g.row.T.Denot)). (c.draw-found.result, Some k.0) ∷ rest l) (sym m)))
