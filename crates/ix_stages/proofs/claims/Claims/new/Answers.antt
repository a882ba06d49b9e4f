use Rattle.std.proofs.Common.{◌≡◌, ◌≤◌, ◌∷◌, [], List, Option, Some, length, map, ap, sym, subst, ◌∙◌, arith}
use Rattle.atomic_table.specs.Table.{opening}
use Rattle.ix_stages.specs.ClaimRule.{claimer, IsClaimed}
use Rattle.ix_stages.proofs.Claiming.{opens}
use Rattle.ix_stages.proofs.claims.Claims.new.Goals as goal

pub new-requires : goal.new-requires
new-requires g c =
    let values = c.of.result.value.items in
    let same : values ≡ c.args.values.items = ap (λ v. v.items) c.of.ensures in
    let slots : c.in_ok-slots.slots.items ≡ map Some values = c.in_ok-slots.ensures ∙ ap (λ (l : List g.row.T.Denot). map Some l) (sym same) in
    let few : length values ≤ 1000 = (let a = ap length same in let b = c.requires.values in omega (arith, a, b)) in
    subst (λ (l : List (Option g.row.T.Denot)). IsClaimed values c.args.seats (opening (0 ∷ []) l (claimer c.args.seats c.args.seats values [] 0))) (sym slots) (opens values c.args.seats few c.requires.seats.1)
