use Rattle.std.proofs.Common.{ℕ, ◌+◌, ◌<◌, ◌^◌, length, subst, sym, arith}
use Rattle.std.specs.Prelude.{IfSome}
use Rattle.std.specs.Global.{Vec}
use Rattle.std.specs.Arc.{arc_value}
use Rattle.std.proofs.lemmas.List.Elements.{All-from_get_or}
use Rattle.ix_cid.specs.Bytes.{AreBytes}
use Rattle.ix_cid.specs.Held.{StandsAt}
use Rattle.ix_store.specs.Cursor.{EndsAt}
use Rattle.ix_store.proofs.Ends.{digest_ends}
use Rattle.ix_store.proofs.cursor.Cursor.of_digest.Goals as goal

pub within-requires : goal.within-requires
within-requires c =
    let cid = c.args.cid.now in
    let bytes : AreBytes cid = All-from_get_or (λ x. x < 2 ^ 8) cid 0 (λ i _. omega (arith, c.type_inv.cid i)) in
    let stands = subst (λ o. IfSome o (λ p. StandsAt (arc_value {X = Vec ℕ} p.0.now).items p.1 cid)) c.in-Some.is c.requires.place in
    let whole = (arc_value c.in-Some.shared.now).items in
    subst (EndsAt whole (c.in-Some.start + length cid)) (sym c.requires.digest) (digest_ends whole c.in-Some.start cid bytes c.requires.cid stands)
