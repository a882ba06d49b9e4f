use Rattle.std.proofs.Common.{arith, subst}
use Rattle.ix_cbor.specs.Majors.{number_of}
use Rattle.ix_cbor.specs.Fronts.{own_of_front}
use Rattle.ix_cbor.specs.Answered.{Reads}
use Rattle.ix_cbor.proofs.Leaves.{own_at-behind}
use Rattle.ix_cbor.proofs.Links.{front_has_cid}
use Rattle.ix_cbor.proofs.leaf.front_of_item.Goals as goal

exact : goal.returns-in-len1-up-clause-exact
exact c =
    subst (λ m. Reads (λ r. (own_of_front r.0, r.1.now)) c.of_major.result m) (own_at-behind c.args.bytes.now (number_of c.of.result) c.information_of.result c.in-len1-up.len_at_least c.of.ensures c.information_of.ensures) c.of_major.ensures

pub returns-in-len1-up-clause-exact : goal.returns-in-len1-up-clause-exact
returns-in-len1-up-clause-exact c = exact c

pub returns-in-len1-up-clause-cid : goal.returns-in-len1-up-clause-cid
returns-in-len1-up-clause-cid c = front_has_cid (λ x. x.now) c.args.bytes.now c.of_major.result (λ i. omega (arith, c.type_inv.bytes i)) (exact c)
