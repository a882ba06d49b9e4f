use Rattle.std.proofs.Common.{◌<◌, ◌≤◌, ◌-◌, ◌^◌, arith, length, sym, ◌∙◌, ap, subst}
use Rattle.std.specs.Prelude.{Ok, Result}
use Rattle.std.proofs.lemmas.List.Elements.{All-from_get_or}
use Rattle.ix_cid.specs.Bytes.{AreBytes}
use Rattle.ix_cbor.specs.declared.fault.CborKind.{CborKind}
use Rattle.ix_cbor.specs.Data.{Data, data_of}
use Rattle.ix_cbor.specs.Spelling.{Spells}
use Rattle.ix_cbor.specs.Reading.{Fault, decoded}
use Rattle.ix_cbor.specs.Gives.{FailsAs, IsFirstAs}
use Rattle.ix_cbor.proofs.Laws.{decoded-sound, decoded-complete}
use Rattle.ix_cbor.proofs.Within.{decoded_within}
use Rattle.ix_cbor.proofs.Places.{lies_within, placed_fails, first_placed}
use Rattle.ix_cbor.proofs.codec.decode.Goals as goal

pub of_canonical-requires : goal.of_canonical-requires
of_canonical-requires c =
    let bytes : AreBytes c.args.bytes.now = All-from_get_or (λ x. x < 2 ^ 8) c.args.bytes.now 0 (λ i _. omega (arith, c.type_inv.bytes i)) in
    (decoded-sound c.args.bytes.now (data_of c.in-Ok.node) bytes c.in-Ok.ensures).canonical

pub fault_of-requires : goal.fault_of-requires
fault_of-requires c =
    lies_within c.in-Err.fault.kind c.in-Err.fault.left (length c.args.bytes.now) (decoded c.args.bytes.now) (decoded_within c.args.bytes.now) c.in-Err.ensures

pub returns-in-Ok-clause-found : goal.returns-in-Ok-clause-found
returns-in-Ok-clause-found c =
    let bytes : AreBytes c.args.bytes.now = All-from_get_or (λ x. x < 2 ^ 8) c.args.bytes.now 0 (λ i _. omega (arith, c.type_inv.bytes i)) in
    subst (λ (d : Data). Spells c.args.bytes.now d) (sym c.of_canonical.ensures) (decoded-sound c.args.bytes.now (data_of c.in-Ok.node) bytes c.in-Ok.ensures)

pub returns-in-Ok-clause-only : goal.returns-in-Ok-clause-only
returns-in-Ok-clause-only c = λ d spelled.
    sym (decoded-complete c.args.bytes.now d spelled) ∙ c.in-Ok.ensures ∙ ap (λ (t : Data). Ok t) (sym c.of_canonical.ensures)

exact : goal.returns-in-Err-clause-exact
exact c =
    let n = length c.args.bytes.now in
    let fault = c.in-Err.fault in
    let within = lies_within fault.kind fault.left n (decoded c.args.bytes.now) (decoded_within c.args.bytes.now) c.in-Err.ensures in
    subst (λ (k : CborKind). (c.fault_of.result.place ≤ n) × FailsAs k (n - c.fault_of.result.place) (decoded c.args.bytes.now)) (sym c.fault_of.ensures.kind)
    (placed_fails fault.kind fault.left n c.fault_of.result.place (decoded c.args.bytes.now) within c.fault_of.ensures.place c.in-Err.ensures)

pub returns-in-Err-clause-exact : goal.returns-in-Err-clause-exact
returns-in-Err-clause-exact c = exact c

pub returns-in-Err-clause-only : goal.returns-in-Err-clause-only
returns-in-Err-clause-only c = λ d spelled.
    subst (λ (r : Result Data Fault). (c.fault_of.result.place ≤ length c.args.bytes.now) × FailsAs c.fault_of.result.kind (length c.args.bytes.now - c.fault_of.result.place) r) (decoded-complete c.args.bytes.now d spelled) (exact c)

pub returns-in-Err-clause-fault : goal.returns-in-Err-clause-fault
returns-in-Err-clause-fault c =
    let b = c.args.bytes.now in
    let fault = c.in-Err.fault in
    let bytes : AreBytes b = All-from_get_or (λ x. x < 2 ^ 8) b 0 (λ i _. omega (arith, c.type_inv.bytes i)) in
    let within = lies_within fault.kind fault.left (length b) (decoded b) (decoded_within b) c.in-Err.ensures in
    subst (λ (k : CborKind). IsFirstAs b k c.fault_of.result.place) (sym c.fault_of.ensures.kind)
    (first_placed fault.kind b fault.left c.fault_of.result.place bytes within c.fault_of.ensures.place c.in-Err.ensures)
