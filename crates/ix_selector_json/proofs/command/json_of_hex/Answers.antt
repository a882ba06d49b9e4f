use Rattle.std.proofs.Common.{◌≡◌, subst}
use Rattle.std.proofs.lemmas.Result.{err_from_is_err_and}
use Rattle.std.specs.Prelude.{Ok}
use Rattle.hex.specs.Hex.{decode_of}
use Rattle.ix_cbor.specs.Spelling.{Spells}
use Rattle.ix_selector_json.specs.Printed.{HasBadText, HasOtherKind, IsUnprinted}
use Rattle.ix_selector_json.proofs.Refusals.{unprinted}
use Rattle.ix_selector_json.proofs.command.json_of_hex.Goals as goal

pub returns-in_err-text_of-clause-refused : goal.returns-in_err-text_of-clause-refused
returns-in_err-text_of-clause-refused c =
    let p = err_from_is_err_and c.from_residual-in_err-text_of.result c.from_residual-in_err-text_of.ensures.1 in
    let block = c.in-Ok.bytes.items in
    let spelled = subst (λ b. Spells b c.in-Ok-decode.tree) c.as_slice.ensures.value c.in-Ok-decode.ensures.found in
    let decoded = subst (λ t. decode_of t ≡ Ok c.in-Ok.bytes.items) c.as_bytes.ensures.value c.in-Ok.ensures.ok in
    rw (p.1, p.2)
    (unprinted c.args.text.now c.in-Ok-decode.tree _ (record { block = block; decoded = decoded; spelled = spelled }) c.in_ok-check_selector.ensures.selector
    (subst (λ d. IsUnprinted (HasBadText d) (HasOtherKind d) c.in_err-text_of.field-0.0) c.root.ensures.root c.in_err-text_of.ensures.refused))
