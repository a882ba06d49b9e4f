use Rattle.std.proofs.Common.{◌≡◌, [], ◌∷◌, ◌++◌, sym, ◌∙◌, ap, append-nil, get_or, refl, true, arith}
use Rattle.std.specs.Prelude.{string_bytes}
use Rattle.std.specs.Char.{encode_utf8}
use Rattle.std.proofs.lemmas.Str.{encode_ascii}
use Rattle.std.proofs.lemmas.Fmt.{hex_byte}
use Rattle.ix_dag_json.specs.Reasons.{encoded_byte}
use Rattle.ix_dag_json.proofs.Reasoning.{one_more, all_there, plain_byte, plain_ascii, other_byte, hex_appended}
use Rattle.ix_dag_json.proofs.fault.push_escaped.Goals as goal
use Rattle.ix_dag_json.proofs.fault.push_escaped.Goals.{then-is_plain+in_ok-push, else-is_plain+in_ok-write}

pub loop-byte-init : goal.loop-byte-init
loop-byte-init c = sym (append-nil (string_bytes c.args.text.now))

pub loop-byte-preserved : goal.loop-byte-preserved
loop-byte-preserved c =
    let byte = get_or c.args.key.now c.loop-byte.byte-index 0 in
    let added : string_bytes c.if-is_plain.text ≡ string_bytes c.loop-byte.text ++ encoded_byte byte =
    elim c.if-is_plain.branch [
      | then-is_plain+in_ok-push w ↦
          let plain = sym c.is_plain.ensures ∙ w.if-is_plain.true in
          ap string_bytes w.text-is ∙ w.in_ok-push.ensures.bytes
          ∙ ap (λ t. string_bytes c.loop-byte.text ++ t) (ap encode_utf8 w.from.ensures ∙ encode_ascii byte (plain_ascii byte plain) ∙ sym (plain_byte byte plain))
      | else-is_plain+in_ok-write w ↦
          ap string_bytes w.text-is
          ∙ hex_appended _ _ (37 ∷ []) _ _ 2 w.in_radix.ensures (rw w.laid_out.ensures at w.in_ok-write.ensures.bytes)
          ∙ ap (λ t. string_bytes c.loop-byte.text ++ t) (ap (λ t. 37 ∷ t) (hex_byte true byte (omega (arith, c.type_inv.key c.loop-byte.byte-index))) ∙ sym (other_byte byte (sym c.is_plain.ensures ∙ w.if-is_plain.false)))
    ] in
    one_more encoded_byte _ _ _ c.args.key.now c.loop-byte.byte-index byte 0 c.loop-byte-test.true refl c.loop-byte.invariant added

pub returns : goal.returns
returns c = all_there encoded_byte _ _ c.args.key.now c.loop-byte.byte-index c.loop-byte-test.false c.loop-byte.invariant
