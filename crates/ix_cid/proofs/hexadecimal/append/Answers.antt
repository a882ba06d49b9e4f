use Rattle.std.proofs.Common.{◌≡◌, ◌<◌, ◌^◌, ◌∙◌, string_bytes, arith}
use Rattle.std.proofs.lemmas.List.Elements.{All-from_get_or}
use Rattle.ix_cid.specs.Bytes.{AreBytes}
use Rattle.ix_cid.specs.CidText.{hex_of}
use Rattle.ix_cid.proofs.HexText.{encode_lower-bytes, digits-pushed}
use Rattle.ix_cid.proofs.hexadecimal.append.Goals as goal

pub returns : goal.returns
returns c =
    let bytes = c.args.bytes.now in
    let are : AreBytes bytes = All-from_get_or (λ x. x < 2 ^ 8) bytes 0 (λ i h. omega (arith, c.type_inv.bytes i)) in
    let digits : c.deref.result.now ≡ hex_of bytes = c.deref.ensures ∙ c.in_ok-digits.ensures ∙ encode_lower-bytes bytes are in
    digits-pushed c.push_str.result (string_bytes c.push_str.new.self) (string_bytes c.args.text.now) c.deref.result.now (hex_of bytes) c.push_str.ensures.bytes digits
