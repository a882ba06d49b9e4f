use Rattle.std.proofs.Common.{◌<◌, ◌*◌, ◌-◌, ◌/◌, ◌%◌, ◌^◌, ◌++◌, [], ◌∷◌, ℕ, List, length, map, take, string_bytes, sym, ap, ◌∙◌, subst, arith}
use Rattle.std.proofs.lemmas.List.{append_assoc}
use Rattle.std.proofs.lemmas.List.Elements.{All-from_get_or}
use Rattle.ix_cid.specs.Bytes.{AreBytes}
use Rattle.ix_cid.specs.CidText.{letter, digits_in}
use Rattle.ix_cid.proofs.Quanta.{letter-ascii, letters-more, quantum-pushed}
use Rattle.ix_cid.proofs.base32.push_quantum.Goals as goal

pub loop-place-preserved : goal.loop-place-preserved
loop-place-preserved c =
    let old = string_bytes c.args.text.now in
    let bits = c.number_of_bytes.result * 2 ^ (8 * (5 - length c.args.bytes.now)) % 2 ^ 64 in
    let i = c.loop-place.place in
    let letters = map letter (digits_in 32 8 bits) in
    let small : c.letter_of.result < 128 = subst (λ x. x < 128) (sym c.letter_of.ensures) (letter-ascii (bits / 2 ^ (35 - 5 * i))) in
    c.in_ok-push.ensures.bytes
    ∙ ap (λ (x : List ℕ). string_bytes c.loop-place.text ++ x) (c.push.ensures.ascii small)
    ∙ ap (λ (x : List ℕ). x ++ c.letter_of.result ∷ []) c.loop-place.invariant
    ∙ append_assoc old (take i letters) (c.letter_of.result ∷ [])
    ∙ ap (λ (x : ℕ). old ++ (take i letters ++ x ∷ [])) c.letter_of.ensures
    ∙ ap (λ (x : List ℕ). old ++ x) (sym (letters-more bits i (omega arith)))

pub returns : goal.returns
returns c =
    let bytes = c.args.bytes.now in
    let are : AreBytes bytes = All-from_get_or (λ x. x < 2 ^ 8) bytes 0 (λ i h. omega (arith, c.type_inv.bytes i)) in
    quantum-pushed
    (string_bytes c.args.text.now)
    (string_bytes c.loop-place.text)
    bytes
    c.number_of_bytes.result
    c.loop-place.place
    c.requires
    are
    c.number_of_bytes.ensures
    (omega arith)
    c.loop-place.invariant
