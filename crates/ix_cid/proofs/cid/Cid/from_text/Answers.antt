use Rattle.std.proofs.Common.{◌≡◌, ◌∷◌, ℕ, Ok, Err, sym, ap, subst, ◌∙◌, arith}
use Rattle.std.proofs.lemmas.Result.{err_from_is_err_and}
use Rattle.ix_cid.specs.Cid.{IsCid, numbered_length_at}
use Rattle.ix_cid.specs.CidText.{cid_of_text}
use Rattle.ix_cid.specs.Held.{content}
use Rattle.ix_cid.proofs.Texts.{text-fails, text-rest, text-whole}
use Rattle.ix_cid.proofs.cid.Cid.from_text.Goals as goal
use Rattle.ix_cid.proofs.cid.Cid.from_text.Goals.{In-Some-eq98-default, In_ok-held}

-- the text begins with its multibase
text_begins : (c : In-Some-eq98-default) → c.args.text.now ≡ 98 ∷ c.in-Some-eq98-default.letters.now
text_begins c =
    let arm = c.in-Some-eq98-default in
    sym c.as_bytes.ensures.value ∙ c.in-Some-eq98-default.ensures.cases.0 ∙ ap (λ (x : ℕ). x ∷ arm.letters.now) arm.field-0-0-test

pub returns-in_err-numbered_length : goal.returns-in_err-numbered_length
returns-in_err-numbered_length c =
    let bytes = c.in_ok-bytes.bytes.items in
    let fault = c.in_err-numbered_length.field-0.0 in
    let failed = err_from_is_err_and c.from_residual-in_err-numbered_length.result c.from_residual-in_err-numbered_length.ensures.1 in
    let fails : numbered_length_at bytes ≡ Err fault = ap numbered_length_at (sym c.as_slice.ensures.value) ∙ c.in_err-numbered_length.ensures.exact in
    record {
      exact = rw (failed.1, failed.2) (text-fails c.args.text.now c.in-Some-eq98-default.letters.now bytes (text_begins (goal.at.returns-in_err-numbered_length c).In-Some-eq98-default) c.in_ok-bytes.ensures fault fails);
    }

pub returns-then-branch-len : goal.returns-then-branch-len
returns-then-branch-len c =
    let bytes = c.in_ok-bytes.bytes.items in
    let n = c.in_ok-numbered_length.field-0 in
    let size : numbered_length_at bytes ≡ Ok n = ap numbered_length_at (sym c.as_slice.ensures.value) ∙ c.in_ok-numbered_length.ensures.exact in
    record {
      exact = text-rest c.args.text.now c.in-Some-eq98-default.letters.now bytes (text_begins (goal.at.returns-then-branch-len c).In-Some-eq98-default) c.in_ok-bytes.ensures n size (omega (arith, c.in_ok-bytes.bytes.ok));
    }

-- where the parts are as long as the bytes, these are the CID
whole : (c : In_ok-held) → IsCid (content c.in_ok-held.held) × (cid_of_text c.args.text.now ≡ Ok (content c.in_ok-held.held))
whole c =
    let bytes = c.in_ok-bytes.bytes.items in
    let n = c.in_ok-numbered_length.field-0 in
    let size : numbered_length_at bytes ≡ Ok n = ap numbered_length_at (sym c.as_slice.ensures.value) ∙ c.in_ok-numbered_length.ensures.exact in
    let found = text-whole c.args.text.now c.in-Some-eq98-default.letters.now bytes (text_begins (goal.at.invariant_of-result c).In-Some-eq98-default) c.in_ok-bytes.ensures n size (omega (arith, c.in_ok-bytes.bytes.ok)) in
    subst (λ b. IsCid b × (cid_of_text c.args.text.now ≡ Ok b)) (sym c.in_ok-held.ensures) found

pub invariant_of-result : goal.invariant_of-result
invariant_of-result c = (whole c).0

pub returns : goal.returns
returns c = record { exact = (whole (goal.at.returns c).In_ok-held).1 }
