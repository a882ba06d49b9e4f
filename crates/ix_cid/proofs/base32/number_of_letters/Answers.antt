use Rattle.std.proofs.Common.{◌≡◌, ◌≤◌, ◌<◌, ◌+◌, ◌*◌, ℕ, length, get_or, drop, take, map, sym, ap, ◌∙◌, subst, arith}
use Rattle.std.proofs.lemmas.List.{length-map, get_or-map, take_all, drop_all}
use Rattle.std.proofs.lemmas.List.Elements.{All-more, All-same}
use Rattle.std.proofs.lemmas.Grind.{pow_more}
use Rattle.ix_cid.specs.CidText.{number_in, bits_of_letter, IsLetter}
use Rattle.ix_cid.proofs.Digits.{number_in-turn, pow-least}
use Rattle.ix_cid.proofs.Base32Laws.{bits-below}
use Rattle.ix_cid.proofs.base32.number_of_letters.Goals as goal
use Rattle.ix_cid.proofs.base32.number_of_letters.Goals.{In_ok-number}

bits-fit : (c : In_ok-number) → c.in_ok-number.field-0 < 32
bits-fit c =
    let is = c.in_ok-number.ensures in
    subst (λ x. x < 32) (sym is.1) (bits-below (get_or c.args.letters.now c.loop-letter.letter-index 0) is.0)

pub overflow_add-number : goal.overflow_add-number
overflow_add-number c = omega (arith, bits-fit c, pow-least 32 c.loop-letter.letter-index 7 (omega arith) (omega arith))

pub loop-letter-preserved : goal.loop-letter-preserved
loop-letter-preserved c =
    let letters = c.args.letters.now in
    let i = c.loop-letter.letter-index in
    let kept = c.loop-letter.invariant in
    let is = c.in_ok-number.ensures in
    let bits : get_or (map bits_of_letter letters) i 0 ≡ c.in_ok-number.field-0 = get_or-map bits_of_letter letters i 0 0 c.loop-letter-test.true ∙ sym is.1 in
    let turn = number_in-turn 32 c.loop-letter.number (map bits_of_letter letters) i (omega (arith, length-map letters bits_of_letter)) in
    record {
      so_far = ap (λ (x : ℕ). number_in 32 (c.loop-letter.number * 32 + x) (drop (i + 1) (map bits_of_letter letters))) (sym bits) ∙ sym turn ∙ kept.so_far;
      below = omega (arith, bits-fit c, pow_more 32 i);
      alphabet = All-more IsLetter letters i 0 c.loop-letter-test.true kept.alphabet is.0;
    }

pub returns : goal.returns
returns c =
    let letters = c.args.letters.now in
    let i = c.loop-letter.letter-index in
    let kept = c.loop-letter.invariant in
    let all : length letters ≤ i = omega arith in
    let none = drop_all i (map bits_of_letter letters) (omega (arith, length-map letters bits_of_letter)) in (
      All-same IsLetter letters (take i letters) (sym (take_all i letters all)) kept.alphabet,
      sym (ap (number_in 32 c.loop-letter.number) none) ∙ kept.so_far,
    )
