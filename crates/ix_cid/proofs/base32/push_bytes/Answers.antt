use Rattle.std.proofs.Common.{◌≢◌, ◌%◌, length, arith}
use Rattle.ix_cid.specs.CidText.{IsBase32}
use Rattle.ix_cid.proofs.Base32Laws.{some_left, from_tests, refused-behind, quantum-pushed}
use Rattle.ix_cid.proofs.base32.push_bytes.Goals as goal
use Rattle.ix_cid.proofs.base32.push_bytes.Goals.{In_ok-push_front, in-1, in_default-matches, then-matches-via-then-matches, then-matches-via-else-matches+then-number-left_over-ne0}

pub returns-in_default : goal.returns-in_default
returns-in_default c = refused-behind c.args.bytes.now.items c.args.letters.now (λ is. c.in_default.ensures is.alphabet)

pub returns-then-matches : goal.returns-then-matches
returns-then-matches c =
    let letters = c.args.letters.now in
    let isnt : ¬ IsBase32 letters =
    elim c.then-matches.branch [
      | then-matches-via-then-matches w ↦ λ is.
          let count = is.count in
          elim c.match-matches.branch [ in-1 v ↦ omega arith | in_default-matches v ↦ absurd cc ]
      | then-matches-via-else-matches+then-number-left_over-ne0 w ↦ some_left letters c.in-Some.number c.in-Some.ensures.1 w.if-number-left_over-ne0.true
    ] in
    refused-behind c.args.bytes.now.items letters isnt

-- the letters are as many as whole bytes need
counted : (c : In_ok-push_front) → (length c.args.letters.now % 8 ≢ 1) × (length c.args.letters.now % 8 ≢ 3) × (length c.args.letters.now % 8 ≢ 6)
counted c =
    elim c.match-matches.branch [
      | in-1 w ↦ absurd cc
      | in_default-matches w ↦
          let one : length c.args.letters.now ≢ 1 = λ e. grind arith in
          let three : length c.args.letters.now ≢ 3 = λ e. grind arith in
          let six : length c.args.letters.now ≢ 6 = λ e. grind arith in
          (λ e. omega arith, λ e. omega arith, λ e. omega arith)
    ]

pub returns : goal.returns
returns c =
    let letters = c.args.letters.now in
    let number = c.in-Some.number in
    let spelled = c.in-Some.ensures in
    let is = from_tests letters number spelled.0 spelled.1 (counted (goal.at.returns c).In_ok-push_front) c.if-number-left_over-ne0.false in
    quantum-pushed c.args.bytes.now.items c.push_front.new.bytes.items letters number c.requires is spelled.1 c.in_ok-push_front.ensures
