use Rattle.std.proofs.Common.{◌≡◌, List, ℕ, drop, sym, ap, ◌∙◌, arith}
use Rattle.std.proofs.lemmas.Result.{err_from_is_err_and}
use Rattle.ix_cid.specs.CidText.{bytes_of_base32}
use Rattle.ix_cid.proofs.Base32Laws.{together, step, piece-read, piece-fails}
use Rattle.ix_cid.proofs.base32.decode.Goals as goal
use Rattle.ix_cid.proofs.base32.decode.Goals.{After-split_at}

-- the letters that are left are one quantum and the others
parts : (c : After-split_at) → bytes_of_base32 c.loop-rest.rest.now ≡ together (bytes_of_base32 c.split_at.result.0.now) (bytes_of_base32 c.split_at.result.1.now)
parts c =
    let rest = c.loop-rest.rest.now in
    step c.min.result rest (omega (arith, c.min.ensures))
    ∙ ap (λ (x : List ℕ). together (bytes_of_base32 x) (bytes_of_base32 (drop c.min.result rest))) (sym c.split_at.ensures.front)
    ∙ ap (λ (x : List ℕ). together (bytes_of_base32 c.split_at.result.0.now) (bytes_of_base32 x)) (sym c.split_at.ensures.back)

pub returns-in_err-push_bytes : goal.returns-in_err-push_bytes
returns-in_err-push_bytes c =
    let failed = err_from_is_err_and c.from_residual.result c.from_residual.ensures.1 in
    let fails =
    piece-fails
    (bytes_of_base32 c.args.letters.now)
    (bytes_of_base32 c.loop-rest.rest.now)
    (bytes_of_base32 c.split_at.result.0.now)
    (bytes_of_base32 c.split_at.result.1.now)
    c.loop-rest.bytes.items
    c.in_err-push_bytes.field-0.0
    c.loop-rest.invariant
    (parts (goal.at.returns-in_err-push_bytes c).After-split_at)
    c.in_err-push_bytes.ensures in
    rw (failed.1, failed.2) fails

pub loop-rest-preserved : goal.loop-rest-preserved
loop-rest-preserved c =
    piece-read
    (bytes_of_base32 c.args.letters.now)
    (bytes_of_base32 c.loop-rest.rest.now)
    (bytes_of_base32 c.split_at.result.0.now)
    (bytes_of_base32 c.split_at.result.1.now)
    c.loop-rest.bytes.items
    c.push_bytes.new.bytes.items
    c.loop-rest.invariant
    (parts (goal.at.loop-rest-preserved c).After-split_at)
    c.in_ok-push_bytes.ensures
