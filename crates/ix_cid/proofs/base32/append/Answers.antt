use Rattle.std.proofs.Common.{◌≡◌, ◌++◌, ℕ, List, drop, string_bytes, sym, ap, ◌∙◌, arith}
use Rattle.ix_cid.specs.CidText.{quantum, base32_of}
use Rattle.ix_cid.proofs.Quanta.{base32_of-step, piece-pushed}
use Rattle.ix_cid.proofs.base32.append.Goals as goal

pub loop-rest-preserved : goal.loop-rest-preserved
loop-rest-preserved c =
    let rest = c.loop-rest.rest.now in
    let front = c.split_at.result.0.now in
    let behind = c.split_at.result.1.now in
    let split : base32_of rest ≡ quantum front ++ base32_of behind =
    base32_of-step c.min.result rest (omega (arith, c.min.ensures))
    ∙ ap (λ (x : List ℕ). quantum x ++ base32_of (drop c.min.result rest)) (sym c.split_at.ensures.front)
    ∙ ap (λ (x : List ℕ). quantum front ++ base32_of x) (sym c.split_at.ensures.back) in
    piece-pushed
    (string_bytes c.loop-rest.text)
    (string_bytes c.push_quantum.new.text)
    (quantum front)
    (base32_of rest)
    (base32_of behind)
    (string_bytes c.args.text.now ++ base32_of c.args.bytes.now)
    split
    c.in_ok-push_quantum.ensures
    c.loop-rest.invariant
