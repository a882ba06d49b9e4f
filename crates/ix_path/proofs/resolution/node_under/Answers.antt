use Rattle.std.proofs.Common.{◌≡◌, Bool, true, not, sym, ◌∙◌, ap, subst}
use Rattle.std.specs.Prelude.{Option, Ok, nat_eq}
use Rattle.std.specs.Option.{ok_or}
use Rattle.ix_cid.specs.Cid.{Parts}
use Rattle.ix_cbor.specs.Data.{Data}
use Rattle.ix_verdict.specs.Verdict.{passes}
use Rattle.ix_path.specs.declared.obstacle.Obstacle.TheVariants.{Block}
use Rattle.ix_path.specs.Node.{data_in, IsNode}
use Rattle.ix_store.specs.Verdict.{verdict_of}
use Rattle.ix_path.proofs.Causes.{passing-goes}
use Rattle.ix_path.proofs.Verdicts.{node_readable, node_sound}
use Rattle.ix_path.proofs.resolution.node_under.Goals as goal

pub of-requires : goal.of-requires
of-requires c =
    let bytes = c.judged-verdict.result.1.now in
    let passing = sym c.passes.ensures ∙ c.if-passes.true in
    let passed : passes (verdict_of c.args.store.now c.args.cid.now) ≡ true = ap passes (sym c.judged-verdict.ensures.verdict) ∙ passing in
    let codec = ap (λ (p : Parts). not (nat_eq p.codec 113)) c.requires in
    subst (λ (t : Bool). IsNode t bytes) (sym codec) (node_readable c.args.store.now c.args.cid.now bytes passed (c.judged-verdict.ensures.bytes (passing-goes c.judged-verdict.result.0 passing)))

pub returns-then-passes : goal.returns-then-passes
returns-then-passes c =
    let bytes = c.judged-verdict.result.1.now in
    let passing = sym c.passes.ensures ∙ c.if-passes.true in
    let passed : passes (verdict_of c.args.store.now c.args.cid.now) ≡ true = ap passes (sym c.judged-verdict.ensures.verdict) ∙ passing in
    let codec = ap (λ (p : Parts). not (nat_eq p.codec 113)) c.requires in
    ap (λ (d : Data). Ok d) (c.of.ensures ∙ ap (λ (t : Bool). data_in t bytes) codec)
    ∙ sym (ap (λ (o : Option Data). ok_or o (Block (verdict_of c.args.store.now c.args.cid.now))) (node_sound c.args.store.now c.args.cid.now bytes passed (c.judged-verdict.ensures.bytes (passing-goes c.judged-verdict.result.0 passing))))
