use Rattle.std.proofs.Common.{◌≡◌, ◌∙◌, ◌++◌, List, map, ap, rules}
use Rattle.ix_verdict.specs.declared.verdict.Verdict.{Verdict}
use Rattle.ix_store.specs.Sound.{verdict_of_copy, share_of}
use Rattle.ix_store.proofs.Judging.{join-more, judged-here}
use Rattle.ix_store.proofs.judge.join_shares.Goals as goal

pub loop-judged-preserved : goal.loop-judged-preserved
loop-judged-preserved c =
    let pairs = c.args.entries.now in
    let n = c.loop-judged.judged-index in
    let before = c.loop-judged.verdicts.items in
    let here : c.in-Ok.judged.items ≡ map verdict_of_copy (share_of c.args.share n pairs) =
    judged-here pairs c.args.share c.args.shares.now n c.judged-item.result c.in-Ok.judged c.requires.judged c.loop-judged-test.true c.judged-item.is (search rules) in
    c.in_ok-extend_from_slice-in-Ok.ensures.items
    ∙ ap (λ (l : List Verdict). before ++ l) c.as_slice.ensures.value
    ∙ join-more pairs c.args.share n before c.in-Ok.judged.items c.loop-judged.invariant here
