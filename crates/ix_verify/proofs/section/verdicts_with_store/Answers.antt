use Rattle.std.proofs.Common.{◌≡◌, length, map, sym, ◌∙◌, arith}
use Rattle.std.proofs.lemmas.List.{ext_get_or, length-map}
use Rattle.std.proofs.lemmas.Option.{get_or_from_slice_get}
use Rattle.ix_verdict.specs.declared.verdict.Verdict.TheVariants.{Sound}
use Rattle.ix_verify.specs.Judged.{verdict_in}
use Rattle.ix_verify.proofs.section.verdicts_with_store.Goals as goal

pub returns : goal.returns
returns g c =
    let verdicts = map verdict_in c.args.sections.now in
    let found = c.in_ok-verdicts.verdicts.items in
    let long : length found ≡ length c.args.sections.now = c.in_ok-verdicts.ensures.len in
    ext_get_or Sound found verdicts (long ∙ sym (length-map c.args.sections.now verdict_in)) (λ i h. sym (get_or_from_slice_get verdicts i _ Sound (c.in_ok-verdicts.ensures.each i Sound (omega (arith, h, long)))))
