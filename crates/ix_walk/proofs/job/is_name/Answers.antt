use Rattle.std.proofs.Common.{◌≡◌, sym, ◌∙◌, rules, tests}
use Rattle.std.specs.List.{list_all}
use Rattle.std.proofs.lemmas.Iterator.{YieldsList-from_slice}
use Rattle.std.proofs.lemmas.Iterator.Search.{all_from_yields_List}
use Rattle.ix_walk.specs.JobMeaning.{is_name_byte}
use Rattle.ix_walk.proofs.Names.{is_name-from}
use Rattle.ix_walk.proofs.job.is_name.Goals as goal

pub returns : goal.returns
returns c =
    let each : c.all.result ≡ list_all is_name_byte c.args.name.now = all_from_yields_List is_name_byte _ _ _ c.all.ensures.ran (YieldsList-from_slice c.args.name.now cc) (λ x b q k. search (rules, tests)) in
    is_name-from c.args.name.now c.as_bytes-bytes.result.now c.all.result c.as_bytes-bytes.ensures.value (sym c.is_empty.ensures ∙ c.if-is_empty.false) c.if-bytes-gt-LONGEST_NAME.false each
