use Rattle.std.proofs.Common.{◌≡◌, ◌∙◌, arith}
use Rattle.std.specs.Prelude.{bytes_eq, codes}
use Rattle.ix_path.proofs.SelectorNodes.{not_one, one_entry}
use Rattle.ix_path.proofs.end.are_envelope.Goals as goal

pub returns-in_default-2 : goal.returns-in_default-2
returns-in_default-2 c = not_one c.args.entries.now (λ e. omega arith)

pub returns : goal.returns
returns c =
    let test : c.eq.result ≡ bytes_eq c.as_slice.result.now (codes "selector") = cc in
    test ∙ one_entry c.args.entries.now c.index-entries-0.result c.as_slice.result.now (omega arith) c.as_slice.ensures.value
