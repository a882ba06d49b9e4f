use Rattle.std.proofs.Common.{List, ℕ, Bool, not, ◌&&◌, sym, ap, ◌∙◌}
use Rattle.std.specs.Prelude.{bytes_eq}
use Rattle.std.specs.List.{list_any}
use Rattle.ix_verdict.specs.AllowMissing.{allows}
use Rattle.ix_receive.proofs.passing.may_lack.Goals as goal

pub returns-then-allows : goal.returns-then-allows
returns-then-allows c =
    let cid = c.args.cid.now in
    let roots = c.args.asked.now.job.now.roots in
    ap not (c.contains.ensures.value ∙ ap (λ (rs : List (List ℕ)). list_any (λ root. bytes_eq root cid) rs) c.roots.ensures)
    ∙ ap (λ (b : Bool). b && not (list_any (λ root. bytes_eq root cid) roots)) (sym c.if-allows.true ∙ c.allows.ensures ∙ ap (λ (n : ℕ). allows c.args.asked.now.allowed n) c.codec.ensures)
