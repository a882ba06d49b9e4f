use Rattle.std.proofs.Common.{◌≡◌, ◌-◌, ◌∙◌, [], length, drop, sym, subst, ap}
use Rattle.std.specs.Prelude.{Result, Ok}
use Rattle.std.specs.Arc.{arc_value}
use Rattle.std.proofs.lemmas.Result.{err_from_is_err_and}
use Rattle.ix_store.specs.Store.{Blocks}
use Rattle.ix_sections.specs.Gives.{FailsAs}
use Rattle.ix_sections.specs.Reading.{Fault, blocks_after}
use Rattle.ix_sections.specs.Sections.{section_list, with_first_of_each}
use Rattle.ix_sections.proofs.SectionLists.{blocks-after_sections}
use Rattle.ix_verify.proofs.DistinctCids.{distinct-of, fails-alike}
use Rattle.ix_verify.proofs.repeats.distinct_in.Goals as goal

pub returns-in_err-loader-clause-refused : goal.returns-in_err-loader-clause-refused
returns-in_err-loader-clause-refused g c =
    let b = drop c.args.start (arc_value c.args.file.now).items in
    let p = err_from_is_err_and c.from_residual.result c.from_residual.ensures.1 in
    let e = c.in_err-loader.field-0.0 in
    let fails = c.in_err-loader.ensures in
    let same : blocks_after c.new.result b ≡ with_first_of_each [] (section_list b) = ap (λ (store : Blocks). blocks_after store b) c.new.ensures ∙ blocks-after_sections [] b in
    rw (p.1, p.2) (fails.0, fails-alike e.kind (length b - e.place) (section_list b) (subst (λ (m : Result Blocks Fault). FailsAs e.kind (length b - e.place) m) same fails.1))

pub returns-in-Ok-clause-distinct : goal.returns-in-Ok-clause-distinct
returns-in-Ok-clause-distinct g c =
    let b = drop c.args.start (arc_value c.args.file.now).items in
    let same : blocks_after c.new.result b ≡ with_first_of_each [] (section_list b) = ap (λ (store : Blocks). blocks_after store b) c.new.ensures ∙ blocks-after_sections [] b in
    let read : with_first_of_each [] (section_list b) ≡ Ok c.in-Ok.store = sym same ∙ c.in_ok-loader.ensures ∙ ap (λ (store : Blocks). Ok store) (sym c.in-Ok.ensures) in
    rw c.len.ensures (distinct-of (section_list b) c.in-Ok.store read)
