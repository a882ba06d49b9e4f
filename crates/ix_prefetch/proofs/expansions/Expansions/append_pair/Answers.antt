use Rattle.std.proofs.Common.{◌≡◌, ◌∙◌, [], List, length, slice_range, sym, subst, arith}
use Rattle.std.proofs.lemmas.Result.{err_from_is_err_and}
use Rattle.ix_selector.specs.Residual.{Place}
use Rattle.ix_walk.specs.JobMeaning.{JobMeaning}
use Rattle.ix_prefetch.specs.Expansions.{IsMet, HasNumber}
use Rattle.ix_prefetch.proofs.Adding.{adds_then, table_still, shown_length, pair_appended, some_of_pair, some_after}
use Rattle.ix_prefetch.proofs.expansions.Expansions.append_pair.Goals as goal

pub number_of-requires : goal.number_of-requires
number_of-requires c = subst (λ (j : JobMeaning). IsMet j.selector c.residual.result.now) (sym c.requires.table.job) c.residual.ensures.met

pub append_list-requires : goal.append_list-requires
append_list-requires c = record { table = table_still c.args.part.now c.args.self.now c.number_of.new.self [] c.requires.table c.in_ok-residual.ensures.adds; pair = c.requires.pair }

pub returns-in_err-residual : goal.returns-in_err-residual
returns-in_err-residual c =
    let p = err_from_is_err_and c.from_residual.result c.from_residual.ensures.1 in
    some_of_pair c.args.self.now c.number_of.new.self c.from_residual.result p.0 p.1 ([], c.in_err-residual.ensures.adds)

pub returns-in_err-append_list : goal.returns-in_err-append_list
returns-in_err-append_list c =
    let r = c.from_residual-in_err-append_list.result in
    let p = err_from_is_err_and r c.from_residual-in_err-append_list.ensures.1 in
    some_of_pair c.args.self.now c.append_list.new.self r p.0 p.1 (some_after c.args.self.now c.number_of.new.self c.append_list.new.self [] c.in_ok-residual.ensures.adds c.in_err-append_list.ensures.err)

pub returns-in_default : goal.returns-in_default
returns-in_default c =
    let links = slice_range c.args.part.now.links c.args.pair.from c.args.pair.to in
    record { some = (links, adds_then c.args.self.now c.number_of.new.self c.append_list.new.self [] links c.in_ok-residual.ensures.adds c.in_ok-append_list.ensures.added); pair = tt }

pub returns : goal.returns
returns c =
    let part = c.args.part.now in
    let mid = c.number_of.new.self in
    let new = c.append_list.new.self in
    let s = c.self.inside in
    let u = c.self-2.inside in
    let number = c.in_ok-residual.residual in
    let links = slice_range part.links c.args.pair.from c.args.pair.to in
    let one = c.in_ok-residual.ensures.adds in
    let added = c.in_ok-append_list.ensures.added in
    let numbered = subst (λ (r : List Place). HasNumber mid r number) c.residual.ensures.value c.in_ok-residual.ensures.number in
    let before : c.len-from.result ≡ length mid.links = shown_length s.store.now s.job.now s.residuals.items s.cids.items s.links.items mid c.len-from.result c.self.view_is (omega (arith, c.len-from.ensures, s.links.ok.0)) in
    let after : c.len.result ≡ length new.links = shown_length u.store.now u.job.now u.residuals.items u.cids.items u.links.items new c.len.result c.self-2.view_is (omega (arith, c.len.ensures, u.links.ok.0)) in
    let first : c.in-Some.from ≡ length mid.links = let e = c.in-Some.from-is in let f = c.in-Some.ensures.0 in omega (arith, e, f, before) in
    let last : c.in-Some.to ≡ length new.links = let e = c.in-Some.to-is in let f = c.in-Some.ensures.1 in omega (arith, e, f, after) in
    record {
      some = (links, adds_then c.args.self.now mid new [] links one added);
      pair = pair_appended part mid new number c.in-Some.from c.in-Some.to c.args.pair (one.store ∙ c.requires.table.store) c.requires.pair numbered first last added;
    }
