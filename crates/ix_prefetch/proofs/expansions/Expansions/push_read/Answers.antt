use Rattle.std.proofs.Common.{◌≡◌, length, arith}
use Rattle.ix_prefetch.specs.Expansions.{residual_in}
use Rattle.ix_prefetch.proofs.Adding.{shown_length, pair_read, block_adds, has_number}
use Rattle.ix_prefetch.proofs.expansions.Expansions.push_read.Goals as goal

pub returns-in_default : goal.returns-in_default
returns-in_default c =
    let old = c.args.self.now in
    record { some = block_adds old c.push_bytes.new.self c.args.read.cid (residual_in old c.args.task.residual) c.in_ok-barren.barren c.in_ok-barren.ensures.block; pair = tt }

pub returns : goal.returns
returns c =
    let old = c.args.self.now in
    let new = c.push_bytes.new.self in
    let s = c.self.inside in
    let u = c.self-2.inside in
    let number = c.args.task.residual in
    let before : c.len-from.result ≡ length old.links = shown_length s.store.now s.job.now s.residuals.items s.cids.items s.links.items old c.len-from.result c.self.view_is (omega (arith, c.len-from.ensures, s.links.ok.0)) in
    let after : c.len.result ≡ length new.links = shown_length u.store.now u.job.now u.residuals.items u.cids.items u.links.items new c.len.result c.self-2.view_is (omega (arith, c.len.ensures, u.links.ok.0)) in
    let first : c.in-Some.from ≡ length old.links = let e = c.in-Some.from-is in let f = c.in-Some.ensures.0 in omega (arith, e, f, before) in
    let last : c.in-Some.to ≡ length new.links = let e = c.in-Some.to-is in let f = c.in-Some.ensures.1 in omega (arith, e, f, after) in
    record {
      some = block_adds old new c.args.read.cid (residual_in old number) c.in_ok-barren.barren c.in_ok-barren.ensures.block;
      pair = pair_read old new c.args.task.place number c.in-Some.from c.in-Some.to (residual_in old number) c.args.read c.in_ok-barren.barren c.requires.read (has_number old number c.requires.residual) first last c.in_ok-barren.ensures.block;
    }
