use Rattle.std.proofs.Common.{◌≡◌, ◌<◌, ◌^◌, [], length, rules, sym, subst, arith}
use Rattle.std.specs.List.{AllByRecursion}
use Rattle.std.proofs.lemmas.Bool.{eqb-false}
use Rattle.std.proofs.lemmas.List.{nil_from_length}
use Rattle.ix_cid.specs.Cid.{IsCid}
use Rattle.ix_own_archive.proofs.Receiving.{is-own}
use Rattle.ix_own_archive.proofs.Rightly.{none-so-far, one-more-so-far, section-not, end-not}
use Rattle.ix_own_archive.proofs.check.check_sections.Goals as goal

pub loop-rest-init : goal.loop-rest-init
loop-rest-init c = none-so-far [] c.args.job.now c.args.allowed c.args.archive.now c.args.sections.now c.new-receiver.result c.requires c.new-receiver.ensures

pub loop-rest-preserved : goal.loop-rest-preserved
loop-rest-preserved c =
    one-more-so-far [] c.args.job.now c.args.allowed c.args.archive.now c.loop-rest.rest.now c.in-Ok.after.now c.loop-rest.receiver c.receive_section.new.receiver c.loop-rest.invariant c.in-Ok.ensures.received

pub returns-in-Ok-finish-clause-own : goal.returns-in-Ok-finish-clause-own
returns-in-Ok-finish-clause-own c =
    let none : c.loop-rest.rest.now ≡ [] = nil_from_length c.loop-rest.rest.now (search rules) in
    is-own [] c.args.job.now c.args.allowed c.args.archive.now c.loop-rest.rest.now c.loop-rest.receiver c.in-Ok-finish.counts c.loop-rest.invariant.up none c.in-Ok-finish.ensures.whole

pub returns-in-Err-clause-rightly : goal.returns-in-Err-clause-rightly
returns-in-Err-clause-rightly c =
    let roots = subst (AllByRecursion IsCid) c.roots.ensures c.roots_are_cids.ensures in
    let small : length c.args.archive.now < 2 ^ 63 = search rules in
    let other : length c.loop-rest.rest.now ≡ 0 → ⊥ = eqb-false (length c.loop-rest.rest.now) 0 (sym c.loop-rest-test.ensures) in
    let some : 0 < length c.loop-rest.rest.now = omega arith in
    section-not [] c.args.job.now c.args.allowed c.args.archive.now (c.received_one_by_one.ensures.each []) roots small c.loop-rest.rest.now c.loop-rest.receiver c.in-Err.reason c.loop-rest.invariant some c.in-Err.ensures.refused

pub returns-in-Err-finish-clause-rightly : goal.returns-in-Err-finish-clause-rightly
returns-in-Err-finish-clause-rightly c =
    let roots = subst (AllByRecursion IsCid) c.roots.ensures c.roots_are_cids.ensures in
    let small : length c.args.archive.now < 2 ^ 63 = search rules in
    let none : c.loop-rest.rest.now ≡ [] = nil_from_length c.loop-rest.rest.now (search rules) in
    end-not [] c.args.job.now c.args.allowed c.args.archive.now (c.received_one_by_one.ensures.each []) roots small c.loop-rest.rest.now c.loop-rest.receiver c.in-Err-finish.fault c.loop-rest.invariant none c.in-Err-finish.ensures.refused
