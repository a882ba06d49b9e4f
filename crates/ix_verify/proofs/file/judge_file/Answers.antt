use Rattle.std.proofs.Common.{◌≡◌, ◌<◌, ◌^◌, List, map, length, ◌∙◌, sym, ap, subst, arith, rules}
use Rattle.ix_store.proofs.Stores.{holds-at_ok}
use Rattle.ix_sections.specs.declared.reader.sections.Section.{Section}
use Rattle.ix_sections.specs.SectionView.{section_of}
use Rattle.ix_verify.specs.Outcome.{section_finding}
use Rattle.ix_verify.specs.Noting.{NotesMore}
use Rattle.ix_verify.specs.Found.{unsound_of}
use Rattle.ix_verify.proofs.Batches.{judged-none, judged-more, batch-fits, judged-all}
use Rattle.ix_verify.proofs.file.judge_file.Goals as goal

pub loop-rest-init : goal.loop-rest-init
loop-rest-init g c =
    judged-none c.args.car.now c.args.most c.in_ok-roots.sections.now c.new-unsound.result c.in_ok-roots.ensures.rest c.in_ok-roots.ensures.shorter (c.new-unsound.ensures section_finding c.args.most)

pub judge_sections-requires-after_bounds : goal.judge_sections-requires-after_bounds
judge_sections-requires-after_bounds g c κs within =
    let long : length c.args.car.now < 2 ^ 63 = search rules in
    omega (arith, ap length c.as_slice.ensures.value, batch-fits c.args.car.now c.args.most c.loop-rest.rest.now c.in_ok-batch.batch c.in_ok-batch.after c.loop-rest.count c.loop-rest.unsound long c.in_ok-batch.ensures.read c.loop-rest.invariant)

pub loop-rest-preserved : goal.loop-rest-preserved
loop-rest-preserved g c =
    let more : NotesMore section_finding c.args.most (unsound_of (map section_of c.in_ok-batch.batch.items)) c.loop-rest.unsound c.judge_sections.new.unsound =
    subst (λ (ss : List Section). NotesMore section_finding c.args.most (unsound_of (map section_of ss)) c.loop-rest.unsound c.judge_sections.new.unsound) c.as_slice.ensures.value
    (holds-at_ok c.judge_sections.result c.judge_sections.ensures (sym c.is_err.ensures.value ∙ c.if-is_err.false)) in
    let long : c.len-count.result ≡ length c.in_ok-batch.batch.items = omega (arith, c.len-count.ensures) in
    rw long
    (judged-more c.args.car.now c.args.most c.loop-rest.rest.now c.in_ok-batch.batch c.in_ok-batch.after c.loop-rest.count c.loop-rest.unsound c.judge_sections.new.unsound c.in_ok-batch.ensures.read more c.loop-rest.invariant)

pub returns-clause-judged : goal.returns-clause-judged
returns-clause-judged g c =
    let so_far = c.loop-rest.invariant in
    let none : length c.loop-rest.rest.now ≡ 0 = search rules in
    record {
      sections = so_far.done;
      read = judged-all c.args.car.now c.args.most c.loop-rest.rest.now c.loop-rest.count c.loop-rest.unsound none so_far;
      count = so_far.counted;
      unsound = so_far.noted;
      roots = c.in_ok-roots.ensures.roots;
    }
