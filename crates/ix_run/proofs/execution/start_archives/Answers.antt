use Rattle.std.proofs.Common.{◌≡◌, ◌⊎◌, ◌<◌, length, map, sym, ◌∙◌, ap, subst, Bor, inl, inr, arith}
use Rattle.std.proofs.lemmas.List.{length-map, map_push}
use Rattle.std.specs.Slice.Iter.{iter_rest}
use Rattle.std.specs.Vec.Iter.{into_iter_items}
use Rattle.ix_walk.specs.JobMeaning.{JobMeaning}
use Rattle.ix_car.specs.Archive.{known_at}
use Rattle.ix_car.specs.ArchiveMeaning.{borrowed}
use Rattle.ix_run.specs.Run.{EachBegun}
use Rattle.ix_run.proofs.Runs.{EachBegun-more, begun-length}
use Rattle.ix_run.proofs.Turns.{turn, room, all_taken}
use Rattle.ix_run.proofs.execution.start_archives.Goals as goal

pub loop-job-preserved : goal.loop-job-preserved
loop-job-preserved g c =
    let was = c.loop-job.invariant in
    let ys = c.loop-job.yielded in
    let x : Bor JobMeaning × g.row.W.Denot = (c.in-Some.job, c.in-Some.writer) in
    let job_of = λ (p : Bor JobMeaning × g.row.W.Denot). p.0.now in
    let writer_of = λ (p : Bor JobMeaning × g.row.W.Denot). p.1 in
    let steps = c.in-Some.ensures.steps in
    let more = EachBegun-more g.W.Write.contents (known_at c.args.store.now (borrowed c.args.known)) c.args.store.now (map job_of ys) (map writer_of ys) c.loop-job.archives.items c.in-Some.job.now c.in-Some.writer c.in-Ok.archive was.begun c.in-Ok.ensures.begun c.in-Ok.ensures.guarantee in record {
      can_next = (tt, tt);
      finite = tt;
      jobs = turn job_of c.args.jobs.now ys (iter_rest c.loop-job.job-iterator.a) (iter_rest c.next.new.self.a) x was.jobs steps.0;
      writers = turn writer_of c.args.writers.items ys (into_iter_items c.loop-job.job-iterator.b) (into_iter_items c.next.new.self.b) x was.writers steps.1.0;
      sized = let fewer = ap length steps.1.0 in let size = was.sized in omega (arith, steps.1.1);
      begun = rw (map_push job_of ys x, map_push writer_of ys x) (rw c.in_ok-push-in-Ok.ensures.items (rw c.new.ensures more));
    }

-- an archive for each job that was taken, and a job is there that wasn't
pub overflow_cast-result : goal.overflow_cast-result
overflow_cast-result g c =
    let was = c.loop-job.invariant in
    let ys = c.loop-job.yielded in
    let x : Bor JobMeaning × g.row.W.Denot = (c.in-Some.job, c.in-Some.writer) in
    let job_of = λ (p : Bor JobMeaning × g.row.W.Denot). p.0.now in
    let writer_of = λ (p : Bor JobMeaning × g.row.W.Denot). p.1 in
    let many : length c.loop-job.archives.items ≡ length ys = begun-length g.W.Write.contents (known_at c.args.store.now (borrowed c.args.known)) c.args.store.now (map job_of ys) (map writer_of ys) c.loop-job.archives.items was.begun ∙ length-map ys job_of in
    let within : length ys < length c.args.jobs.now = room job_of c.args.jobs.now ys (iter_rest c.loop-job.job-iterator.a) (iter_rest c.next.new.self.a) x was.jobs c.in-Some.ensures.steps.0 in
    omega (arith, c.loop-job.archives.ok.0, c.len.ensures, c.requires.1)

pub returns-in-Err-Write-clause-refused : goal.returns-in-Err-Write-clause-refused
returns-in-Err-Write-clause-refused g c =
    let was = c.loop-job.invariant in
    let ys = c.loop-job.yielded in
    let x : Bor JobMeaning × g.row.W.Denot = (c.in-Some.job, c.in-Some.writer) in
    let job_of = λ (p : Bor JobMeaning × g.row.W.Denot). p.0.now in
    let writer_of = λ (p : Bor JobMeaning × g.row.W.Denot). p.1 in
    let many : length c.loop-job.archives.items ≡ length ys = begun-length g.W.Write.contents (known_at c.args.store.now (borrowed c.args.known)) c.args.store.now (map job_of ys) (map writer_of ys) c.loop-job.archives.items was.begun ∙ length-map ys job_of in
    let within : length ys < length c.args.jobs.now = room job_of c.args.jobs.now ys (iter_rest c.loop-job.job-iterator.a) (iter_rest c.next.new.self.a) x was.jobs c.in-Some.ensures.steps.0 in
    omega (arith, c.loop-job.archives.ok.0, c.len.ensures)

pub returns-clause-begun : goal.returns-clause-begun
returns-clause-begun g c =
    let was = c.loop-job.invariant in
    let ys = c.loop-job.yielded in
    let job_of = λ (p : Bor JobMeaning × g.row.W.Denot). p.0.now in
    let writer_of = λ (p : Bor JobMeaning × g.row.W.Denot). p.1 in
    let left = iter_rest c.loop-job.job-iterator.a in
    let writers_left = into_iter_items c.loop-job.job-iterator.b in
    let over : (length left ≡ 0) ⊎ (length writers_left ≡ 0) = elim c.in-None.ensures.steps as (λ _. (length left ≡ 0) ⊎ (length writers_left ≡ 0)) [ inl h ↦ inl h.1.0 | inr h ↦ inr (sym was.sized ∙ h.1.0) ] in
    let all = all_taken job_of writer_of c.args.jobs.now c.args.writers.items ys left writers_left was.jobs was.writers (sym c.requires.0) over in
    subst (λ l. EachBegun g.W.Write.contents (known_at c.args.store.now (borrowed c.args.known)) c.args.store.now l c.args.writers.items c.loop-job.archives.items) all.0
    (subst (λ l. EachBegun g.W.Write.contents (known_at c.args.store.now (borrowed c.args.known)) c.args.store.now (map job_of ys) l c.loop-job.archives.items) all.1 was.begun)
