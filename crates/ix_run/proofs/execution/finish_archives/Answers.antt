use Rattle.std.proofs.Common.{◌≡◌, ◌⊎◌, length, map, sym, ◌∙◌, ap, subst, Bor, inl, inr, arith}
use Rattle.std.specs.Io.KnownBytes.{Keeps}
use Rattle.std.specs.Slice.Iter.{iter_rest}
use Rattle.std.specs.Vec.Iter.{into_iter_items}
use Rattle.std.proofs.lemmas.List.{map_push}
use Rattle.ix_car.specs.declared.sink.End.{End}
use Rattle.ix_car.specs.ArchiveMeaning.{ArchiveMeaning}
use Rattle.std.specs.Prelude.{None}
use Rattle.ix_run.specs.Run.{IsEnded, EachEnded}
use Rattle.ix_run.proofs.Runs.{EachEnded-more}
use Rattle.ix_run.proofs.Turns.{turn, all_taken}
use Rattle.ix_run.proofs.execution.finish_archives.Goals as goal

pub loop-archive-preserved : goal.loop-archive-preserved
loop-archive-preserved g c =
    let was = c.loop-archive.invariant in
    let told = g.W.Write.contents in
    let ys = c.loop-archive.yielded in
    let archive = c.in-Some.archive in
    let end = c.in-Some.end.now in
    let x : ArchiveMeaning g.row.W.Denot × Bor End = (c.in-Some.archive, c.in-Some.end) in
    let archive_of = λ (p : ArchiveMeaning g.row.W.Denot × Bor End). p.0 in
    let end_of = λ (p : ArchiveMeaning g.row.W.Denot × Bor End). p.1.now in
    let steps = c.in-Some.ensures.steps in
    let parts = c.into_parts-writer in
    let flushed : Keeps (told archive.writer) (told c.flush_writer-end.new.writer) = subst (λ w. Keeps (told w) (told c.flush_writer-end.new.writer)) parts.ensures.writer c.flush_writer-end.ensures.bytes in
    let one : IsEnded told archive end (record { end = c.flush_writer-end.result; counts = parts.result.2; skips = parts.result.1 }) c.flush_writer-end.new.writer =
    record { ended = c.flush_writer-end.ensures.end; skips = parts.ensures.skips; counts = parts.ensures.counts; flushed = flushed } in
    let more = EachEnded-more told None (map archive_of ys) (map end_of ys) c.loop-archive.results.items c.loop-archive.writers.items archive end _ c.flush_writer-end.new.writer was.ended one in record {
      can_next = (tt, tt);
      finite = tt;
      archives = turn archive_of c.args.archives.items ys (into_iter_items c.loop-archive.archive-iterator.a) (into_iter_items c.next.new.self.a) x was.archives steps.0.0;
      ends = turn end_of c.args.ends.now ys (iter_rest c.loop-archive.archive-iterator.b) (iter_rest c.next.new.self.b) x was.ends steps.1;
      sized = let fewer = ap length steps.0.0 in let size = was.sized in omega (arith, steps.0.1);
      ended = rw (map_push archive_of ys x, map_push end_of ys x) (rw c.in_ok-push.ensures.items (rw c.in_ok-push-2.ensures.items more));
    }

pub returns : goal.returns
returns g c =
    let was = c.loop-archive.invariant in
    let ys = c.loop-archive.yielded in
    let archive_of = λ (p : ArchiveMeaning g.row.W.Denot × Bor End). p.0 in
    let end_of = λ (p : ArchiveMeaning g.row.W.Denot × Bor End). p.1.now in
    let left = into_iter_items c.loop-archive.archive-iterator.a in
    let ends_left = iter_rest c.loop-archive.archive-iterator.b in
    let over : (length left ≡ 0) ⊎ (length ends_left ≡ 0) = elim c.in-None.ensures.steps as (λ _. (length left ≡ 0) ⊎ (length ends_left ≡ 0)) [ inl h ↦ inl (sym was.sized ∙ h.1.0) | inr h ↦ inr h.1.0 ] in
    let all = all_taken archive_of end_of c.args.archives.items c.args.ends.now ys left ends_left was.archives was.ends c.requires over in
    subst (λ l. EachEnded g.W.Write.contents l c.args.ends.now c.loop-archive.results.items c.loop-archive.writers.items) all.0
    (subst (λ l. EachEnded g.W.Write.contents (map archive_of ys) l c.loop-archive.results.items c.loop-archive.writers.items) all.1 was.ended)
