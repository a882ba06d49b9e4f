use Rattle.std.specs.Prelude.{false}
use Rattle.std.proofs.lemmas.List.{set-get_or}
use Rattle.ix_pipeline.specs.Collected.{IsStray}
use Rattle.std.proofs.Common.{inl, inr, ℕ, arith, subst, set, rules, ◌≡◌, ◌<◌, ◌≤◌, refl, sym, ◌∙◌, Some, length, get_or, ap, length-set}
use Rattle.std.proofs.lemmas.Bool.{or_left}
use Rattle.std.proofs.lemmas.Option.{slice_get_read}
use Rattle.ix_pipeline.proofs.Kept.{kept_set, kept_same}
use Rattle.ix_stages.specs.Received.{job_of}
use Rattle.ix_pipeline.proofs.Collecting.{safe_at, safe_set, collected_none, collected_unknown, collected_one, ended_set, closed_at, misplaced_at, is_noted_then, not_fine}
use Rattle.ix_pipeline.proofs.collector.Collector.receive.Goals as goal

pub returns-in_default-clause-kept : goal.returns-in_default-clause-kept
returns-in_default-clause-kept g c = kept_same g.S.Sink.guarantee c.args.sinks.now

pub returns-then-job-len-clause-kept : goal.returns-then-job-len-clause-kept
returns-then-job-len-clause-kept g c = kept_same g.S.Sink.guarantee c.args.sinks.now

pub receive-fine-requires : goal.receive-fine-requires
receive-fine-requires g c =
    let lt : c.in-Some.job < length c.args.self.now.jobs.items = search rules in
    let sink = get_or c.args.sinks.now c.in-Some.job c.index-sinks-job.result in
    record {
      safe =
          safe_at g.S.Sink.calls c.args.self.now.jobs.items c.args.sinks.now c.in-Some.job c.index_mut.result.now sink c.index_mut.ensures.value
          (ap (λ (s : g.row.S.Denot). get_or c.args.sinks.now c.in-Some.job s) c.index-sinks-job.is) lt c.requires.may;
      room =
          c.requires.room c.in-Some.job c.index_mut.result.now (sym c.job_of.ensures ∙ c.in-Some.is)
          (slice_get_read c.args.self.now.jobs.items (length c.args.self.now.jobs.items) c.in-Some.job c.index_mut.result.now refl lt c.index_mut.ensures.value);
    }

pub returns-clause-may : goal.returns-clause-may
returns-clause-may g c = safe_set g.S.Sink.calls c.args.self.now.jobs.items c.args.sinks.now c.in-Some.job c.receive-fine.new.self c.receive-fine.new.sink c.receive-fine.ensures.kept.0 c.requires.may

pub returns-clause-kept : goal.returns-clause-kept
returns-clause-kept g c =
    let sink = get_or c.args.sinks.now c.in-Some.job c.index-sinks-job.result in
    kept_set g.S.Sink.guarantee c.args.sinks.now c.in-Some.job sink c.receive-fine.new.sink (ap (λ (s : g.row.S.Denot). get_or c.args.sinks.now c.in-Some.job s) c.index-sinks-job.is) c.receive-fine.ensures.kept.1

pub returns-clause-done : goal.returns-clause-done
returns-clause-done g c =
    let lt : c.in-Some.job < length c.args.self.now.jobs.items = search rules in
    λ h. ended_set c.args.self.now.jobs.items c.in-Some.job c.index_mut.result.now c.receive-fine.new.self c.index_mut.ensures.value lt c.receive-fine.ensures.ended h

pub returns-clause-collected : goal.returns-clause-collected
returns-clause-collected g c =
    let lt : c.in-Some.job < length c.args.self.now.jobs.items = search rules in
    let sink = get_or c.args.sinks.now c.in-Some.job c.index-sinks-job.result in
    let of : job_of c.args.item ≡ Some c.in-Some.job = sym c.job_of.ensures ∙ c.in-Some.is in
    λ store jobs got more i h good len.
    collected_one g.S.Sink.calls store jobs c.args.item got more c.in-Some.job c.args.self.now.unexpected c.receive-fine.result c.args.self.now.jobs.items _ c.args.sinks.now _
    c.index_mut.result.now c.receive-fine.new.self sink c.receive-fine.new.sink i of c.index_mut.ensures.value (ap (λ (s : g.row.S.Denot). get_or c.args.sinks.now c.in-Some.job s) c.index-sinks-job.is) lt refl refl c.receive-fine.ensures.received h good
    (sym (length-set c.args.self.now.jobs.items c.in-Some.job c.receive-fine.new.self) ∙ len)

pub returns-in_default-clause-collected : goal.returns-in_default-clause-collected
returns-in_default-clause-collected g c = λ store jobs got more i h. collected_none g.S.Sink.calls store jobs c.args.item got more c.args.self.now c.args.sinks.now i (sym c.job_of.ensures ∙ c.in_default.is) h

pub returns-then-job-len-clause-collected : goal.returns-then-job-len-clause-collected
returns-then-job-len-clause-collected g c =
    let past : length c.args.self.now.jobs.items ≤ c.in-Some.job = search rules in
    λ store jobs got more i h good len. absurd (collected_unknown store jobs c.args.item got more c.in-Some.job (length c.args.self.now.jobs.items) i (sym c.job_of.ensures ∙ c.in-Some.is) past len good)

pub returns-clause-stays : goal.returns-clause-stays
returns-clause-stays g c = λ e. or_left c.args.self.now.unexpected _ e

pub returns-clause-guarded : goal.returns-clause-guarded
returns-clause-guarded g c =
    let sink = get_or c.args.sinks.now c.in-Some.job c.index-sinks-job.result in
    λ was now.
    let bad : c.receive-fine.result ≡ false = not_fine c.args.self.now.unexpected c.receive-fine.result was now in
    ap (λ (s : g.row.S.Denot). set c.args.sinks.now c.in-Some.job s) (c.receive-fine.ensures.refused bad) ∙ set-get_or c.args.sinks.now c.in-Some.job c.index-sinks-job.result

pub returns-clause-unexpected : goal.returns-clause-unexpected
returns-clause-unexpected g c = λ job of unexpected.
    let lt : c.in-Some.job < length c.args.self.now.jobs.items = search rules in
    let known : Some c.in-Some.job ≡ Some job = sym c.in-Some.is ∙ c.job_of.ensures ∙ of in
    let same : c.in-Some.job ≡ job = cc in
    let here : IsStray c.args.self.now c.args.item c.in-Some.job = subst (λ (n : ℕ). IsStray c.args.self.now c.args.item n) (sym same) unexpected in
    let bad : c.receive-fine.result ≡ false =
    elim here [
      | inl past ↦ absurd (omega arith)
      | inr stands ↦
          elim stands [
            | inl closed ↦ c.receive-fine.ensures.late (closed_at c.args.self.now.jobs.items c.in-Some.job c.index_mut.result.now c.index_mut.ensures.value closed)
            | inr misplaced ↦ c.receive-fine.ensures.misplaced (misplaced_at c.args.self.now.jobs.items c.args.item c.in-Some.job c.index_mut.result.now c.index_mut.ensures.value misplaced)
          ]
    ]
    in (
      is_noted_then c.args.self.now.unexpected c.receive-fine.result bad,
      ap (λ (s : g.row.S.Denot). set c.args.sinks.now c.in-Some.job s) (c.receive-fine.ensures.refused bad) ∙ set-get_or c.args.sinks.now c.in-Some.job c.index-sinks-job.result,
    )
