use Rattle.std.proofs.Common.{ℕ, List, [], ap, sym, subst, inl, ◌∙◌}
use Rattle.ix_car.specs.Headline.{IsCheckedOnce}
use Rattle.ix_stages.specs.declared.lanes.LaneIn.{LaneIn}
use Rattle.ix_stages.specs.declared.lanes.LaneOut.{LaneOut}
use Rattle.ix_stages.specs.declared.verdicted.Verdicted.{Verdicted}
use Rattle.ix_stages.specs.Good.{IsGood}
use Rattle.ix_stages.specs.Lanes.{EachLane, all_received, all_sent}
use Rattle.ix_pipeline.specs.Collected.{IsCollected, IsCollectedFrom}
use Rattle.ix_pipeline.specs.Collecting.{HasCollected}
use Rattle.ix_stages.specs.Shared.{store_of, jobs_of}
use Rattle.ix_pipeline.proofs.caller.Caller.drain.Goals as goal

pub drain_all-requires : goal.drain_all-requires
drain_all-requires g c = record {
  lanes =
      subst (λ (l : List LaneIn). EachLane l c.as_mut_slice-lanes.result.now) (sym c.as_mut_slice-senders.ensures.value)
      (subst (λ (l : List LaneOut). EachLane c.args.self.senders.items l) (sym c.as_mut_slice-lanes.ensures.value) c.requires.can.lanes);
  can = c.requires.can.told.0;
  done = c.requires.can.done;
}

pub returns : goal.returns
returns g c =
    let store = store_of c.args.shared.now in
    let jobs = jobs_of c.args.shared.now in
    let got = all_sent c.args.self.senders.items in
    let joined = c.requires.joined.joined in
    let good : IsGood store jobs got = c.settle.ensures got joined.sent in
    let e = c.drain_all.ensures in
    let collector = c.drain_all.new.collector in
    let sinks = c.drain_all.new.sinks in
    let told = subst (λ (ls : List LaneOut). HasCollected g.S.Sink.calls (all_received ls) c.args.self.collector c.args.sinks.now) (sym c.as_mut_slice-lanes.ensures.value) c.requires.can.told.1 in
    let collected = subst (λ (l : List Verdicted). IsCollected g.S.Sink.calls store jobs l collector sinks) (e.sent ∙ ap all_sent c.as_mut_slice-senders.ensures.value) (e.collected.collected store jobs [] (told store jobs)) in
    let from : IsCollectedFrom g.S.Sink.calls store jobs got collector sinks = record { good = good; sized = e.collected.on.jobs ∙ c.requires.can.jobs; collected = collected } in
    let exported = c.collected_is_exported.ensures collector sinks c.ends-ends.result.items c.ends-ends.ensures store jobs got from in
    record {
      delivered = exported.delivered;
      kept = e.collected.on.kept;
      checks = subst (λ (ps : List (ℕ × ℕ)). IsCheckedOnce g.S.Sink.calls store jobs c.ends-ends.result.items sinks ps) (sym joined.checks) exported.checked;
      started = inl exported.started;
    }
