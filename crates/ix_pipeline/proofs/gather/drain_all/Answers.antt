use Rattle.std.proofs.Common.{◌++◌, rules, refl, ◌≡◌, ◌+◌, ◌<◌, ◌≤◌, List, length, get_or, take, drop, set, ap, sym, ◌∙◌, subst, length-set, drop-set-lt, arith}
use Rattle.ix_stages.specs.declared.verdicted.Verdicted.{Verdicted}
use Rattle.ix_stages.specs.declared.lanes.LaneIn.{LaneIn}
use Rattle.ix_stages.specs.declared.lanes.LaneOut.{LaneOut}
use Rattle.ix_stages.specs.Lanes.{EachLane, sent_by, received_by, all_sent, all_received}
use Rattle.ix_pipeline.specs.Collected.{IsCollected}
use Rattle.ix_pipeline.proofs.Gathering.{lanes_long, front_mid, on_same, on_trans, sent_set, lanes_from, before_drain, after_drain, all_drained}
use Rattle.ix_pipeline.proofs.gather.drain_all.Goals as goal

pub loop-i-init : goal.loop-i-init
loop-i-init g c = record {
  size = refl;
  other = lanes_long c.args.senders.now c.args.receivers.now c.requires.lanes;
  lanes = c.requires.lanes;
  sent = refl;
  collected = record { on = on_same g.S.Sink.calls g.S.Sink.guarantee c.args.collector.now c.args.sinks.now c.requires.can; collected = λ store jobs before h. h };
}

pub loop-i-preserved : goal.loop-i-preserved
loop-i-preserved g c =
    let h = c.loop-i.invariant in
    let k = c.loop-i.i in
    let sender = get_or c.loop-i.senders k c.index-senders-i.result in
    let at : sender ≡ get_or c.loop-i.senders k sender = ap (λ (l : LaneIn). get_or c.loop-i.senders k l) c.index-senders-i.is in
    let lt : k < length c.loop-i.senders = search rules in
    let size : length c.loop-i.senders ≡ length c.args.senders.now = h.size in
    let other : length c.loop-i.receivers ≡ length c.args.senders.now = h.other in
    let less : k < length c.loop-i.receivers = omega arith in
    let behind = lanes_from c.loop-i.senders c.loop-i.receivers k c.index-senders-i.result c.index-receivers-i.result lt less h.lanes in
    let past : k < k + 1 = omega arith in
    let same = c.drain_lane.ensures.lane in
    record {
      size = length-set c.loop-i.senders k c.drain_lane.new.sender ∙ h.size;
      other = length-set c.loop-i.receivers k c.drain_lane.new.receiver ∙ h.other;
      lanes = subst (λ (l : List LaneIn). EachLane l (drop (k + 1) (set c.loop-i.receivers k c.drain_lane.new.receiver))) (sym (drop-set-lt (k + 1) c.loop-i.senders k c.drain_lane.new.sender past))
          (subst (λ (l : List LaneOut). EachLane (drop (k + 1) c.loop-i.senders) l) (sym (drop-set-lt (k + 1) c.loop-i.receivers k c.drain_lane.new.receiver past)) behind.1);
      sent = sent_set c.loop-i.senders k sender c.drain_lane.new.sender at same.2 ∙ h.sent;
      collected = record {
        on = on_trans g.S.Sink.calls g.S.Sink.guarantee c.args.collector.now c.loop-i.collector c.drain_lane.new.collector c.args.sinks.now c.loop-i.sinks c.drain_lane.new.sinks h.collected.on c.drain_lane.ensures.collected.on;
        collected = λ store jobs front begun.
            let sent = all_sent (take k c.loop-i.senders) in
            let rest = all_received (drop (k + 1) c.loop-i.receivers) in
            let receiver = get_or c.loop-i.receivers k c.index-receivers-i.result in
            let old : front ++ (sent ++ all_received (drop k c.loop-i.receivers)) ≡ (front ++ sent) ++ received_by receiver ++ rest =
            ap (λ (l : List Verdicted). front ++ l) (before_drain c.loop-i.senders c.loop-i.receivers k c.index-receivers-i.result less) ∙ front_mid front sent (received_by receiver) rest
            in
            let new : front ++ (all_sent (take (k + 1) (set c.loop-i.senders k c.drain_lane.new.sender)) ++ all_received (drop (k + 1) (set c.loop-i.receivers k c.drain_lane.new.receiver))) ≡ (front ++ sent) ++ sent_by sender ++ rest =
            ap (λ (l : List Verdicted). front ++ l) (after_drain c.loop-i.senders c.loop-i.receivers k sender c.drain_lane.new.sender c.drain_lane.new.receiver at lt same.2) ∙ front_mid front sent (sent_by sender) rest
            in
            subst (λ (l : List Verdicted). IsCollected g.S.Sink.calls store jobs l c.drain_lane.new.collector c.drain_lane.new.sinks) (sym new)
            (c.drain_lane.ensures.collected.collected store jobs (front ++ sent) rest
            (subst (λ (l : List Verdicted). IsCollected g.S.Sink.calls store jobs l c.loop-i.collector c.loop-i.sinks) old (h.collected.collected store jobs front begun)));
      };
    }

pub returns-clause-collected : goal.returns-clause-collected
returns-clause-collected g c =
    let h = c.loop-i.invariant in
    let past : length c.loop-i.senders ≤ c.loop-i.i = search rules in
    let size : length c.loop-i.senders ≡ length c.args.senders.now = h.size in
    let other : length c.loop-i.receivers ≡ length c.args.senders.now = h.other in
    let over : length c.loop-i.receivers ≤ c.loop-i.i = omega arith in
    record {
      on = h.collected.on;
      collected = λ store jobs front begun.
          subst (λ (l : List Verdicted). IsCollected g.S.Sink.calls store jobs (front ++ l) c.loop-i.collector c.loop-i.sinks) (all_drained c.loop-i.senders c.loop-i.receivers c.loop-i.i past over) (h.collected.collected store jobs front begun);
    }
