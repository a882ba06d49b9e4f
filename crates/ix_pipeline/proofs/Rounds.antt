-- One round over the lanes, each of which gives an item or none.
use Rattle.std.proofs.Common.{◌≡◌, ℕ, ◌+◌, ◌<◌, List, [], ◌∷◌, ◌++◌, length, length-append, get_or, set, ap, sym, ◌∙◌, subst, arith}
use Rattle.ix_car.specs.Events.{Calls}
use Rattle.ix_car.specs.Headline.{Fact}
use Rattle.ix_stages.specs.declared.lanes.LaneOut.{LaneOut}
use Rattle.ix_stages.specs.declared.verdicted.Verdicted.{Verdicted}
use Rattle.ix_stages.specs.Lanes.{SameOut, EachSameOut, received_by, all_received}
use Rattle.ix_stages.proofs.Totals.{total_append}
use Rattle.ix_pipeline.specs.declared.collector.Collector.{Collector}
use Rattle.ix_pipeline.specs.Collected.{IsCollected, is_last, last_count}
use Rattle.ix_pipeline.specs.Collecting.{CanCollect, CollectsAmong, CollectsAfter, CollectsItem, GoesOn}
use Rattle.ix_pipeline.proofs.Gathering.{among, front_mid, inserts_mid, lasts_set, length_set, on_same, on_trans, same_self, same_set}

module _ {S About : Type 0} (calls : S → Calls) (guarantee : Fact S About) where
  -- a lane gave so many items, of which so many are a verifier's last, and they were collected
  pub record Gives (old new : LaneOut) (k n : ℕ) (c d : Collector) (first last : List S) : Type 0 where
    pub lane : SameOut old new
    pub items : length (received_by new) ≡ k + length (received_by old)
    pub ended_lanes : last_count (received_by new) ≡ n + last_count (received_by old)
    pub collected : CollectsAmong calls guarantee (received_by old) (received_by new) c d first last

  -- a lane that is empty leaves all as it is
  pub gives_none : (old new : LaneOut) (c : Collector) (sinks : List S) → CanCollect calls c sinks → SameOut old new → received_by new ≡ received_by old → Gives old new 0 0 c c sinks sinks
  gives_none old new c sinks can lane same = record {
    lane = lane;
    items = (let e = ap (λ (l : List Verdicted). length l) same in omega (arith, e));
    ended_lanes = (let e = ap last_count same in omega (arith, e));
    collected = record {
      on = on_same calls guarantee c sinks can;
      collected = λ store jobs before after h. subst (λ (l : List Verdicted). IsCollected calls store jobs (before ++ l ++ after) c sinks) (sym same) h;
    };
  }

  -- a lane gives one item, which is collected
  pub gives_one : (old new : LaneOut) (x : Verdicted) (ended_lanes : ℕ) (c d : Collector) (first last : List S)
      → SameOut old new → received_by new ≡ received_by old ++ x ∷ [] → ended_lanes ≡ is_last x → GoesOn calls guarantee c d first last → CollectsItem calls x c d first last → Gives old new 1 ended_lanes c d first last
  gives_one old new x ended_lanes c d first last lane gives is on collects =
      let long : length (received_by old ++ x ∷ []) ≡ length (received_by old) + 1 = length-append (received_by old) (x ∷ []) in
      let longer = ap (λ (l : List Verdicted). length l) gives in
      let counts : last_count (received_by old ++ x ∷ []) ≡ last_count (received_by old) + last_count (x ∷ []) = total_append is_last (received_by old) (x ∷ []) in
      let more = ap last_count gives in
      record {
        lane = lane;
        items = omega (arith, long, longer);
        ended_lanes = omega (arith, counts, more, is);
        collected = record {
          on = on;
          collected = λ store jobs before after h. collects store jobs (before ++ received_by old ++ after) (before ++ received_by new ++ after) (inserts_mid before (received_by old) (received_by new) after x gives) h;
        };
      }

  -- what the lanes gave by now
  pub record HaveGiven (xs ys : List LaneOut) (k n : ℕ) (c d : Collector) (first last : List S) : Type 0 where
    pub same : EachSameOut xs ys
    pub items : length (all_received ys) ≡ k + length (all_received xs)
    pub ended_lanes : last_count (all_received ys) ≡ n + last_count (all_received xs)
    pub collected : CollectsAfter calls guarantee (all_received xs) (all_received ys) c d first last

  -- before the first lane nothing was given
  pub given_none : (xs : List LaneOut) (c : Collector) (sinks : List S) → CanCollect calls c sinks → HaveGiven xs xs 0 0 c c sinks sinks
  given_none xs c sinks can = record { same = same_self xs; items = omega arith; ended_lanes = omega arith; collected = record { on = on_same calls guarantee c sinks can; collected = λ store jobs before h. h } }

  -- the loop's step: one lane more
  pub given_more : (xs ys : List LaneOut) (i : ℕ) (l m : LaneOut) (items ended_lanes k n : ℕ) (a b c : Collector) (first next last : List S)
      → HaveGiven xs ys items ended_lanes a b first next → l ≡ get_or ys i l → i < length ys → Gives l m k n b c next last → HaveGiven xs (set ys i m) (items + k) (ended_lanes + n) a c first last
  given_more xs ys i l m items ended_lanes k n a b c first next last h at lt g =
      let there = among ys i l m at lt in
      record {
        same = same_set xs ys i l m h.same at g.lane;
        items = (let was = h.items in
            let old = ap (λ (l : List Verdicted). length l) there.old_is in
            let new = ap (λ (l : List Verdicted). length l) there.new_is in
            let set_is = length_set there.before (received_by l) (received_by m) there.after k g.items in
            omega (arith, was, old, new, set_is));
        ended_lanes = (let was = h.ended_lanes in
            let old = ap last_count there.old_is in
            let new = ap last_count there.new_is in
            let set_is = lasts_set there.before (received_by l) (received_by m) there.after n g.ended_lanes in
            omega (arith, was, old, new, set_is));
        collected = record {
          on = on_trans calls guarantee a b c first next last h.collected.on g.collected.on;
          collected = λ store jobs front begun.
              let old : front ++ all_received ys ≡ (front ++ there.before) ++ received_by l ++ there.after = ap (λ (l : List Verdicted). front ++ l) there.old_is ∙ front_mid front there.before (received_by l) there.after in
              let new : front ++ all_received (set ys i m) ≡ (front ++ there.before) ++ received_by m ++ there.after = ap (λ (l : List Verdicted). front ++ l) there.new_is ∙ front_mid front there.before (received_by m) there.after in
              subst (λ (l : List Verdicted). IsCollected calls store jobs l c last) (sym new)
              (g.collected.collected store jobs (front ++ there.before) there.after (subst (λ (l : List Verdicted). IsCollected calls store jobs l b next) old (h.collected.collected store jobs front begun)));
        };
      }

  -- the same under equal names of numbers, collector and sinks
  pub given_as : (xs ys : List LaneOut) (k l n m : ℕ) (a b c : Collector) (first next last : List S) → l ≡ k → m ≡ n → c ≡ b → last ≡ next → HaveGiven xs ys k n a b first next → HaveGiven xs ys l m a c first last
  given_as xs ys k l n m a b c first next last same_k same_n same_c same_last h =
      subst (λ (p : (ℕ × ℕ) × (Collector × List S)). HaveGiven xs ys p.0.0 p.0.1 a p.1.0 first p.1.1) (λ i. ((sym same_k i, sym same_n i), (sym same_c i, sym same_last i))) h
