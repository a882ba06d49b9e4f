-- What was received from lanes, as one lane gives one item more.
use Rattle.std.proofs.Common.{◌≡◌, ℕ, zero, suc, ◌+◌, ◌<◌, ◌≤◌, Bool, true, false, length-append, List, [], ◌∷◌, ◌++◌, length, get_or, set, take, drop, take_all, drop-set-lt, append-nil, refl, sym, ◌∙◌, ap, subst, arith, append_assoc}
use Rattle.std.specs.Prelude.{cond}
use Rattle.std.specs.Int.{from_bool}
use Rattle.std.proofs.lemmas.List.{take_more_set, drop_more}
use Rattle.ix_stages.specs.declared.verdicted.Verdicted.{Verdicted}
use Rattle.ix_stages.specs.declared.lanes.LaneOut.{LaneOut}
use Rattle.ix_stages.specs.Received.{Inserts}
use Rattle.ix_stages.specs.declared.lanes.LaneIn.{LaneIn}
use Rattle.ix_car.specs.Events.{Calls}
use Rattle.ix_car.specs.Headline.{Fact}
use Rattle.ix_pipeline.specs.declared.collector.Collector.{Collector}
use Rattle.ix_pipeline.specs.Collected.{is_last, last_count}
use Rattle.ix_pipeline.specs.Collecting.{CanCollect, GoesOn}
use Rattle.ix_pipeline.proofs.Kept.{kept_same, kept_trans}
use Rattle.ix_stages.specs.Lanes.{received_by, sent_by, all_sent, EachLane, IsLane, SameIn, SameOut, EachSameOut, all_received}
use Rattle.ix_stages.proofs.Totals.{total_append}

module _ {S About : Type 0} (calls : S → Calls) (guarantee : Fact S About) where
  -- the collector goes on by no step
  pub on_same : (c : Collector) (sinks : List S) → CanCollect calls c sinks → GoesOn calls guarantee c c sinks sinks
  on_same c sinks can = record { sinks = can.sinks; jobs = refl; may = can.may; kept = kept_same guarantee sinks; done = λ d. d }

  -- and by one step more
  pub on_trans : (a b c : Collector) (first next last : List S) → GoesOn calls guarantee a b first next → GoesOn calls guarantee b c next last → GoesOn calls guarantee a c first last
  on_trans a b c first next last h k = record { sinks = k.sinks; jobs = k.jobs ∙ h.jobs; may = k.may; kept = kept_trans guarantee first next last h.kept k.kept; done = λ d. k.done (h.done d) }

-- one item more at the end of a list in the middle
pub inserts_mid : (before old new after : List Verdicted) (x : Verdicted) → new ≡ old ++ x ∷ [] → Inserts x (before ++ old ++ after) (before ++ new ++ after)
inserts_mid before old new after x e = record {
  before = before ++ old;
  after = after;
  got_is = refl;
  more_is = ap (λ (l : List Verdicted). before ++ l ++ after) e ∙ ap (λ (l : List Verdicted). l ++ after) (sym (append_assoc before old (x ∷ []))) ∙ append_assoc (before ++ old) (x ∷ []) after;
}

-- a list before lists around one in the middle
pub front_mid : (front before mid after : List Verdicted) → front ++ (before ++ mid ++ after) ≡ (front ++ before) ++ mid ++ after
front_mid front before mid after = sym (append_assoc front (before ++ mid) after) ∙ ap (λ (l : List Verdicted). l ++ after) (sym (append_assoc front before mid))

-- the position of a lane's items among those of all lanes
pub record IsAmong (ls : List LaneOut) (i : ℕ) (l m : LaneOut) : Type 0 where
  pub before : List Verdicted
  pub after : List Verdicted
  pub old_is : all_received ls ≡ before ++ received_by l ++ after
  pub new_is : all_received (set ls i m) ≡ before ++ received_by m ++ after

-- a lane's items are between those of the lanes before and after it
abbrev pub among : (ls : List LaneOut) (i : ℕ) (l m : LaneOut) → l ≡ get_or ls i l → i < length ls → IsAmong ls i l m
among [] i l m at lt = absurd (omega arith)
among (y ∷ ls) zero l m at lt = record { before = []; after = all_received ls; old_is = ap (λ (z : LaneOut). received_by z ++ all_received ls) (sym at); new_is = refl }
among (y ∷ ls) (suc i) l m at lt =
    let r = among ls i l m at (omega arith) in
    record {
      before = received_by y ++ r.before;
      after = r.after;
      old_is = ap (λ (k : List Verdicted). received_by y ++ k) r.old_is ∙ sym (append_assoc (received_by y) (r.before ++ received_by l) r.after) ∙ ap (λ (k : List Verdicted). k ++ r.after) (sym (append_assoc (received_by y) r.before (received_by l)));
      new_is = ap (λ (k : List Verdicted). received_by y ++ k) r.new_is ∙ sym (append_assoc (received_by y) (r.before ++ received_by m) r.after) ∙ ap (λ (k : List Verdicted). k ++ r.after) (sym (append_assoc (received_by y) r.before (received_by m)));
    }

-- a lane gives some items more
pub length_set : (before old new after : List Verdicted) (k : ℕ) → length new ≡ k + length old → length (before ++ new ++ after) ≡ k + length (before ++ old ++ after)
length_set before old new after k e =
    let a : length (before ++ old ++ after) ≡ length (before ++ old) + length after = length-append (before ++ old) after in
    let b : length (before ++ old) ≡ length before + length old = length-append before old in
    let c : length (before ++ new ++ after) ≡ length (before ++ new) + length after = length-append (before ++ new) after in
    let d : length (before ++ new) ≡ length before + length new = length-append before new in
    omega arith

-- a boolean as a number
pub bool_one : (b : Bool) → from_bool b ≡ cond b 1 0
bool_one true = refl
bool_one false = refl

-- which is at most 1
pub one_at_most : (b : Bool) → cond b 1 0 ≤ 1
one_at_most true = omega arith
one_at_most false = omega arith

-- a lane gives one more verifier's last, or none
pub lasts_set : (before old new after : List Verdicted) (k : ℕ) → last_count new ≡ k + last_count old → last_count (before ++ new ++ after) ≡ k + last_count (before ++ old ++ after)
lasts_set before old new after k e =
    let a : last_count (before ++ old ++ after) ≡ last_count (before ++ old) + last_count after = total_append is_last (before ++ old) after in
    let b : last_count (before ++ old) ≡ last_count before + last_count old = total_append is_last before old in
    let c : last_count (before ++ new ++ after) ≡ last_count (before ++ new) + last_count after = total_append is_last (before ++ new) after in
    let d : last_count (before ++ new) ≡ last_count before + last_count new = total_append is_last before new in
    omega arith

-- being the same receiver is transitive
pub same_trans : (x y z : LaneOut) → SameOut x y → SameOut y z → SameOut x z
same_trans x y z h k = let a = h.0 in let b = k.0 in ((b.0 ∙ a.0, b.1 ∙ a.1, b.2 ∙ a.2, b.3 ∙ a.3), k.1 ∙ h.1)

-- and reflexive
pub same_self : (ls : List LaneOut) → EachSameOut ls ls
same_self [] = tt
same_self (l ∷ ls) = (((refl, refl, refl, refl), refl), same_self ls)

-- one receiver more is the same as before
pub same_set : (xs ys : List LaneOut) (i : ℕ) (l m : LaneOut) → EachSameOut xs ys → l ≡ get_or ys i l → SameOut l m → EachSameOut xs (set ys i m)
same_set [] [] i l m h at e = tt
same_set [] (y ∷ ys) i l m h at e = absurd h
same_set (x ∷ xs) [] i l m h at e = absurd h
same_set (x ∷ xs) (y ∷ ys) zero l m h at e = (same_trans x y m h.0 (subst (λ (z : LaneOut). SameOut z m) at e), h.1)
same_set (x ∷ xs) (y ∷ ys) (suc i) l m h at e = (h.0, same_set xs ys i l m h.1 at e)

-- the two ends of a lane stay so
pub lane_same : (i j : LaneIn) (o p : LaneOut) → SameIn i j → SameOut o p → IsLane i o → IsLane j p
lane_same i j o p a b h = let x = a.0 in let y = b.0 in (y.0 ∙ h.0 ∙ sym x.0, y.1 ∙ h.1 ∙ sym x.1, y.2 ∙ h.2 ∙ sym x.2, y.3 ∙ h.3 ∙ sym x.3)

-- receiver by receiver
pub each_same_trans : (xs ys zs : List LaneOut) → EachSameOut xs ys → EachSameOut ys zs → EachSameOut xs zs
each_same_trans [] [] [] h k = tt
each_same_trans [] [] (z ∷ zs) h k = absurd k
each_same_trans [] (y ∷ ys) zs h k = absurd h
each_same_trans (x ∷ xs) [] zs h k = absurd h
each_same_trans (x ∷ xs) (y ∷ ys) [] h k = absurd k
each_same_trans (x ∷ xs) (y ∷ ys) (z ∷ zs) h k = (same_trans x y z h.0 k.0, each_same_trans xs ys zs h.1 k.1)

-- what was sent on two lists of lanes
all_sent_append : (xs ys : List LaneIn) → all_sent (xs ++ ys) ≡ all_sent xs ++ all_sent ys
all_sent_append [] ys = refl
all_sent_append (x ∷ xs) ys = ap (λ (k : List Verdicted). sent_by x ++ k) (all_sent_append xs ys) ∙ sym (append_assoc (sent_by x) (all_sent xs) (all_sent ys))

-- a lane's sender that sent nothing more
pub sent_set : (ls : List LaneIn) (i : ℕ) (l m : LaneIn) → l ≡ get_or ls i l → sent_by m ≡ sent_by l → all_sent (set ls i m) ≡ all_sent ls
sent_set [] i l m at e = refl
sent_set (y ∷ ls) zero l m at e = ap (λ (k : List Verdicted). k ++ all_sent ls) (e ∙ ap sent_by at)
sent_set (y ∷ ls) (suc i) l m at e = ap (λ (k : List Verdicted). sent_by y ++ k) (sent_set ls i l m at e)

-- as many senders as receivers
pub lanes_long : (is : List LaneIn) (os : List LaneOut) → EachLane is os → length os ≡ length is
lanes_long [] [] h = refl
lanes_long [] (o ∷ os) h = absurd h
lanes_long (i ∷ is) [] h = absurd h
lanes_long (i ∷ is) (o ∷ os) h = ap suc (lanes_long is os h.1)

-- the lane at a position, and those after it
pub lanes_from : (is : List LaneIn) (os : List LaneOut) (k : ℕ) (i : LaneIn) (o : LaneOut) → k < length is → k < length os → EachLane (drop k is) (drop k os) → IsLane (get_or is k i) (get_or os k o) × EachLane (drop (k + 1) is) (drop (k + 1) os)
lanes_from is os k i o li lo h =
    let one : EachLane (get_or is k i ∷ drop (k + 1) is) (drop k os) = subst (λ (l : List LaneIn). EachLane l (drop k os)) (drop_more is k i li) h in
    let both : EachLane (get_or is k i ∷ drop (k + 1) is) (get_or os k o ∷ drop (k + 1) os) = subst (λ (l : List LaneOut). EachLane (get_or is k i ∷ drop (k + 1) is) l) (drop_more os k o lo) one in
    both

-- what came before lane k was drained
pub before_drain : (is : List LaneIn) (os : List LaneOut) (k : ℕ) (o : LaneOut) → k < length os → all_sent (take k is) ++ all_received (drop k os) ≡ all_sent (take k is) ++ received_by (get_or os k o) ++ all_received (drop (k + 1) os)
before_drain is os k o lt =
    ap (λ (l : List LaneOut). all_sent (take k is) ++ all_received l) (drop_more os k o lt) ∙ sym (append_assoc (all_sent (take k is)) (received_by (get_or os k o)) (all_received (drop (k + 1) os)))

-- what came after it
pub after_drain : (is : List LaneIn) (os : List LaneOut) (k : ℕ) (i j : LaneIn) (o : LaneOut)
    → i ≡ get_or is k i → k < length is → sent_by j ≡ sent_by i → all_sent (take (k + 1) (set is k j)) ++ all_received (drop (k + 1) (set os k o)) ≡ all_sent (take k is) ++ sent_by i ++ all_received (drop (k + 1) os)
after_drain is os k i j o at lt same =
    ap (λ (l : List LaneIn). all_sent l ++ all_received (drop (k + 1) (set os k o))) (take_more_set is k j lt)
    ∙ ap (λ (l : List LaneOut). all_sent (take k is ++ j ∷ []) ++ all_received l) (drop-set-lt (k + 1) os k o (omega arith))
    ∙ ap (λ (l : List Verdicted). l ++ all_received (drop (k + 1) os)) (all_sent_append (take k is) (j ∷ []) ∙ ap (λ (l : List Verdicted). all_sent (take k is) ++ l) (append-nil (sent_by j) ∙ same))

-- all were drained
pub all_drained : (is : List LaneIn) (os : List LaneOut) (k : ℕ) → length is ≤ k → length os ≤ k → all_sent (take k is) ++ all_received (drop k os) ≡ all_sent is
all_drained is os k li lo =
    ap (λ (l : List LaneIn). all_sent l ++ all_received (drop k os)) (take_all k is li) ∙ ap (λ (l : List LaneOut). all_sent is ++ all_received l) (none_behind os k lo) ∙ append-nil (all_sent is)
  where
    none_behind : (os : List LaneOut) (k : ℕ) → length os ≤ k → drop k os ≡ []
    none_behind [] zero le = refl
    none_behind [] (suc k) le = refl
    none_behind (o ∷ os) zero le = absurd (omega arith)
    none_behind (o ∷ os) (suc k) le = none_behind os k (omega arith)
