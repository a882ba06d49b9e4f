-- The ends of lanes.
use Rattle.std.proofs.Common.{List, [], ◌∷◌, ◌++◌}
use Rattle.std.specs.declared.thread.PromisedHandle.{PromisedHandle}
use Rattle.ix_stages.specs.declared.lanes.LaneIn.{LaneIn}
use Rattle.ix_stages.specs.declared.lanes.LaneOut.{LaneOut}
use Rattle.ix_stages.specs.Lanes.{IsLane, SameIn, EachSameOut, EachLane}
use Rattle.ix_pipeline.proofs.Gathering.{lane_same}
use Rattle.ix_pipeline.specs.declared.verifying.Verifier.{Verifier}
use Rattle.ix_pipeline.specs.declared.verifying.StartFacts.{StartFacts}
use Rattle.ix_pipeline.specs.Verifiers.{EachOut, EachBack}

module _ {C : Type 0} where
  -- the ends that came back, and the caller's ends, are of the same lanes
  pub lanes_back : (hs : List (PromisedHandle (Verifier C) (StartFacts C))) (is : List LaneIn) (os ps : List LaneOut) → EachOut hs os → EachBack hs is → EachSameOut os ps → EachLane is ps
  lanes_back [] [] [] [] h b s = tt
  lanes_back [] [] [] (p ∷ ps) h b s = absurd s
  lanes_back [] [] (o ∷ os) ps h b s = absurd h
  lanes_back [] (i ∷ is) os ps h b s = absurd b
  lanes_back (x ∷ hs) [] os ps h b s = absurd b
  lanes_back (x ∷ hs) (i ∷ is) [] ps h b s = absurd h
  lanes_back (x ∷ hs) (i ∷ is) (o ∷ os) [] h b s = absurd s
  lanes_back (x ∷ hs) (i ∷ is) (o ∷ os) (p ∷ ps) h b s = (lane_same x.promise.verifier.value.lane i o p b.0 s.0 h.0, lanes_back hs is os ps h.1 b.1 s.1)

  -- one more handle with the receiver of its lane, at the end of both lists
  pub out_push : (hs : List (PromisedHandle (Verifier C) (StartFacts C))) (os : List LaneOut) (x : PromisedHandle (Verifier C) (StartFacts C)) (o : LaneOut) → EachOut hs os → IsLane x.promise.verifier.value.lane o → EachOut (hs ++ x ∷ []) (os ++ o ∷ [])
  out_push [] [] x o h l = (l, tt)
  out_push [] (p ∷ os) x o h l = absurd h
  out_push (y ∷ hs) [] x o h l = absurd h
  out_push (y ∷ hs) (p ∷ os) x o h l = (h.0, out_push hs os x o h.1 l)

  -- one more joined handle with the sender it gave back, at the end of both lists
  pub back_push : (hs : List (PromisedHandle (Verifier C) (StartFacts C))) (is : List LaneIn) (x : PromisedHandle (Verifier C) (StartFacts C)) (i : LaneIn) → EachBack hs is → SameIn x.promise.verifier.value.lane i → EachBack (hs ++ x ∷ []) (is ++ i ∷ [])
  back_push [] [] x i h l = (l, tt)
  back_push [] (j ∷ is) x i h l = absurd h
  back_push (y ∷ hs) [] x i h l = absurd h
  back_push (y ∷ hs) (j ∷ is) x i h l = (h.0, back_push hs is x i h.1 l)
