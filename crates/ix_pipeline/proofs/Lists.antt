-- Elements of lists, and lists put end to end.
use Rattle.std.proofs.Common.{◌≡◌, ◌<◌, ◌≤◌, ◌+◌, ℕ, zero, suc, List, [], ◌∷◌, ◌++◌, All, length, map, arith, ap, sym, refl, ◌∙◌, append_assoc, append-nil}
use Rattle.std.proofs.lemmas.List.Elements.{All-cons}
use Rattle.ix_stages.specs.declared.verdicted.Verdicted.{Verdicted}
use Rattle.ix_stages.specs.declared.lanes.LaneOut.{LaneOut}
use Rattle.ix_stages.specs.declared.lanes.LaneIn.{LaneIn}
use Rattle.ix_stages.specs.Items.{count_up}
use Rattle.ix_stages.specs.Lanes.{received_by, sent_by, all_received, all_sent}

module _ {X : Type 0} where
  -- what holds at each number below a bound holds of the values at a run of numbers below it
  pub all_count : (P : X → Type 0) (f : ℕ → X) (n k top : ℕ) → n + k ≤ top → ((j : ℕ) → j < top → P (f j)) → All P (map f (count_up n k))
  all_count P f n zero top le h = λ j d l. absurd (omega (arith, l))
  all_count P f n (suc k) top le h = All-cons P (f n) (map f (count_up (suc n) k)) (h n (omega (arith, le))) (all_count P f (suc n) k top (omega (arith, le)) h)

  -- a run of k numbers has k values
  pub length_count : (f : ℕ → X) (n k : ℕ) → length (map f (count_up n k)) ≡ k
  length_count f n zero = refl
  length_count f n (suc k) = ap suc (length_count f (suc n) k)

-- the items of one more receiver are after those of the others
pub received_push : (os : List LaneOut) (o : LaneOut) → all_received (os ++ o ∷ []) ≡ all_received os ++ received_by o
received_push [] o = append-nil (received_by o)
received_push (p ∷ os) o = ap (λ (l : List Verdicted). received_by p ++ l) (received_push os o) ∙ sym (append_assoc (received_by p) (all_received os) (received_by o))

-- the items of one more sender are after those of the others
pub sent_push : (is : List LaneIn) (i : LaneIn) → all_sent (is ++ i ∷ []) ≡ all_sent is ++ sent_by i
sent_push [] i = append-nil (sent_by i)
sent_push (j ∷ is) i = ap (λ (l : List Verdicted). sent_by j ++ l) (sent_push is i) ∙ sym (append_assoc (sent_by j) (all_sent is) (sent_by i))

module _ {X : Type 0} (P : X → Type 0) where
  -- what holds of all elements holds of the front ones
  pub all_front : (xs ys : List X) → All P (xs ++ ys) → All P xs
  all_front [] ys h k d l = absurd (omega (arith, l))
  all_front (x ∷ xs) ys h zero d l = h 0 d (omega arith)
  all_front (x ∷ xs) ys h (suc k) d l = all_front xs ys (λ i e m. h (suc i) e (omega (arith, m))) k d (omega (arith, l))

  -- what holds of all elements holds of the last
  pub all_last : (xs : List X) (x : X) → All P (xs ++ x ∷ []) → P x
  all_last [] x h = h 0 x (omega arith)
  all_last (z ∷ zs) x h = all_last zs x (λ k d l. h (suc k) d (omega (arith, l)))
