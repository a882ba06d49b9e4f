-- Seats are joined one by one.
use Rattle.std.proofs.Common.{◌≡◌, ℕ, suc, All, ◌+◌, ◌<◌, Bool, true, false, ◌||◌, cond, List, [], ◌∷◌, ◌++◌, sym, refl, ap, ◌∙◌, arith, length-append, append_assoc, append-nil}
use Rattle.std.proofs.Math.Bool.{or-false, or_assoc}
use Rattle.ix_stages.specs.declared.claim_rule.ClaimView.{ClaimView}
use Rattle.ix_stages.specs.Claims.{ClaimsMeaning, SeatMeaning, all_places, some_ended}
use Rattle.ix_stages.specs.ClaimsJoined.{with_seat, HasJoined}

-- one more seat: if it or an earlier one was answered that all are claimed, the count of such answers isn't 0
counts : (a b : Bool) (n : ℕ) → (a ≡ true → 0 < n) → (a || b) ≡ true → 0 < n + cond b 1 0
counts true b n h e = let p = h refl in omega (arith, p)
counts false true n h e = omega arith
counts false false n h e = cc

module _ {T : Type 0} where
  -- one more seat adds its positions at the end
  all_places-snoc : (ss : List (SeatMeaning T)) (s : SeatMeaning T) → all_places (ss ++ s ∷ []) ≡ all_places ss ++ s.places
  all_places-snoc [] s = append-nil s.places
  all_places-snoc (x ∷ ss) s = ap (λ l. x.places ++ l) (all_places-snoc ss s) ∙ sym (append_assoc x.places (all_places ss) s.places)

  -- one more seat is one more alternative
  some_ended-snoc : (ss : List (SeatMeaning T)) (s : SeatMeaning T) → some_ended (ss ++ s ∷ []) ≡ (some_ended ss || s.ended)
  some_ended-snoc [] s = or-false s.ended
  some_ended-snoc (x ∷ ss) s = ap (λ b. x.ended || b) (some_ended-snoc ss s) ∙ sym (or_assoc x.ended (some_ended ss) s.ended)

  -- the loop's step: joining one more seat
  pub joined_more : (c : ClaimsMeaning T) (ss : List (SeatMeaning T)) (v : ClaimView T) (s : SeatMeaning T) → s.of ≡ c → HasJoined c ss v → HasJoined c (ss ++ s ∷ []) (with_seat v s)
  joined_more c ss v s is h = record {
    parts = (let a = h.parts in let b = length-append ss (s ∷ []) in omega (arith, a, b));
    places = ap (λ (l : List ℕ). l ++ s.places) h.places ∙ sym (all_places-snoc ss s);
    known = λ _. (ap (λ (c : ClaimsMeaning T). c.values) is, ap (λ (c : ClaimsMeaning T). c.seats) is);
    over = λ e. counts (some_ended ss) s.ended v.refusals h.over (sym (some_ended-snoc ss s) ∙ e);
  }

-- what holds of all holds of the element after the first ones
pub all_after : {X : Type 0} (P : X → Type 0) (xs : List X) (x : X) (ys : List X) → All P (xs ++ x ∷ ys) → P x
all_after P [] x ys h = h 0 x (omega arith)
all_after P (z ∷ zs) x ys h = all_after P zs x ys (λ k d l. h (suc k) d (omega (arith, l)))
