-- Each step keeps the rule of the claims.
use Rattle.std.proofs.Common.{◌≡◌, ℕ, zero, suc, ◌+◌, ◌%◌, ◌^◌, ◌<◌, ◌≤◌, ◌==◌, Bool, true, false, cond, min, List, [], ◌∷◌, ◌++◌, length, map, set, sym, refl, ap, ◌∙◌, subst, arith, Option, Some, MatchBool}
use Rattle.std.specs.Prelude.{slice_get, slice_index, nat_lt}
use Rattle.std.proofs.lemmas.Bool.Decides.{nat_tests}
use mathlib.Core.Option.{some, some-ne-none, none}
use lib.ListN.{get_elem?}
use Rattle.atomic_table.specs.Table.{State, Me, Act, keeps, takes, Valid, stepped, opening, carried_after, Allows, Enters, Splits, Joins}
use Rattle.atomic_table.proofs.Lists.{set_else}
use Rattle.ix_stages.specs.declared.claim_rule.ClaimView.{ClaimView}
use Rattle.ix_stages.specs.ClaimRule.{claimer, spent, one_less, one_seat, FitsClaimer, IsClaimed, gains, refused, Draws, Tells, Looks}
use Rattle.ix_stages.specs.Claims.{times, once_below}
use Rattle.ix_stages.specs.Totals.{total}
use Rattle.ix_stages.specs.Received.{point}
use Rattle.ix_stages.proofs.Totals.{total_set, total_snoc, total_le, part_le, total_of-one, each_set, each_snoc, at_other}

module _ {T : Type 0} where
  -- a list has an element at each position below its length
  value_at : (l : List T) (i : ℕ) → i < length l → (x : T) × (slice_get l i ≡ Some x)
  value_at [] i h = absurd (omega (arith, h))
  value_at (x ∷ xs) zero h = (x, refl)
  value_at (x ∷ xs) (suc i) h = value_at xs i (omega (arith, h))

-- occurrences add up over a concatenation
times-append : (x : ℕ) (xs ys : List ℕ) → times x (xs ++ ys) ≡ times x xs + times x ys
times-append x [] ys = omega arith
times-append x (y ∷ xs) ys = let ih = times-append x xs ys in omega arith

-- and over one more element
times-snoc : (x n : ℕ) (xs : List ℕ) → times x (xs ++ n ∷ []) ≡ times x xs + cond (n == x) 1 0
times-snoc x n xs = let a = times-append x xs (n ∷ []) in omega (arith, a)

-- there is one number more below w + 1, which is w
below_more : (x w : ℕ) → once_below x (w + 1) ≡ once_below x w + point w x
below_more x w = grind (arith, nat_tests)

-- a draw of a number that has a value claims one position more
once_more : (x w m : ℕ) → w < m → once_below x (min (w + 1) m) ≡ once_below x (min w m) + point w x
once_more x w m h =
    let a : min (w + 1) m ≡ w + 1 = omega (arith, h) in
    let b : min w m ≡ w = omega (arith, h) in
    ap (once_below x) a ∙ below_more x w ∙ ap (λ n. once_below x n + point w x) (sym b)

-- a draw past the values claims none
once_same : (x w m : ℕ) → m ≤ w → once_below x (min (w + 1) m) ≡ once_below x (min w m)
once_same x w m h = let e : min (w + 1) m ≡ min w m = omega (arith, h) in ap (once_below x) e

-- the counter doesn't wrap: there are at most 1,000 values and 64 answers that all are claimed
wraps : (n : ℕ) → n ≤ 1064 → (n + 1) % 2 ^ 64 ≡ n + 1
wraps n h = omega arith

-- what follows from either of two follows from their sum
of_either : (a b n w : ℕ) → (0 < a → n ≤ w) → (0 < b → n ≤ w) → 0 < a + b → n ≤ w
of_either zero b n w f g h = g (omega (arith, h))
of_either (suc a) b n w f g h = f (omega arith)

module _ {T : Type 0} (values : List T) (all slots id : ℕ) (me : Me (Option T) (ClaimView T)) (part : 0 < me.0.parts) (first : me.0.refusals ≡ 0) (s : State (Option T) (ClaimView T)) (r : IsClaimed values all s) (at : get_elem? s.views id ≡ some me.0) where
  -- at most 1,000 values are claimed, and each of 64 seats is answered once at most that all are
  word_small : r.word ≤ 1064
  word_small =
      let le = total_le (λ v. v.refusals) (λ v. v.parts) s.views (λ p u e. (r.fits p u e).few) in
      let c = r.counted in
      let b = r.bound in
      let m = r.small in
      omega arith

  -- so the word after a draw is one higher
  next_words : (k : ℕ) → k ≡ r.word → set s.words 0 ((k + 1) % 2 ^ 64) ≡ (r.word + 1) ∷ []
  next_words k e = ap (λ (l : List ℕ). set l 0 ((k + 1) % 2 ^ 64)) r.words_are ∙ ap (λ (n : ℕ). n ∷ []) (ap (λ (n : ℕ). (n + 1) % 2 ^ 64) e ∙ wraps r.word word_small)

  -- a draw below the number of values keeps the invariant, and gains the value in that slot
  gain : (k : ℕ) → k ≡ r.word → k < length values → (x : T) → slice_get values k ≡ Some x → IsClaimed values all (stepped s 0 ((k + 1) % 2 ^ 64) id me.1 (gains me.0 k) (takes k (Some x)))
  gain k e below x is =
      let v = me.0 in
      let w = gains v k in
      let f = r.fits id v at in
      record {
        word = r.word + 1;
        words_are = next_words k e;
        small = r.small;
        bound = (let a = total_set (λ v. v.refusals) s.views id v w at in let b = r.bound in let below' : r.word < length values = (let l = below in omega (arith, l, e)) in omega (arith, a, below'));
        counted = (let a = total_set (λ v. v.parts) s.views id v w at in let b = r.counted in omega (arith, a, b));
        once = λ y. (let a = total_set (λ v. times y v.places) s.views id v w at in let b = r.once y in let t = times-snoc y k v.places in let o = once_more y r.word (length values) (let l = below in omega (arith, l, e)) in let q : cond (k == y) 1 0 ≡ point r.word y = ap (λ (n : ℕ). point n y) e in omega (arith, a, b, t, o, q));
        homes = λ j y le get. (set_else s.homes k j none (λ same. (let l = le in absurd (omega (arith, l, same, e)))) ∙ r.homes j y (omega (arith, le)) get);
        fits = each_set (λ _. FitsClaimer values all (r.word + 1)) s.views id w
            (record { known = f.known; idle = λ z. absurd (omega (arith, part, z)); few = f.few; over = λ o. absurd (omega (arith, o, first)) })
            (λ j u _ at. (let g = r.fits j u at in record { known = g.known; idle = g.idle; few = g.few; over = λ o. (let l = g.over o in omega (arith, l)) }));
      }

  -- a draw past the values keeps the invariant, and counts one more answer that all are claimed
  refuse : (k : ℕ) → k ≡ r.word → length values ≤ k → IsClaimed values all (stepped s 0 ((k + 1) % 2 ^ 64) id me.1 (refused me.0) keeps)
  refuse k e above =
      let v = me.0 in
      let w = refused v in
      let f = r.fits id v at in
      record {
        word = r.word + 1;
        words_are = next_words k e;
        small = r.small;
        bound = (let a = total_set (λ v. v.refusals) s.views id v w at in let b = r.bound in omega (arith, a, b));
        counted = (let a = total_set (λ v. v.parts) s.views id v w at in let b = r.counted in omega (arith, a, b));
        once = λ y. (let a = total_set (λ v. times y v.places) s.views id v w at in let b = r.once y in let o = once_same y r.word (length values) (omega (arith, above, e)) in omega (arith, a, b, o));
        homes = λ j y le get. r.homes j y (omega (arith, le)) get;
        fits = each_set (λ _. FitsClaimer values all (r.word + 1)) s.views id w
            (record { known = f.known; idle = λ z. absurd (omega (arith, part, z)); few = omega (arith, part, first); over = λ o. omega (arith, above, e) })
            (λ j u _ at. (let g = r.fits j u at in record { known = g.known; idle = g.idle; few = g.few; over = λ o. (let l = g.over o in omega (arith, l)) }));
      }

  -- both cases of a draw, by the test that decides between them
  told : (b : Bool) (k : ℕ) → k ≡ r.word → nat_lt k (length values) ≡ b → (w : ClaimView T) × (a : Act (Option T)) × Valid s.homes me.1 a × IsClaimed values all (stepped s 0 ((k + 1) % 2 ^ 64) id me.1 w a)
      × MatchBool b ((x : T) × (slice_get values k ≡ Some x) × (◌≡◌ {A = Me (Option T) (ClaimView T)} (w, carried_after me.1 a) (gains me.0 k, (k, Some x) ∷ me.1))) (◌≡◌ {A = Me (Option T) (ClaimView T)} (w, carried_after me.1 a) (refused me.0, me.1))
  told true k e is =
      let below : k < length values = grind (arith, nat_tests) in
      let x = value_at values k below in
      (gains me.0 k, takes k (Some x.0), r.homes k x.0 (omega (arith, e)) x.1, gain k e below x.0 x.1, (x.0, x.1, refl))
  told false k e is =
      let above : length values ≤ k = grind (arith, nat_tests) in
      (refused me.0, keeps, tt, refuse k e above, refl)

-- a draw is a claim, or the answer that all are claimed
pub draws : {T : Type 0} (values : List T) (all slots id : ℕ) (me : Me (Option T) (ClaimView T)) → 0 < me.0.parts → me.0.refusals ≡ 0 → Allows (IsClaimed values all) slots id me 0 (λ n. (n + 1) % 2 ^ 64) (Draws me)
draws {T} values all slots id me part first s r len at below =
    let k = slice_index s.words 0 in
    let e : k ≡ r.word = ap (λ (l : List ℕ). slice_index l 0) r.words_are in
    let t = told values all slots id me part first s r at (nat_lt k (length values)) k e refl in
    let v : me.0.values ≡ values = ((r.fits id me.0 at).known part).0 in
    let P : List T → Type 0 = λ l. MatchBool (nat_lt k (length l)) ((x : T) × (slice_get l k ≡ Some x) × (◌≡◌ {A = Me (Option T) (ClaimView T)} (t.0, carried_after me.1 t.1) (gains me.0 k, (k, Some x) ∷ me.1))) (◌≡◌ {A = Me (Option T) (ClaimView T)} (t.0, carried_after me.1 t.1) (refused me.0, me.1)) in
    (t.0, t.1, t.2, t.3, subst P (sym v) t.4)

-- what a view implies of the word
view_tells_word : {T : Type 0} (values : List T) (all id : ℕ) (v : ClaimView T) (s : State (Option T) (ClaimView T)) (r : IsClaimed values all s) → get_elem? s.views id ≡ some v → 0 < v.parts → (k : ℕ) → k ≡ r.word → Tells v k
view_tells_word {T} values all id v s r at part k e =
    let f = r.fits id v at in
    let known = f.known part in
    let sum : (x : ℕ) → total (λ v. times x v.places) s.views ≡ once_below x (min k (length v.values)) = λ x. r.once x ∙ (λ i. once_below x (min (sym e i) (length (sym known.0 i)))) in
    record {
      once = λ x. (let a = sum x in let b = part_le (λ v. times x v.places) s.views id v at in omega (arith, a, b));
      all = λ every x. (let a = sum x in
          let c : total (λ v. v.parts) s.views ≡ v.parts = r.counted ∙ sym known.1 ∙ sym every in
          let b = total_of-one (λ v. times x v.places) (λ v. v.parts) s.views id v at c (λ p u at none. ap (times x) ((r.fits p u at).idle none)) in
          omega (arith, a, b));
      over = λ o. (let a = f.over o in let l : length v.values ≡ length values = ap length known.0 in omega (arith, a, l, e));
    }

-- a read changes nothing
pub looks : {T : Type 0} (values : List T) (all slots id : ℕ) (me : Me (Option T) (ClaimView T)) → Allows (IsClaimed values all) slots id me 0 (λ n. n) (Looks me)
looks {T} values all slots id me s r len at below =
    let k = slice_index s.words 0 in
    let e : k ≡ r.word = ap (λ (l : List ℕ). slice_index l 0) r.words_are in
    let v = me.0 in
    let same : (f : ClaimView T → ℕ) → total f (set s.views id v) ≡ total f s.views = λ f. (let a = total_set f s.views id v v at in omega (arith, a)) in (
      v,
      keeps,
      tt,
      record {
        word = r.word;
        words_are = ap (λ (l : List ℕ). set l 0 k) r.words_are ∙ ap (λ (n : ℕ). n ∷ []) e;
        small = r.small;
        bound = (let a = same (λ v. v.refusals) in let b = r.bound in omega (arith, a, b));
        counted = same (λ v. v.parts) ∙ r.counted;
        once = λ x. same (λ v. times x v.places) ∙ r.once x;
        homes = r.homes;
        fits = each_set (λ _. FitsClaimer values all r.word) s.views id v (r.fits id v at) (λ j u _ at. r.fits j u at);
      },
      (refl, λ part. view_tells_word values all id v s r at part k e),
    )

-- a view without seats fits whatever was drawn
fits_spent : {T : Type 0} (values : List T) (all word : ℕ) → FitsClaimer values all word spent
fits_spent values all word = record { known = λ h. absurd (omega (arith, h)); idle = λ h. refl; few = omega arith; over = λ h. absurd (omega (arith, h)) }

-- a new seat knows nothing
pub claims-begin : {T : Type 0} (values : List T) (all slots : ℕ) → Enters (IsClaimed values all) slots 0 (λ n w. ◌≡◌ {A = Me (Option T) (ClaimView T)} (w, []) (spent, []))
claims-begin {T} values all slots s r len below =
    let more : (f : ClaimView T → ℕ) → f spent ≡ 0 → total f (s.views ++ spent ∷ []) ≡ total f s.views = λ f none. (let a = total_snoc f s.views spent in omega (arith, a, none)) in (
      spent,
      record {
        word = r.word;
        words_are = r.words_are;
        small = r.small;
        bound = (let a = more (λ v. v.refusals) refl in let b = r.bound in omega (arith, a, b));
        counted = more (λ v. v.parts) refl ∙ r.counted;
        once = λ x. more (λ v. times x v.places) refl ∙ r.once x;
        homes = r.homes;
        fits = each_snoc (λ _. FitsClaimer values all r.word) s.views spent r.fits (fits_spent values all r.word);
      },
      refl,
    )

-- a view is cut in two, which share out what it has
record IsCut {T : Type 0} (v left right : ClaimView T) : Type 0 where
  parts : left.parts + right.parts ≡ v.parts
  refusals : left.refusals + right.refusals ≡ v.refusals
  places : (x : ℕ) → times x left.places + times x right.places ≡ times x v.places
  fits : (values : List T) (all word : ℕ) → FitsClaimer values all word v → FitsClaimer values all word left × FitsClaimer values all word right

-- a view that is cut in two leaves all sums as they are, so the invariant is kept
splits : {T : Type 0} (values : List T) (all id : ℕ) (v left right : ClaimView T) → IsCut v left right → Splits (IsClaimed values all) id v left right
splits {T} values all id v left right cut s r at =
    let after = set s.views id left ++ right ∷ [] in
    let same : (f : ClaimView T → ℕ) → f left + f right ≡ f v → total f after ≡ total f s.views = λ f e. (let a = total_set f s.views id v left at in let b = total_snoc f (set s.views id left) right in omega (arith, a, b, e)) in
    let f = cut.fits values all r.word (r.fits id v at) in
    record {
      word = r.word;
      words_are = r.words_are;
      small = r.small;
      bound = (let a = same (λ v. v.refusals) cut.refusals in let b = r.bound in omega (arith, a, b));
      counted = same (λ v. v.parts) cut.parts ∙ r.counted;
      once = λ x. same (λ v. times x v.places) (cut.places x) ∙ r.once x;
      homes = r.homes;
      fits = each_snoc (λ _. FitsClaimer values all r.word) (set s.views id left) right (each_set (λ _. FitsClaimer values all r.word) s.views id left f.0 (λ j u _ at. r.fits j u at)) f.1;
    }

-- one seat is split off a view that has claimed nothing
pub deals : {T : Type 0} (values : List T) (all id : ℕ) (v : ClaimView T) → 0 < v.parts → v.places ≡ [] → v.refusals ≡ 0 → Splits (IsClaimed values all) id v (one_less v) (one_seat v)
deals values all id v part fresh first =
    splits values all id v (one_less v) (one_seat v) (record {
      parts = omega (arith, part);
      refusals = omega arith;
      places = λ x. omega arith;
      fits = λ values all word f. (
        record { known = λ h. f.known part; idle = λ h. fresh; few = omega (arith, first); over = λ h. absurd (omega (arith, h, first)) },
        record { known = λ h. f.known part; idle = λ h. refl; few = omega arith; over = λ h. absurd (omega (arith, h)) },
      );
    })

-- a whole view goes to a new seat
pub moves : {T : Type 0} (values : List T) (all id : ℕ) (v : ClaimView T) → Splits (IsClaimed values all) id v spent v
moves values all id v =
    splits values all id v spent v (record { parts = omega arith; refusals = omega arith; places = λ x. omega arith; fits = λ values all word f. (fits_spent values all word, f) })

-- two views become one
pub joins : {T : Type 0} (values : List T) (all id : ℕ) (v : ClaimView T) (other : ℕ) (w : ClaimView T) → 0 < w.parts → Joins (IsClaimed values all) id v other w (claimer (v.parts + w.parts) w.seats w.values (v.places ++ w.places) (v.refusals + w.refusals)) spent
joins {T} values all id v other w part s r at apart beside =
    let both = claimer (v.parts + w.parts) w.seats w.values (v.places ++ w.places) (v.refusals + w.refusals) in
    let f = r.fits id v at in
    let g = r.fits other w (at_other s.views id other both w apart beside) in
    let same : (h : ClaimView T → ℕ) → h spent ≡ 0 → h both ≡ h v + h w → total h (set (set s.views id both) other spent) ≡ total h s.views = λ h none e. (let a = total_set h s.views id v both at in let b = total_set h (set s.views id both) other w spent beside in omega (arith, a, b, none, e)) in
    record {
      word = r.word;
      words_are = r.words_are;
      small = r.small;
      bound = (let a = same (λ v. v.refusals) refl refl in let b = r.bound in omega (arith, a, b));
      counted = same (λ v. v.parts) refl refl ∙ r.counted;
      once = λ x. same (λ v. times x v.places) refl (times-append x v.places w.places) ∙ r.once x;
      homes = r.homes;
      fits = each_set (λ _. FitsClaimer values all r.word) (set s.views id both) other spent (fits_spent values all r.word) (λ j u _ at. each_set (λ _. FitsClaimer values all r.word) s.views id both
          (record { known = λ h. g.known part; idle = λ h. absurd (omega (arith, h, part)); few = (let a = f.few in let b = g.few in omega (arith, a, b)); over = of_either v.refusals w.refusals (length values) r.word f.over g.over })
          (λ j u _ at. r.fits j u at) j u at);
    }

-- in a new table each slot holds its value
homes_at : {T : Type 0} (values : List T) (k : ℕ) (x : T) → slice_get values k ≡ Some x → get_elem? (map some (map Some values)) k ≡ some (some (Some x))
homes_at [] k x e = cc
homes_at (y ∷ ys) zero x e = ap some (ap some e)
homes_at (y ∷ ys) (suc k) x e = homes_at ys k x e

-- the table as it is made
pub opens : {T : Type 0} (values : List T) (all : ℕ) → length values ≤ 1000 → all ≤ 64 → IsClaimed values all (opening (0 ∷ []) (map Some values) (claimer all all values [] 0))
opens values all few seats = record {
  word = 0;
  words_are = refl;
  small = (few, seats);
  bound = omega arith;
  counted = omega arith;
  once = λ x. grind (arith, nat_tests);
  homes = λ k x le is. homes_at values k x is;
  fits = each_snoc (λ _. FitsClaimer values all 0) [] (claimer all all values [] 0) (λ j u e. absurd (some-ne-none u (sym e))) (record { known = λ h. (refl, refl); idle = λ h. refl; few = omega arith; over = λ h. absurd (omega (arith, h)) });
}

-- a draw below the number of values gains the value, by the test that decides it
pub claimed_at : {T : Type 0} (me : Me (Option T) (ClaimView T)) (n : ℕ) (w : Me (Option T) (ClaimView T)) (b : Bool) → nat_lt n (length me.0.values) ≡ b → Draws me n w → n < length me.0.values → (x : T) × (slice_get me.0.values n ≡ Some x) × (w ≡ (gains me.0 n, (n, Some x) ∷ me.1))
claimed_at {T} me n w true is c below = let P : Bool → Type 0 = λ b. MatchBool b ((x : T) × (slice_get me.0.values n ≡ Some x) × (w ≡ (gains me.0 n, (n, Some x) ∷ me.1))) (w ≡ (refused me.0, me.1)) in subst P is c
claimed_at {T} me n w false is c below = let above : length me.0.values ≤ n = grind (arith, nat_tests) in absurd (omega arith)

-- so `claim` finds a value in the slot of the number that it drew
pub claimed_below : {T : Type 0} (me : Me (Option T) (ClaimView T)) (n : ℕ) (w : Me (Option T) (ClaimView T)) → Draws me n w → n < length me.0.values → (x : T) × (slice_get me.0.values n ≡ Some x) × (w ≡ (gains me.0 n, (n, Some x) ∷ me.1))
claimed_below me n w c below = claimed_at me n w (nat_lt n (length me.0.values)) refl c below
