-- The rule of claims, for any number of seats.
use Rattle.std.specs.Prelude.{◌≡◌, ℕ, ◌+◌, ◌-◌, ◌≤◌, ◌<◌, nat_lt, List, [], ◌∷◌, ◌++◌, length, slice_get, Option, Some, MatchBool, min}
use mathlib.Core.Option.{some}
use lib.ListN.{get_elem?}
use Rattle.atomic_table.specs.Table.{State, Me}
use Rattle.ix_stages.specs.declared.claim_rule.ClaimView.{ClaimView}
use Rattle.ix_stages.specs.Claims.{times, once_below}
use Rattle.ix_stages.specs.Totals.{total}

module _ {T : Type 0} where
  -- a view of so many seats, with what they know
  abbrev pub claimer : ℕ → ℕ → List T → List ℕ → ℕ → ClaimView T
  claimer parts seats values places refusals = record { parts = parts; seats = seats; values = values; places = places; refusals = refusals }

  -- what is left of a view that was joined into another
  abbrev pub spent : ClaimView T
  spent = claimer 0 0 [] [] 0

  -- what is left of a view when one seat is split off
  abbrev pub one_less : ClaimView T → ClaimView T
  one_less v = claimer (v.parts - 1) v.seats v.values v.places v.refusals

  -- what that seat knows
  abbrev pub one_seat : ClaimView T → ClaimView T
  one_seat v = claimer 1 v.seats v.values [] 0

  -- how one view relates to the values and the word
  pub record FitsClaimer (values : List T) (seats word : ℕ) (v : ClaimView T) : Type 0 where
    pub known : 0 < v.parts → (v.values ≡ values) × (v.seats ≡ seats)
    pub idle : v.parts ≡ 0 → v.places ≡ []
    -- each seat was answered once at most that all are claimed, and only if they were
    pub few : v.refusals ≤ v.parts
    pub over : 0 < v.refusals → length values ≤ word

  -- the invariant of the ticket counter
  pub record IsClaimed (values : List T) (seats : ℕ) (s : State (Option T) (ClaimView T)) : Type 0 where
    -- how many draws there were: at most one for each claim and each such answer
    pub word : ℕ
    pub words_are : s.words ≡ word ∷ []
    pub small : (length values ≤ 1000) × (seats ≤ 64)
    pub bound : word ≤ length values + total (λ v. v.refusals) s.views
    pub counted : total (λ v. v.parts) s.views ≡ seats
    -- the places in all views are the numbers below the word that have a value, each once
    pub once : (x : ℕ) → total (λ v. times x v.places) s.views ≡ once_below x (min word (length values))
    -- a slot that nobody has claimed is at home with its first value
    pub homes : (k : ℕ) (x : T) → word ≤ k → slice_get values k ≡ Some x → get_elem? s.homes k ≡ some (some (Some x))
    pub fits : (by : ℕ) (v : ClaimView T) → get_elem? s.views by ≡ some v → FitsClaimer values seats word v

  -- the view with one more position claimed
  abbrev pub gains : ClaimView T → ℕ → ClaimView T
  gains v n = claimer v.parts v.seats v.values (v.places ++ n ∷ []) v.refusals

  -- the view with one more answer that all are claimed
  abbrev pub refused : ClaimView T → ClaimView T
  refused v = claimer v.parts v.seats v.values v.places (v.refusals + 1)

  -- a number that has a value is gained with its slot; any other is the answer that all are claimed
  abbrev pub Draws : Me (Option T) (ClaimView T) → ℕ → Me (Option T) (ClaimView T) → Type 0
  Draws me n w = MatchBool (nat_lt n (length me.0.values))
      ((x : T) × (slice_get me.0.values n ≡ Some x) × (w ≡ (gains me.0 n, (n, Some x) ∷ me.1)))
      (w ≡ (refused me.0, me.1))

  -- what a view implies of the word: its positions are below it, each once; they are all of those if it has all seats
  pub record Tells (v : ClaimView T) (n : ℕ) : Type 0 where
    pub once : (x : ℕ) → times x v.places ≤ once_below x (min n (length v.values))
    pub all : v.parts ≡ v.seats → (x : ℕ) → times x v.places ≡ once_below x (min n (length v.values))
    pub over : 0 < v.refusals → length v.values ≤ n

  -- a read of the word changes nothing, and returns a word that fits the view
  abbrev pub Looks : Me (Option T) (ClaimView T) → ℕ → Me (Option T) (ClaimView T) → Type 0
  Looks me n w = (w ≡ me) × (0 < me.0.parts → Tells me.0 n)
