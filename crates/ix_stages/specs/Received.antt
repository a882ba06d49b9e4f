-- What was received, counted.
use Rattle.std.specs.Prelude.{◌≡◌, ℕ, ◌+◌, ◌==◌, cond, List, [], ◌∷◌, ◌++◌, Option, Some, None}
use Rattle.ix_stages.specs.declared.verdicted.Verdicted.{Verdicted}
use Rattle.ix_stages.specs.declared.verdicted.Verdicted.TheVariants.{Checked, Unchecked, Close, Last}
use Rattle.ix_stages.specs.Totals.{total}

-- 1 at the number k
abbrev pub point : ℕ → ℕ → ℕ
point k n = cond (k == n) 1 0

-- 1 for a verdict on the visit n of job j, and else 0
abbrev pub is_checked : ℕ → ℕ → Verdicted → ℕ
is_checked j n (Checked v d) = cond (v.job == j) (point v.seq n) 0
is_checked j n (Unchecked k m) = 0
is_checked j n (Close k m e) = 0
is_checked j n Last = 0

-- 1 for the visit n of job j without a verdict, and else 0
abbrev pub is_unchecked : ℕ → ℕ → Verdicted → ℕ
is_unchecked j n (Checked v d) = 0
is_unchecked j n (Unchecked k m) = cond (k == j) (point m n) 0
is_unchecked j n (Close k m e) = 0
is_unchecked j n Last = 0

-- 1 for a close of job j with the number n, and else 0
abbrev pub is_close : ℕ → ℕ → Verdicted → ℕ
is_close j n (Checked v d) = 0
is_close j n (Unchecked k m) = 0
is_close j n (Close k m e) = cond (k == j) (point m n) 0
is_close j n Last = 0

-- 1 for an item of job j, and else 0
abbrev pub is_of : ℕ → Verdicted → ℕ
is_of j (Checked v d) = cond (v.job == j) 1 0
is_of j (Unchecked k m) = cond (k == j) 1 0
is_of j (Close k m e) = cond (k == j) 1 0
is_of j Last = 0

-- how often each was received, of one job
pub record Tally : Type 0 where
  pub checked : ℕ → ℕ
  pub unchecked : ℕ → ℕ
  pub closes : ℕ → ℕ
  pub count : ℕ

-- the counts of job j among what was received
abbrev pub tally : ℕ → List Verdicted → Tally
tally j got =
    record { checked = λ n. total (is_checked j n) got; unchecked = λ n. total (is_unchecked j n) got; closes = λ n. total (is_close j n) got; count = total (is_of j) got }

-- how often the number n was received
abbrev pub seen : Tally → ℕ → ℕ
seen t n = t.checked n + t.unchecked n + t.closes n

-- x was received besides what was received before; its position among the others is left open
pub record Inserts (x : Verdicted) (got more : List Verdicted) : Type 0 where
  pub before : List Verdicted
  pub after : List Verdicted
  pub got_is : got ≡ before ++ after
  pub more_is : more ≡ before ++ x ∷ after

-- the number of the item's job
abbrev pub job_of : Verdicted → Option ℕ
job_of (Checked v d) = Some v.job
job_of (Unchecked j n) = Some j
job_of (Close j n e) = Some j
job_of Last = None

-- the pairs of job and number that were checked
abbrev pub pairs_of : List Verdicted → List (ℕ × ℕ)
pairs_of [] = []
pairs_of (Checked v d ∷ got) = (v.job, v.seq) ∷ pairs_of got
pairs_of (Unchecked j n ∷ got) = pairs_of got
pairs_of (Close j n e ∷ got) = pairs_of got
pairs_of (Last ∷ got) = pairs_of got
