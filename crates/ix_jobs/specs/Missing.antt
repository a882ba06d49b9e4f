-- The skips that are absent, since their blocks may be elsewhere.
use Rattle.std.specs.Prelude.{◌≡◌, ℕ, Bool, not, ◌&&◌, List, [], ◌∷◌, length, bytes_eq}
use Rattle.std.specs.List.{list_any, filter}
use Rattle.ix_cid.specs.Cid.{codec_of}
use Rattle.ix_verdict.specs.Verdict.{is_missing}
use Rattle.ix_walk.specs.JobMeaning.{JobMeaning}
use Rattle.ix_car.specs.declared.archive.Skip.{Skip}
use Rattle.ix_verdict.specs.declared.allow_missing.AllowMissing.{AllowMissing}
use Rattle.ix_verdict.specs.AllowMissing.{allows}
use Rattle.ix_jobs.specs.declared.results.JobResult.{JobResult}

-- whether a CID is that of a root
abbrev pub is_root : JobMeaning → List ℕ → Bool
is_root job cid = list_any (λ root. bytes_eq root cid) job.roots

-- a link to a block that isn't there and may be elsewhere; a root may not
abbrev pub is_absent : AllowMissing → JobMeaning → Skip → Bool
is_absent which job skip = is_missing skip.verdict && (allows which (codec_of skip.cid) && not (is_root job skip.cid))

-- how many skips of a job are absent
abbrev pub absent_count : AllowMissing → JobMeaning → JobResult → ℕ
absent_count which job r = length (filter (is_absent which job) r.skips.items)

-- its other skips
abbrev pub reported_skips : AllowMissing → JobMeaning → List Skip → List Skip
reported_skips which job skips = filter (λ skip. not (is_absent which job skip)) skips

-- the same result without its absent skips
pub record IsReported (which : AllowMissing) (job : JobMeaning) (told left : JobResult) : Type 0 where
  pub end : left.end ≡ told.end
  pub counts : left.counts ≡ told.counts
  pub skips : left.skips.items ≡ reported_skips which job told.skips.items

-- each result without its absent skips, and how many these were
abbrev pub EachReported : AllowMissing → List JobMeaning → List JobResult → List JobResult → List ℕ → Type 0
EachReported which [] told left counts = (left ≡ []) × (counts ≡ [])
EachReported which (job ∷ jobs) [] left counts = (left ≡ []) × (counts ≡ [])
EachReported which (job ∷ jobs) (r ∷ told) [] counts = ⊥
EachReported which (job ∷ jobs) (r ∷ told) (l ∷ left) [] = ⊥
EachReported which (job ∷ jobs) (r ∷ told) (l ∷ left) (n ∷ counts) = IsReported which job r l × (n ≡ absent_count which job r) × EachReported which jobs told left counts
