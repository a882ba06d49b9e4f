-- The paths of the visits of a job.
use Rattle.std.specs.Prelude.{◌≡◌, ℕ, List, [], ◌∷◌, ◌++◌, Option, Some, IfSome, slice_get, string_bytes, String}
use Rattle.std.specs.Global.{Global, Vec}
use Rattle.std.specs.List.{AllByRecursion, Contains}
use Rattle.ix_cbor.specs.Data.{Data, link}
use Rattle.ix_selector.specs.Enters.{Path}
use Rattle.ix_store.specs.Store.{Blocks, value_of}
use Rattle.ix_path.specs.Path.{segments_view}
use Rattle.ix_walk.specs.declared.visit.Visit.{Visit}
use Rattle.ix_walk.specs.JobMeaning.{JobMeaning}
use Rattle.ix_walk.specs.Visits.{visits_of}
use Rattle.ix_trace.specs.declared.tracer.Inside.{Inside}
use Rattle.ix_trace.specs.declared.tracer.Level.{Level}
use Rattle.ix_trace.specs.Leads.{LeadsWithin, Leads}
use Rattle.ix_trace.specs.Links.{steps_to}
use Rattle.ix_trace.specs.Segments.{segments_of}
use Rattle.ix_trace.specs.Text.{path_text}

-- ---- what is promised

-- the text is that of a path from a root of the job to this CID
pub record IsPathTo (store : Blocks) (job : JobMeaning) (c : List ℕ) (text : List ℕ) : Type 0 where
  pub root : List ℕ
  pub path : Path
  pub of_job : Contains job.roots root
  pub leads : Leads store root path c
  pub spelled : text ≡ path_text root (segments_of path)

-- the same of the CID of the visit of the job that has this number
abbrev pub IsPathOfVisit : Blocks → JobMeaning → ℕ → String Global → Type 0
IsPathOfVisit store job n text = (v : Visit) × (slice_get (visits_of store 0 job) n ≡ Some v) × IsPathTo store job v.cid (string_bytes text)

-- the paths, as far as they are known, are those of the visits with these numbers, in order, or of the first of them
abbrev pub ArePaths : Blocks → JobMeaning → List ℕ → List (Option (String Global)) → Type 0
ArePaths store job numbers [] = Unit {0}
ArePaths store job [] (o ∷ paths) = ⊥
ArePaths store job (n ∷ numbers) (o ∷ paths) = IfSome o (IsPathOfVisit store job n) × ArePaths store job numbers paths

-- ---- on the way

-- in the data of a CID these steps lead to a link to another one
pub record LeadsOn (store : Blocks) (c : List ℕ) (q : Path) (b : List ℕ) : Type 0 where
  pub content : Data
  pub is_content : value_of store c ≡ Some content
  pub leads : LeadsWithin content q (link b)

-- each link that was found is in the data of the CID, where the steps to it lead
abbrev pub IsInside : Blocks → Inside → Type 0
IsInside store i = AllByRecursion (λ l. LeadsOn store i.cid (steps_to i.expansion.steps.items l.node) l.cid) i.expansion.links.items

abbrev pub IsKept : Blocks → Level → Type 0
IsKept store level = IfSome level.inside (IsInside store)

abbrev pub AreKept : Blocks → List Level → Type 0
AreKept store levels = AllByRecursion (IsKept store) levels

-- steps lead from a CID to a link in its data, and their segments are appended to others
abbrev pub GoesOn : Blocks → List ℕ → List ℕ → Vec (Vec ℕ) → Vec (Vec ℕ) → Type 0
GoesOn store c b old new = (q : Path) × LeadsOn store c q b × (segments_view new ≡ segments_view old ++ segments_of q)

-- a path leads from a CID to another one, and its segments are appended to others
abbrev pub GoesDown : Blocks → List ℕ → List ℕ → Vec (Vec ℕ) → Vec (Vec ℕ) → Type 0
GoesDown store root c old new = (p : Path) × Leads store root p c × (segments_view new ≡ segments_view old ++ segments_of p)
