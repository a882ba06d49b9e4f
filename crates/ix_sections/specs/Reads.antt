-- What the parts of reading a CARv1 file return.
use Rattle.std.specs.Prelude.{◌≡◌, ℕ, ◌≤◌, List, length, drop, Result, Ok, Err, IfErr}
use Rattle.ix_sections.specs.Reading.{Fault}
use Rattle.ix_sections.specs.Gives.{FailsAs}
use Rattle.ix_sections.specs.declared.reader.section.FaultAt.{FaultAt}

-- the result of a part that takes no memory, seen by view, is what the definition gives
abbrev pub Reads : {X A : Type 0} → (X → A) → Result X FaultAt → Result A Fault → Type 0
Reads view (Ok x) meant = meant ≡ Ok (view x)
Reads view (Err e) meant = meant ≡ Err (record { kind = e.kind; left = e.left })

-- the same of a part that takes memory, unless it ran out
abbrev pub ReadsOrRunsOut : {X A : Type 0} → (X → A) → Result X FaultAt → Result A Fault → Type 0
ReadsOrRunsOut view (Ok x) meant = meant ≡ Ok (view x)
ReadsOrRunsOut view (Err e) meant = FailsAs e.kind e.left meant

-- these bytes are the end of others
abbrev pub IsEnd : List ℕ → List ℕ → Type 0
IsEnd end bytes = (n : ℕ) × (end ≡ drop n bytes)

-- the offset of the error is within these bytes, if there is one
abbrev pub StandsWithin : {X : Type 0} → Result X FaultAt → List ℕ → Type 0
StandsWithin result bytes = IfErr result (λ fault. fault.left ≤ length bytes)

-- a part that takes memory reads what the definition gives for these bytes, and the offset of an error is within them
abbrev pub ReadsFrom : {X A : Type 0} → (X → A) → (List ℕ → Result A Fault) → List ℕ → Result X FaultAt → Type 0
ReadsFrom view meaning bytes result = ReadsOrRunsOut view result (meaning bytes) × StandsWithin result bytes
