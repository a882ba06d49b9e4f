-- What a call that reads a CARv1 file returns.
use Rattle.std.specs.Prelude.{◌≡◌, ℕ, ◌-◌, ◌≤◌, List, length, Result, Ok, Err}
use Rattle.ix_sections.specs.declared.fault.CarKind.{CarKind}
use Rattle.ix_sections.specs.declared.fault.CarKind.TheVariants.{Memory}
use Rattle.ix_sections.specs.declared.fault.CarFault.{CarFault}
use Rattle.ix_sections.specs.Reading.{Fault}

-- memory ran out, or the definition gives this error
abbrev pub FailsAs : {A : Type 0} → CarKind → ℕ → Result A Fault → Type 0
FailsAs Memory left meant = Unit {0}
FailsAs kind left meant = meant ≡ Err (record { kind = kind; left = left })

-- the error of a file, whose offset is counted from the start
abbrev pub IsFaultOf : {A : Type 0} → List ℕ → CarFault → Result A Fault → Type 0
IsFaultOf b e meant = (e.place ≤ length b) × FailsAs e.kind (length b - e.place) meant

-- the result for this file, seen by view, is what the definition gives, unless memory ran out
abbrev pub Gives : {X A : Type 0} → (X → A) → List ℕ → Result X CarFault → Result A Fault → Type 0
Gives view b (Ok x) meant = meant ≡ Ok (view x)
Gives view b (Err e) meant = IsFaultOf b e meant
