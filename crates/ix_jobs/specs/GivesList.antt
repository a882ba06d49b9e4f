-- The results of calls that read a part of a have-list.
use Rattle.std.specs.Prelude.{◌≡◌, ℕ, Result, Ok, Err}
use Rattle.ix_jobs.specs.declared.list_fault.ListErrorKind.{ListErrorKind}
use Rattle.ix_jobs.specs.declared.list_fault.ListErrorKind.TheVariants.{Memory}
use Rattle.ix_jobs.specs.declared.list_fault.ListFault.{ListFault}

-- lack of memory, or the definition gives this fault
abbrev pub FailsAs : {A E : Type 0} → ListErrorKind → E → Result A E → Type 0
FailsAs Memory fault meant = Unit {0}
FailsAs kind fault meant = meant ≡ Err fault

-- the fault of a list, with its line
abbrev pub IsFaultOf : {A : Type 0} → ListFault → Result A (ListErrorKind × ℕ) → Type 0
IsFaultOf fault meant = FailsAs fault.kind (fault.kind, fault.line) meant

-- the same of a call that takes memory, unless it ran out
abbrev pub Gives : {X A : Type 0} → (X → A) → Result X ListErrorKind → Result A ListErrorKind → Type 0
Gives view (Ok x) meant = meant ≡ Ok (view x)
Gives view (Err kind) meant = FailsAs kind kind meant
