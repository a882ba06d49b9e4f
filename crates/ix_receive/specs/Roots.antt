-- The roots of an archive that is received.
use Rattle.std.specs.Prelude.{◌≡◌, ℕ, true, false, List}
use Rattle.std.specs.List.{AllByRecursion, Contains}
use Rattle.ix_verdict.specs.Verdict.{passes}
use Rattle.ix_store.specs.Store.{Blocks}
use Rattle.ix_check.specs.Verdict.{verdict_of}
use Rattle.ix_receive.specs.declared.fault.ReceiveFault.{ReceiveFault}
use Rattle.ix_receive.specs.declared.fault.ReceiveFault.TheVariants.{Root, Memory}
use Rattle.ix_verdict.specs.declared.verdict.Verdict.{Verdict}

-- the verdict on each root is Sound or Inline
abbrev pub RootsPass : Blocks → List (List ℕ) → Type 0
RootsPass sections roots = AllByRecursion (λ c. passes (verdict_of sections c) ≡ true) roots

-- a root has this verdict, which is another
pub record IsRootWith (sections : Blocks) (roots : List (List ℕ)) (c : List ℕ) (v : Verdict) : Type 0 where
  pub root : Contains roots c
  pub is : v ≡ verdict_of sections c
  pub other : passes v ≡ false

-- why roots are refused
abbrev pub IsRootRefused : Blocks → List (List ℕ) → ReceiveFault → Type 0
IsRootRefused sections roots (Root c v) = IsRootWith sections roots c v
IsRootRefused sections roots Memory = Unit {0}
IsRootRefused sections roots other = ⊥
