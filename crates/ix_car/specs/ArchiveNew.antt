-- Why an archive could not be created.
use Rattle.std.specs.Prelude.{◌≡◌, ℕ, List, [], Option, Some}
use Rattle.ix_car.specs.declared.fault.ArchiveNew.{ArchiveNew}
use Rattle.ix_car.specs.declared.fault.ArchiveNew.TheVariants.{Write, Memory}
use Rattle.ix_car.specs.ArchiveMeaning.{TookPartOfHeader}

-- A writer that had no bytes took a part of the header and not the whole, or memory ran out and the writer is unchanged.
abbrev pub IsNoArchive : {W : Type 0} → (W → Option (List ℕ)) → W → List (List ℕ) → ArchiveNew W → Type 0
IsNoArchive told before roots (Write after) = told before ≡ Some [] → TookPartOfHeader (told after) roots
IsNoArchive told before roots (Memory after) = after ≡ before
