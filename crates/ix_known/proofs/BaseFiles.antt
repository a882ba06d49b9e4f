-- A file of a receiver.
use Rattle.std.proofs.Common.{◌≡◌, Bool, List, ℕ, sym, subst}
use Rattle.std.specs.Prelude.{Result, Ok, Err, IfOk, IsOkAnd}
use Rattle.ix_store.specs.Store.{Blocks}
use Rattle.ix_sections.specs.declared.fault.CarFault.{CarFault}
use Rattle.ix_sections.specs.declared.payload.Payload.{Payload}
use Rattle.ix_sections.specs.Payload.{bytes_of}
use Rattle.ix_sections.specs.Reading.{blocks_after}
use Rattle.ix_known.specs.Base.{BaseMeaning, IsOfBase, AddsFile}
use Rattle.ix_sections.specs.declared.files.loader.Copies.TheVariants.{First}
use Rattle.ix_sections.specs.Files.{payload_by}
use Rattle.ix_known.specs.Files.{AddsBaseFile}
use Rattle.ix_sections.proofs.ReadFiles.{with_file-by, placed-IsOkAnd}

-- what is added of the CARv1 file in a file is added of the file
adds-file : (carv2 : Bool) (file : List ℕ) (p : Payload) (old new : BaseMeaning) → payload_by carv2 file ≡ Ok (p.start, p.end) → AddsFile old (bytes_of p file) new → AddsBaseFile carv2 file old new
adds-file carv2 file p old new is h = (
  h.0,
  λ base of. subst (λ (r : Result Blocks CarFault). IsOkAnd r (λ more. IsOfBase new more)) (sym (with_file-by carv2 First base file (p.start, p.end) is))
      (placed-IsOkAnd p.end (λ more. IsOfBase new more) (blocks_after base (bytes_of p file)) (h.1 base of)),
)

-- the same of a result
pub adds-base-file : (carv2 : Bool) (file : List ℕ) (p : Payload) (old : BaseMeaning) (r : Result BaseMeaning CarFault) → payload_by carv2 file ≡ Ok (p.start, p.end)
    → IfOk r (AddsFile old (bytes_of p file)) → IfOk r (AddsBaseFile carv2 file old)
adds-base-file carv2 file p old (Ok new) is h = adds-file carv2 file p old new is h
adds-base-file carv2 file p old (Err e) is h = tt
