-- A file that is read.
use Rattle.std.proofs.Common.{◌≡◌, ℕ, Bool, List, length, ap}
use Rattle.std.specs.Prelude.{Result, Ok, Err, IsOkAnd}
use Rattle.ix_store.specs.Store.{Blocks}
use Rattle.ix_sections.specs.Reading.{Fault, ◌>>=◌}
use Rattle.ix_sections.specs.declared.files.loader.Copies.{Copies}
use Rattle.ix_sections.specs.Files.{placed, payload_by, with_car, part_of, with_file}

-- what is read is the CARv1 file in the file
pub with_file-by : (carv2 : Bool) (copies : Copies) (read : Blocks) (b : List ℕ) (p : ℕ × ℕ) → payload_by carv2 b ≡ Ok p → with_file carv2 copies read b ≡ placed p.1 (with_car copies read (part_of b p))
with_file-by carv2 copies read b p is = ap (λ (r : Result (ℕ × ℕ) Fault). placed (length b) r >>= (λ q. placed q.1 (with_car copies read (part_of b q)))) is

-- what holds of what was read holds of it at its place
pub placed-IsOkAnd : {A : Type 0} (size : ℕ) (P : A → Type 0) (r : Result A Fault) → IsOkAnd r P → IsOkAnd (placed size r) P
placed-IsOkAnd size P (Ok x) h = h
placed-IsOkAnd size P (Err f) h = h
