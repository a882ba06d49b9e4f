-- The line that the program prints for an error of a have-list.
use Rattle.std.specs.Prelude.{ℕ, List, ◌++◌, codes}
use Rattle.std.specs.Fmt.{decimal}
use Rattle.ix_jobs.specs.declared.list_fault.ListErrorKind.{ListErrorKind}
use Rattle.ix_jobs.specs.declared.list_fault.ListErrorKind.TheVariants.{Text, Cid, Memory}
use Rattle.ix_jobs.specs.declared.list_fault.ListFault.{ListFault}

-- the words for what is wrong with a line
abbrev pub fault_words : ListErrorKind → List ℕ
fault_words Text = codes "text"
fault_words Cid = codes "cid"
fault_words Memory = codes "memory"

abbrev pub line_of : ListFault → List ℕ
line_of f = codes "known: " ++ (fault_words f.kind ++ (codes " at line " ++ decimal f.line))
