-- The line that the program prints for an error.
use Rattle.std.specs.Prelude.{ℕ, List, ◌++◌, codes}
use Rattle.std.specs.Fmt.{decimal}
use Rattle.ix_cid.specs.FaultWords.{fault_words}
use Rattle.ix_sections.specs.FaultWords as car
use Rattle.ix_jobs.specs.FaultWords as jobs
use Rattle.ix_run.specs.declared.fault.RunFault.{RunFault}
use Rattle.ix_run.specs.declared.fault.RunFault.TheVariants.{Hex, Root, Car, Jobs, Write, Memory}

abbrev pub line_of : RunFault → List ℕ
line_of Hex = codes "input: hex"
line_of (Root f) = codes "root: " ++ fault_words f
line_of (Car f) = codes "blocks: " ++ (car.fault_words f.kind ++ (codes " at " ++ decimal f.place))
line_of (Jobs f) = codes "jobs: " ++ (jobs.fault_words f.kind ++ (codes " at line " ++ decimal f.line))
line_of (Write number) = codes "cannot write job " ++ decimal number
line_of Memory = codes "memory"
