-- The words for what is wrong with a line of a job file.
use Rattle.std.specs.Prelude.{ℕ, List, codes}
use Rattle.ix_jobs.specs.declared.fault.JobErrorKind.{JobErrorKind}
use Rattle.ix_jobs.specs.declared.fault.JobErrorKind.TheVariants.{Fields, Name, Root, Limit, Hex, Selector, Repeated, TooMany, Text, Memory}

abbrev pub fault_words : JobErrorKind → List ℕ
fault_words Fields = codes "fields"
fault_words Name = codes "name"
fault_words Root = codes "root"
fault_words Limit = codes "limit"
fault_words Hex = codes "hex"
fault_words Selector = codes "selector"
fault_words Repeated = codes "repeated"
fault_words TooMany = codes "too many"
fault_words Text = codes "text"
fault_words Memory = codes "memory"
