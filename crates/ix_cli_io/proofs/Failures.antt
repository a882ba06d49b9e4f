-- Failures that name a path.
use Rattle.std.proofs.Common.{◌≡◌, refl, ℕ, List, inr}
use Rattle.std.specs.Prelude.{String, string_bytes}
use Rattle.std.specs.Global.{Global}
use Rattle.std.specs.declared.io.Error as io
use Rattle.ix_cli_io.specs.declared.fault.Failure.{Failure}
use Rattle.ix_cli_io.specs.Failure.{Names, NamesFile, WantsMemory}

-- the failure names the path that its text has
pub named : (told : String Global → io.Error → Failure) (path : List ℕ) (name : String Global) (cause : io.Error) → string_bytes name ≡ path → Names told path (told name cause)
named told path name cause same = inr (record { name = name; cause = cause; named = same; told_is = refl })

-- the same for an error other than out of memory, where the failure has one cause
pub named_file : (told : String Global → io.Error → Failure) (path : List ℕ) (name : String Global) (error : io.Error) → string_bytes name ≡ path → (WantsMemory error → ⊥) → ((other : String Global) (cause : io.Error) → told name error ≡ told other cause → cause ≡ error) → NamesFile told path error (told name error)
named_file told path name error same none one = record { names = named told path name error same; memory = λ p. absurd (none p); caused = one }
