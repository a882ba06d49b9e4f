-- What a call that reads the text of a path returns.
use Rattle.std.specs.Prelude.{◌≡◌, Result, Ok, Err}
use Rattle.ix_path.specs.declared.error.PathError.{PathError}
use Rattle.ix_path.specs.declared.error.PathError.TheVariants.{Cid, Escape, TooManySegments, Memory}

-- the definition gives this error, unless the error is that memory ran out
abbrev pub Fails : {A : Type 0} → PathError → Result A PathError → Type 0
Fails Memory meant = Unit {0}
Fails (Cid fault) meant = meant ≡ Err (Cid fault)
Fails (Escape place) meant = meant ≡ Err (Escape place)
Fails (TooManySegments most) meant = meant ≡ Err (TooManySegments most)

-- the result, seen by view, is what the definition gives, unless memory ran out
abbrev pub Gives : {X A : Type 0} → (X → A) → Result X PathError → Result A PathError → Type 0
Gives view (Ok x) meant = meant ≡ Ok (view x)
Gives view (Err error) meant = Fails error meant
