-- What single calls do.
use Rattle.std.proofs.Common.{◌≡◌, Bool, true, false, sym, ◌∙◌}
use Rattle.std.specs.Prelude.{Result, Ok, Err, OnOk, OnErr, is_err}
use Rattle.std.proofs.lemmas.Bool.{false≢true}

-- what holds where a call is no error
pub at-ok : {T E P : Type 0} (r : Result T E) (b : Bool) → OnOk r P → b ≡ is_err r → b ≡ false → P
at-ok (Ok x) b h e fine = h
at-ok (Err f) b h e fine = absurd (false≢true (sym fine ∙ e))

-- what holds where it is one
pub at-err : {T E P : Type 0} (r : Result T E) (b : Bool) → OnErr r P → b ≡ is_err r → b ≡ true → P
at-err (Ok x) b h e wrong = absurd (false≢true (sym e ∙ wrong))
at-err (Err f) b h e wrong = h
