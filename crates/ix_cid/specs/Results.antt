-- What is read: readings in turn, and what a call that reads returns.
use Rattle.std.specs.Prelude.{◌≡◌, Result, Ok, Err}

-- goes on with a value, or keeps the fault
infixl 10 ◌>>=◌
-- continues with a value, or keeps the error
abbrev pub ◌>>=◌ : {A B E : Type 0} → Result A E → (A → Result B E) → Result B E
(Ok x) >>= f = f x
(Err e) >>= f = Err e

-- the result of a call that allocates nothing, seen by view, is what the definition gives
abbrev pub Reads : {X A E : Type 0} → (X → A) → Result X E → Result A E → Type 0
Reads view (Ok x) meant = meant ≡ Ok (view x)
Reads view (Err e) meant = meant ≡ Err e
