-- What is borrowed of an option.
use Rattle.std.proofs.Common.{◌≡◌, refl}
use Rattle.std.specs.Borrow.{Bor}
use Rattle.std.specs.Prelude.{Option, Some, None, option_map}
use Rattle.std.specs.Option.{option_copied}

-- it is the same by either definition
pub map-copied : {A : Type 0} (o : Option (Bor A)) → option_map (λ (x : Bor A). x.now) o ≡ option_copied o
map-copied None = refl
map-copied (Some x) = refl
