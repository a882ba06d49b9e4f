-- Readings in turn: what an answer says of each.
use Rattle.std.proofs.Common.{◌≡◌, ℕ, Bool, true, false, cond, Result, Ok, Err, refl, ap}
use Rattle.ix_cid.specs.Cid.{◌>>=◌, as_part}
use Rattle.ix_cid.specs.Gives.{Fails}
use Rattle.ix_cid.specs.declared.fault.VarintFault.{VarintFault}
use Rattle.ix_cid.specs.declared.fault.VarintFault.TheVariants as varints
use Rattle.ix_cid.specs.declared.fault.CidFault.{CidFault}
use Rattle.ix_cid.specs.declared.fault.CidFault.TheVariants.{Truncated, Varint, Version, Memory, Multibase, Base32, Rest}

-- an answer after a test for a fault
pub past_test : {A E : Type 0} (b : Bool) (e : E) (r : Result A E) (x : A) → cond b (Err e) r ≡ Ok x → (b ≡ false) × (r ≡ Ok x)
past_test true e r x h = absurd cc
past_test false e r x h = (refl, h)

-- one answer is the other
pub ok_same : {A E : Type 0} (x y : A) → (let r : Result A E = Ok x in r ≡ Ok y) → x ≡ y
ok_same x y h = cc

-- an answer of two readings in turn is of what the first answered
pub bind_ok : {A B E : Type 0} (r : Result A E) (f : A → Result B E) (y : B) → (r >>= f) ≡ Ok y → (x : A) × (r ≡ Ok x) × (f x ≡ Ok y)
bind_ok (Ok x) f y h = (x, refl, h)
bind_ok (Err e) f y h = absurd cc

-- two readings in turn, where the first answers
pub bind_to : {A B E : Type 0} (r : Result A E) (x : A) (f : A → Result B E) → r ≡ Ok x → (r >>= f) ≡ f x
bind_to {A = A} {B = B} {E = E} r x f e = let next : Result A E → Result B E = λ s. s >>= f in ap next e

-- a varint that is read as a part is read
pub part_ok : (r : Result (ℕ × ℕ) VarintFault) (v : ℕ × ℕ) → as_part r ≡ Ok v → r ≡ Ok v
part_ok (Ok w) v h = ap Ok (cc h)
part_ok (Err varints.Truncated) v h = absurd (cc h)
part_ok (Err varints.TooLong) v h = absurd (cc h)
part_ok (Err varints.NotMinimal) v h = absurd (cc h)

-- an answer after a test for no fault
pub past_guard : {A E : Type 0} (b : Bool) (e : E) (r : Result A E) (x : A) → cond b r (Err e) ≡ Ok x → (b ≡ true) × (r ≡ Ok x)
past_guard true e r x h = (refl, h)
past_guard false e r x h = absurd cc

-- a call fails by the fault that is meant
pub fails_with : {A : Type 0} (e : CidFault) (meant : Result A CidFault) → meant ≡ Err e → Fails e meant
fails_with Memory meant h = tt
fails_with Truncated meant h = h
fails_with Varint meant h = h
fails_with (Version v) meant h = h
fails_with Multibase meant h = h
fails_with Base32 meant h = h
fails_with Rest meant h = h

-- what keeps each fault keeps that a call fails by it
pub fails_along : {A B : Type 0} (e : CidFault) (meant : Result A CidFault) (whole : Result B CidFault) → ((f : CidFault) → meant ≡ Err f → whole ≡ Err f) → Fails e meant → Fails e whole
fails_along Memory meant whole along h = tt
fails_along Truncated meant whole along h = along Truncated h
fails_along Varint meant whole along h = along Varint h
fails_along (Version v) meant whole along h = along (Version v) h
fails_along Multibase meant whole along h = along Multibase h
fails_along Base32 meant whole along h = along Base32 h
fails_along Rest meant whole along h = along Rest h
