-- What a call that reads the text of a CID returns.
use Rattle.std.specs.Prelude.{◌≡◌, Result, Ok, Err}
use Rattle.ix_cid_text.specs.declared.fault.CidTextFault.{CidTextFault}
use Rattle.ix_cid_text.specs.declared.fault.CidTextFault.TheVariants.{Multibase, TooManyDigits, Digit, Bits, Cid, Memory}

-- the definition gives this error, unless the error is that memory ran out
abbrev pub Fails : {A : Type 0} → CidTextFault → Result A CidTextFault → Type 0
Fails Memory meant = Unit {0}
Fails Multibase meant = meant ≡ Err Multibase
Fails (TooManyDigits base) meant = meant ≡ Err (TooManyDigits base)
Fails (Digit base place) meant = meant ≡ Err (Digit base place)
Fails (Bits base) meant = meant ≡ Err (Bits base)
Fails (Cid fault) meant = meant ≡ Err (Cid fault)

-- the result, seen by view, is what the definition gives, unless memory ran out
abbrev pub Gives : {X A : Type 0} → (X → A) → Result X CidTextFault → Result A CidTextFault → Type 0
Gives view (Ok x) meant = meant ≡ Ok (view x)
Gives view (Err fault) meant = Fails fault meant
