-- The bytes of a link that is read are a CID.
use Rattle.std.proofs.Common.{List, ℕ}
use Rattle.std.specs.Prelude.{IfOk, Result, Ok, Err}
use Rattle.ix_cbor.specs.declared.front.Front.{Front}
use Rattle.ix_cbor.specs.declared.front.Front.TheVariants.{Null, Bool, Int, Bits64, Bytes, Text, Link, List as ListOf, Map}
use Rattle.ix_cbor.specs.declared.read.PlacedFault.{PlacedFault}
use Rattle.ix_cbor.specs.Reading.{own_at}
use Rattle.ix_cbor.specs.Fronts.{own_of_front, HasCid}
use Rattle.ix_cbor.specs.Answered.{Reads}
use Rattle.ix_cbor.proofs.Bytes.{IsBytes}
use Rattle.ix_cbor.proofs.Owns.{IsOwn, own_taken}

-- a front that has a spelling
own_has_cid : (f : Front) → IsOwn (own_of_front f) → HasCid f
own_has_cid Null h = tt
own_has_cid (Bool b) h = tt
own_has_cid (Int n) h = tt
own_has_cid (Bits64 bits) h = tt
own_has_cid (Bytes b) h = tt
own_has_cid (Text t) h = tt
own_has_cid (Link c) h = h.0.1
own_has_cid (ListOf n) h = tt
own_has_cid (Map n) h = tt

-- a front that is read
pub front_has_cid : {X : Type 0} (now : X → List ℕ) (b : List ℕ) (r : Result (Front × X) PlacedFault) → IsBytes b → Reads (λ x. (own_of_front x.0, now x.1)) r (own_at b) → IfOk r (λ x. HasCid x.0)
front_has_cid now b (Ok x) fits e = own_has_cid x.0 (own_taken b (own_of_front x.0) (now x.1) fits e).is_own
front_has_cid now b (Err s) fits e = tt
