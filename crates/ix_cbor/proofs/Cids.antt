-- Bytes are a CID exactly where the test says so.
use Rattle.std.proofs.Common.{◌≡◌, ℕ, ◌-◌, Bool, true, false, List, length, take, refl, ◌∙◌, ap, subst, arith, take_all, eqb-true, eq-eqb}
use Rattle.std.specs.Prelude.{◌==◌, Result, Ok, Err}
use Rattle.ix_cid.specs.declared.fault.CidFault.{CidFault}
use Rattle.ix_cid.specs.Cid.{Parts, ◌>>=◌, parts_at, cid_at, IsCid}
use Rattle.ix_cbor.specs.Reading.{is_cid}

-- what was found is as long as the whole
abbrev whole_of : List ℕ → Result (List ℕ × ℕ) CidFault → Bool
whole_of c (Ok found) = found.1 == length c
whole_of c (Err e) = false

-- what was found
abbrev found_is : List ℕ × ℕ → Result (List ℕ × ℕ) CidFault
found_is x = Ok x

-- two that were found are one
found_same : (x y : List ℕ × ℕ) → found_is x ≡ found_is y → x ≡ y
found_same x y e = cc

-- what is found is a front, with its length
front_found : (c : List ℕ) (r : Result (Parts × List ℕ) CidFault) (found : List ℕ × ℕ) → (r >>= (λ p. Ok (take (length c - length p.1) c, length c - length p.1))) ≡ Ok found → found.0 ≡ take found.1 c
front_found c (Ok p) found e =
    let k = length c - length p.1 in subst (λ (x : List ℕ × ℕ). x.0 ≡ take x.1 c) (found_same (take k c, k) found e) refl
front_found c (Err f) found e = absurd cc

-- what passes the test is the whole
from_test : (c : List ℕ) (r : Result (List ℕ × ℕ) CidFault) → ((found : List ℕ × ℕ) → r ≡ Ok found → found.0 ≡ take found.1 c) → whole_of c r ≡ true → r ≡ Ok (c, length c)
from_test c (Ok found) front e =
    let long : found.1 ≡ length c = eqb-true found.1 (length c) e in
    let all : found.0 ≡ c = front found refl ∙ take_all found.1 c (omega arith) in
    λ i. Ok (all i, long i)
from_test c (Err f) front e = absurd cc

-- the whole passes the test
to_test : (c : List ℕ) (r : Result (List ℕ × ℕ) CidFault) → r ≡ Ok (c, length c) → whole_of c r ≡ true
to_test c r e = ap (whole_of c) e ∙ eq-eqb (length c) (length c) refl

-- what passes the test is a CID
pub IsCid-from_test : (c : List ℕ) → is_cid c ≡ true → IsCid c
IsCid-from_test c e = from_test c (cid_at c) (front_found c (parts_at c)) e

-- a CID passes the test
pub is_cid_at : (c : List ℕ) → IsCid c → is_cid c ≡ true
is_cid_at c h = to_test c (cid_at c) h
