-- A fault's place, counted from the front.
use Rattle.std.proofs.Common.{◌≡◌, ◌≤◌, ◌-◌, arith, ℕ, List, length, ◌∙◌, ap, subst, sym, refl}
use Rattle.std.specs.Prelude.{Result, Err}
use Rattle.ix_cbor.specs.declared.fault.CborKind.{CborKind}
use Rattle.ix_cbor.specs.declared.fault.CborFault.{CborFault}
use Rattle.ix_cbor.specs.declared.fault.CborKind.TheVariants.{Memory}
use Rattle.ix_cbor.specs.Data.{Data}
use Rattle.ix_cid.specs.Bytes.{AreBytes}
use Rattle.ix_cbor.specs.Reading.{Fault, decoded}
use Rattle.ix_cbor.specs.Gives.{FailsAs, IsFirstAs}
use Rattle.ix_cbor.proofs.Faults.{decoded-fault}
use Rattle.ix_cbor.specs.Answered.{LiesWithin, placed}

-- where a definition's faults lie within n bytes, a call fails within them
pub lies_within : (kind : CborKind) (left n : ℕ) (r : Result Data Fault) → ((f : Fault) → r ≡ Err f → f.left ≤ n) → FailsAs kind left r → LiesWithin kind left n
lies_within Memory left n r within fails = tt
lies_within kind left n r within fails = within _ fails

-- as many bytes are left after the place, counted from the front
pub same_left : {A : Type 0} (kind : CborKind) (left n place : ℕ) (r : Result A Fault) → left ≤ n → place ≡ n - left → r ≡ Err (record { kind = kind; left = left }) → (place ≤ n) × (r ≡ Err (record { kind = kind; left = n - place }))
same_left kind left n place r h e fails =
    let same : left ≡ n - place = omega arith in
    (omega arith, fails ∙ ap (λ l. Err (record { kind = kind; left = l })) same)

-- the same fault with its place counted from the front
pub placed_fails : (kind : CborKind) (left n place : ℕ) (r : Result Data Fault) → LiesWithin kind left n → place ≡ placed kind left n → FailsAs kind left r → (place ≤ n) × FailsAs kind (n - place) r
placed_fails Memory left n place r h e fails = (omega arith, tt)
placed_fails kind left n place r h e fails = same_left _ left n place r h e fails

-- the error of a call is the first one, or `Memory` at offset 0
pub first_placed : (kind : CborKind) (b : List ℕ) (left place : ℕ) → AreBytes b → LiesWithin kind left (length b) → place ≡ placed kind left (length b) → FailsAs kind left (decoded b) → IsFirstAs b kind place
first_placed Memory b left place bytes h e fails = e
first_placed kind b left place bytes h e fails =
    let same = same_left _ left (length b) place (decoded b) h e fails in
    (same.0, decoded-fault b _ bytes same.1)

-- the answer of a call whose fault is placed from the front
pub answered : {A : Type 0} (n : ℕ) (r : Result A Fault) (kind : CborKind) (left : ℕ) (e : CborFault) → left ≤ n → e ≡ record { kind = kind; place = n - left } → r ≡ Err (record { kind = kind; left = left })
    → (e.place ≤ n) × (r ≡ Err (record { kind = e.kind; left = n - e.place }))
answered n r kind left e h is fails =
    subst (λ (f : CborFault). (f.place ≤ n) × (r ≡ Err (record { kind = f.kind; left = n - f.place }))) (sym is) (same_left kind left n (n - left) r h refl fails)
