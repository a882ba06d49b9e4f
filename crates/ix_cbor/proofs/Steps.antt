-- Readings in turn, and tests, taken apart.
use Rattle.std.proofs.Common.{◌≡◌, ◌⊎◌, inl, inr, refl, ap}
use Rattle.std.specs.Prelude.{ℕ, List, Some, Result, Ok, Err}
pub use Rattle.ix_cid.proofs.Results.{bind_ok, ok_same, past_test, past_guard}
use Rattle.ix_cbor.specs.Data.{Data, Items, Entries, list, map, item, entry}
use Rattle.ix_cbor.specs.Reading.{Fault, Parse, ◌>>=◌, items_at, entries_at}

-- the fault of a reading, or another where there is none
abbrev fault_of : {A : Type 0} → Fault → Result A Fault → Fault
fault_of f (Ok x) = f
fault_of f (Err e) = e

-- a fault is the same whatever the value would have been
err_same : {A B : Type 0} (d e : Fault) → ◌≡◌ {A = Result B Fault} (Err d) (Err e) → ◌≡◌ {A = Result A Fault} (Err d) (Err e)
err_same d e h = ap (λ f. Err f) (ap (fault_of d) h)

-- a fault of two readings in turn is one of the first, or one of the second after the first
pub bind_err : {A B : Type 0} (r : Result A Fault) (f : A → Result B Fault) (e : Fault) → (r >>= f) ≡ Err e → (r ≡ Err e) ⊎ ((x : A) × (r ≡ Ok x) × (f x ≡ Err e))
bind_err (Ok x) f e h = inr (x, refl, h)
bind_err (Err d) f e h = inl (err_same d e h)

-- a fault is no value
pub no_ok : {A P : Type 0} (f : Fault) (y : A) → Err f ≡ Ok y → P
no_ok f y e = absurd cc

-- a value is no fault
pub no_err : {A P : Type 0} (x : A) (f : Fault) → Ok x ≡ Err f → P
no_err x f e = absurd cc

-- a fault that is given
abbrev failed : {A : Type 0} → Fault → Result A Fault
failed f = Err f

-- two faults that are given are one
pub fault_same : {A : Type 0} (f g : Fault) → failed {A = A} f ≡ failed g → f ≡ g
fault_same f g e = cc

-- data that is given
abbrev pub ok_data : Data × List ℕ → Result (Data × List ℕ) Fault
ok_data x = Ok x

-- ---- what members do with what is read

-- a member before others
abbrev pub with_item : Data → Items × List ℕ → Result (Items × List ℕ) Fault
with_item d ds = Ok (item d ds.0, ds.1)

-- the members after one
abbrev pub items_after : Parse Data → ℕ → Data × List ℕ → Result (Items × List ℕ) Fault
items_after read n d = items_at read n d.1 >>= with_item d.0

-- a key and a value before others
abbrev pub with_entry : List ℕ → Data → Entries × List ℕ → Result (Entries × List ℕ) Fault
with_entry k d es = Ok (entry k d es.0, es.1)

-- the entries after a key and its value
abbrev pub entries_after : Parse Data → ℕ → List ℕ → Data × List ℕ → Result (Entries × List ℕ) Fault
entries_after read n k d = entries_at read (Some k) n d.1 >>= with_entry k d.0

-- the value and the entries after a key
abbrev pub value_behind : Parse Data → ℕ → List ℕ × List ℕ → Result (Entries × List ℕ) Fault
value_behind read n k = read k.1 >>= entries_after read n k.0

-- members as a list
abbrev pub as_list : Items × List ℕ → Result (Data × List ℕ) Fault
as_list ds = Ok (list ds.0, ds.1)

-- keys and values as a map
abbrev pub as_map : Entries × List ℕ → Result (Data × List ℕ) Fault
as_map es = Ok (map es.0, es.1)
