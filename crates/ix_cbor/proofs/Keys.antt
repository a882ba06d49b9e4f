-- Keys: what is read is a text above the key before, and such a text is read again.
use Rattle.std.proofs.Common.{◌≡◌, ℕ, ◌^◌, ◌<◌, true, cond, List, ◌++◌, length, refl, ◌∙◌, ap, subst}
use Rattle.std.specs.Prelude.{Option, Some, None, Ok}
use Rattle.std.specs.Ordering.{is_lt, ordering_then}
use Rattle.std.specs.declared.cmp.Ordering.{Ordering}
use Rattle.std.specs.declared.cmp.Ordering.TheVariants.{Less, Equal, Greater}
use Rattle.std.specs.Cmp.{IsTotalOrder}
use Rattle.std.proofs.lemmas.Cmp.{then_total, on_total, nat_cmp_total, nat_list_cmp_total}
use Rattle.std.proofs.lemmas.Map.Lookups.{exact_bytes}
use Rattle.ix_cbor.specs.declared.fault.CborKind.TheVariants.{KeyKind, KeyOrder}
use Rattle.ix_cbor.specs.Data.{Data, Entries, entry}
use Rattle.ix_cbor.specs.Spelling.{key_spelling, key_cmp}
use Rattle.ix_cbor.specs.Reading.{Fault, ◌>>=◌, fails, string_of_major, rises, key_at}
use Rattle.ix_cbor.specs.Fits.{RisesAbove}
use Rattle.ix_cbor.proofs.Bytes.{IsBytes}
use Rattle.ix_cbor.proofs.Steps.{bind_ok, ok_same, past_guard}
use Rattle.ix_cbor.proofs.Strings.{string_taken, string_again}

-- a key that was read
pub record KeyTaken (before : Option (List ℕ)) (b k rest : List ℕ) : Type 0 where
  pub parts : b ≡ key_spelling k ++ rest
  pub below : length k < 2 ^ 64
  pub above : rises before k ≡ true

-- another item where a key should be
abbrev key_fault : List ℕ → Fault
key_fault at = record { kind = KeyKind; left = length at }

-- what is read is spelled so
pub key_taken : (before : Option (List ℕ)) (b k rest : List ℕ) → IsBytes b → key_at before b ≡ Ok (k, rest) → KeyTaken before b k rest
key_taken before b k rest fits e =
    let a = bind_ok (string_of_major 3 (λ at. fails KeyKind at) b) (λ k. cond (rises before k.0) (Ok k) (fails KeyOrder b)) (k, rest) e in
    let t = past_guard (rises before a.0.0) (record { kind = KeyOrder; left = length b }) (Ok a.0) (k, rest) a.2 in
    let s = string_taken 3 key_fault b a.0.0 a.0.1 fits a.1 in
    subst (λ (x : List ℕ × List ℕ). KeyTaken before b x.0 x.1) (ok_same a.0 (k, rest) t.1) (record { parts = s.parts; below = s.below; above = t.0 })

-- what is spelled so is read
pub key_again : (before : Option (List ℕ)) (k rest : List ℕ) → length k < 2 ^ 64 → rises before k ≡ true → key_at before (key_spelling k ++ rest) ≡ Ok (k, rest)
key_again before k rest below above =
    let b = key_spelling k ++ rest in
    ap (λ x. x >>= (λ k. cond (rises before k.0) (Ok k) (fails KeyOrder b))) (string_again 3 key_fault k rest below) ∙ ap (λ t. cond t (Ok (k, rest)) (fails KeyOrder b)) above

-- the test of an order
pub less_from_test : (o : Ordering) → is_lt o ≡ true → o ≡ Less
less_from_test Less e = refl
less_from_test Equal e = absurd cc
less_from_test Greater e = absurd cc

-- the test says what the relation says
pub RisesFrom-from_test : (before : Option (List ℕ)) (k : List ℕ) (d : Data) (es : Entries) → rises before k ≡ true → RisesAbove before (entry k d es)
RisesFrom-from_test None k d es e = tt
RisesFrom-from_test (Some before) k d es e = less_from_test (key_cmp before k) e

-- the relation says what the test says
pub rises_at : (before : Option (List ℕ)) (k : List ℕ) (d : Data) (es : Entries) → RisesAbove before (entry k d es) → rises before k ≡ true
rises_at None k d es h = refl
rises_at (Some before) k d es h = ap is_lt h

-- ---- the order of keys

-- it is a total one
pub key_total : IsTotalOrder key_cmp
key_total = then_total (on_total length nat_cmp_total) nat_list_cmp_total

-- an order by two keys is equal only if the second is
second_equal : (o q : Ordering) → ordering_then o q ≡ Equal → q ≡ Equal
second_equal Less q h = absurd cc
second_equal Equal q h = h
second_equal Greater q h = absurd cc

-- keys that compare as equal are one
pub key_exact : (a b : List ℕ) → key_cmp a b ≡ Equal → a ≡ b
key_exact a b h = exact_bytes a b (second_equal _ _ h)

-- an ordering isn't both
pub less_not_equal : Less ≡ Equal → ⊥
less_not_equal e = cc
