-- Blocks by their places, and whether they decode.
use Rattle.std.proofs.Common.{◌≡◌, ℕ, suc, ◌+◌, ◌-◌, ◌<◌, ◌≤◌, Bool, true, false, List, [], ◌∷◌, length, map, get_or, option_map, refl, sym, ◌∙◌, ap, arith}
use Rattle.std.specs.Prelude.{Some, None, Result, Ok, Err, bytes_eq, slice_get, is_none, if◌then◌else◌}
use Rattle.std.specs.Result.{is_err}
use Rattle.std.proofs.lemmas.Option.{same_Some, get_or_from_slice_get, slice_get-map, slice_get-get_or}
use Rattle.ix_cbor.specs.declared.fault.CborFault.{CborFault}
use Rattle.ix_cbor.specs.Data.{Data}
use Rattle.ix_cbor.specs.Reading.{Fault, ◌>>=◌, decoded, data_at}
use Rattle.ix_cbor.specs.Fronts.{judged, Answers}
use Rattle.ix_cbor.proofs.Steps.{bind_ok}
use Rattle.ix_store.specs.Store.{Blocks, block_of, position_after, position_of}
use Rattle.ix_store.specs.Memo.{is_malformed}

-- a CID without a position has no block
pub none_behind : (n : ℕ) (store : Blocks) (c : List ℕ) → None ≡ position_after n store c → block_of store c ≡ None
none_behind n [] c e = refl
none_behind n (x ∷ xs) c e =
    elim (bytes_eq x.0 c) as (λ b. None ≡ (if b then Some n else position_after (n + 1) xs c) → (if b then Some x.1 else block_of xs c) ≡ None)
    [ true ↦ (λ h. cc) | false ↦ (λ h. none_behind (n + 1) xs c h) ] e

-- the block of a CID is the one at its position
pub some_after : (n place : ℕ) (store : Blocks) (c : List ℕ) → Some place ≡ position_after n store c → (n ≤ place) × (place < n + length store) × (block_of store c ≡ slice_get (map (λ e. e.1) store) (place - n))
some_after n place [] c e = cc
some_after n place (x ∷ xs) c e =
    elim (bytes_eq x.0 c) as (λ b. Some place ≡ (if b then Some n else position_after (n + 1) xs c)
    → (n ≤ place) × (place < n + length (x ∷ xs)) × ((if b then Some x.1 else block_of xs c) ≡ slice_get (x.1 ∷ map (λ e. e.1) xs) (place - n))) [
      | true ↦ (λ h. let p : place ≡ n = cc in let z : place - n ≡ 0 = omega arith in
          (omega arith, omega arith, ap (λ (k : ℕ). slice_get (x.1 ∷ map (λ e. e.1) xs) k) (sym z)))
      | false ↦ (λ h. let more = some_after (n + 1) place xs c h in let s : place - n ≡ suc (place - (n + 1)) = omega arith in
          (omega arith, omega arith, more.2 ∙ ap (λ (k : ℕ). slice_get (x.1 ∷ map (λ e. e.1) xs) k) (sym s)))
    ] e

-- a place is within the store
pub place_within : (place : ℕ) (store : Blocks) (c : List ℕ) → Some place ≡ position_of store c → place < length store
place_within place store c e = let h = some_after 0 place store c e in omega (arith, h.1)

-- the block of a CID is the one at its place
pub block_at : (place : ℕ) (store : Blocks) (c : List ℕ) (b : List ℕ) → Some place ≡ position_of store c → slice_get (map (λ e. e.1) store) place ≡ Some b → block_of store c ≡ Some b
block_at place store c b e g =
    let h = some_after 0 place store c e in
    let z : place - 0 ≡ place = omega arith in
    h.2 ∙ ap (λ (k : ℕ). slice_get (map (λ x. x.1) store) k) z ∙ g

-- bytes are faulty where they don't decode
pub faulty_not : (b : List ℕ) (d : Data) → decoded b ≡ Ok d → is_none (data_at b) ≡ false
faulty_not b d g = rw g refl

-- if decoding fails, there are no data
pub faulty_yes : (b : List ℕ) (f : Fault) → decoded b ≡ Err f → is_none (data_at b) ≡ true
faulty_yes b f g = rw g refl

-- dropping the value of a result keeps its error
unspelled : (r : Result Data Fault) (f : Fault) → ◌>>=◌ {B = Unit {0}} r (λ d. Ok tt) ≡ Err f → (g : Fault) × (r ≡ Err g)
unspelled (Ok d) f e = absurd cc
unspelled (Err g) f e = (g, refl)

-- what the check of bytes says
pub fault_is : (b : List ℕ) (r : Result (Unit {0}) CborFault) → Answers (λ _. tt) b r (judged b) → is_err r ≡ is_none (data_at b)
fault_is b (Ok t) h = let d = bind_ok (decoded b) (λ d. Ok tt) tt h in sym (faulty_not b d.0 d.1)
fault_is b (Err e) h = let g = unspelled (decoded b) _ h.1 in sym (faulty_yes b g.0 g.1)

-- whether the block at a place is faulty
pub fault_of : (store : Blocks) (place : ℕ) (b : List ℕ) (r : Bool) → place < length store → slice_get (map (λ e. e.1) store) place ≡ Some b → r ≡ get_or (map is_malformed store) place false → r ≡ is_none (data_at b)
fault_of store place b r within at asked =
    let p : List ℕ × List ℕ = get_or store place ([], []) in
    let there : slice_get store place ≡ Some p = slice_get-get_or store place ([], []) within in
    let same : p.1 ≡ b = same_Some p.1 b (ap (option_map (λ (e : List ℕ × List ℕ). e.1)) (sym there) ∙ sym (slice_get-map (λ (e : List ℕ × List ℕ). e.1) store place) ∙ at) in
    asked ∙ get_or_from_slice_get (map is_malformed store) place (is_malformed p) false (slice_get-map is_malformed store place ∙ ap (option_map is_malformed) there) ∙ ap (λ (l : List ℕ). is_none (data_at l)) same
