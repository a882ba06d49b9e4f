-- A CID that takes up all bytes in which it is read is these bytes.
use Rattle.std.proofs.Common.{◌≡◌, ℕ, ◌-◌, Bool, true, false, not, List, length, take, ◌++◌, [], ◌∷◌, Result, Ok, Err, refl, sym, ap, ◌∙◌, subst, arith}
use Rattle.std.proofs.lemmas.List.{take_all}
use Rattle.ix_cid.specs.declared.fault.CidFault.{CidFault}
use Rattle.ix_cid.specs.Cid.{◌>>=◌, Parts, parts_at, cid_at, IsCid}
use Rattle.ix_cid.proofs.Results.{ok_same}
use Rattle.ix_store.specs.Store.{Blocks, has_cid, with_block}

-- an error is not a value
err_ok : (f : CidFault) (y : List ℕ × ℕ) → ◌≡◌ {A = Result (List ℕ × ℕ) CidFault} (Err f) (Ok y) → ⊥
err_ok f y e = cc

-- the front of bytes that parse as a CID, with its length
front : (bytes c : List ℕ) (n : ℕ) (r : Result (Parts × List ℕ) CidFault) → ◌>>=◌ {B = List ℕ × ℕ} r (λ p. Ok (take (length bytes - length p.1) bytes, length bytes - length p.1)) ≡ Ok (c, n) → c ≡ take n bytes
front bytes c n (Ok p) e =
    let k = length bytes - length p.1 in
    let same = ok_same (take k bytes, k) (c, n) e in
    ap (λ q. q.0) (sym same) ∙ ap (λ m. take m bytes) (ap (λ q. q.1) same)
front bytes c n (Err f) e = absurd (err_ok f (c, n) e)

-- a CID as long as the bytes is the bytes
pub cid_at-whole : (bytes c : List ℕ) (n : ℕ) → cid_at bytes ≡ Ok (c, n) → n ≡ length bytes → IsCid bytes × (c ≡ bytes)
cid_at-whole bytes c n read all =
    let same : c ≡ bytes = front bytes c n (parts_at bytes) read ∙ (ap (λ m. take m bytes) all ∙ take_all (length bytes) bytes (omega arith)) in
    (read ∙ ap (λ q. Ok q) (λ i. (same i, all i)), same)

-- a new block is last, and one whose CID is there is left out
pub added : (store after : Blocks) (cid c block : List ℕ) → c ≡ cid → true ≡ not (has_cid store c) → after ≡ with_block store (c, block) → (has_cid store cid ≡ false) × (after ≡ store ++ (cid, block) ∷ [])
added store after cid c block same new made = subst (λ d. (has_cid store d ≡ false) × (after ≡ store ++ (d, block) ∷ [])) same (last (has_cid store c) refl new) where
  last : (b : Bool) → has_cid store c ≡ b → true ≡ not b → (has_cid store c ≡ false) × (after ≡ store ++ (c, block) ∷ [])
  last false is n = (is, made ∙ (rw is refl))
  last true is n = absurd (cc)

-- a block under a known CID leaves the store as it is
pub with_block-known : (store after : Blocks) (cid c block : List ℕ) → c ≡ cid → false ≡ not (has_cid store c) → after ≡ with_block store (c, block) → (has_cid store cid ≡ true) × (after ≡ store)
with_block-known store after cid c block same old made = subst (λ d. (has_cid store d ≡ true) × (after ≡ store)) same (there (has_cid store c) refl old) where
  there : (b : Bool) → has_cid store c ≡ b → false ≡ not b → (has_cid store c ≡ true) × (after ≡ store)
  there true is n = (is, made ∙ (rw is refl))
  there false is n = absurd (cc)
