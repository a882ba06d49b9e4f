-- The CID of a section, where it lies in the file.
use Rattle.std.proofs.Common.{◌≡◌, ℕ, ◌-◌, ◌≤◌, List, length, take, sym, ◌∙◌, ap, subst, arith}
use Rattle.std.specs.Prelude.{Ok}
use Rattle.ix_cid.specs.Cid.{◌>>=◌ as ◌and_then◌, parts_at, cid_at, IsCid}
use Rattle.ix_cid.proofs.Results.{ok_same, bind_ok}
use Rattle.ix_cid.proofs.Cids.{IsCid-from_parts}

-- so many bytes at the front are the CID there
pub record HasCidOf (b : List ℕ) (n : ℕ) : Type 0 where
  pub within : n ≤ length b
  pub is : IsCid (take n b)
  pub read : cid_at b ≡ Ok (take n b, n)

-- where the length of a CID is read, it is there
pub has_cid : (b : List ℕ) (n : ℕ) → (cid_at b and_then (λ r. Ok r.1)) ≡ Ok n → HasCidOf b n
has_cid b n e =
    let cid = bind_ok (cid_at b) (λ r. Ok r.1) n e in
    let parts = bind_ok (parts_at b) (λ p. Ok (take (length b - length p.1) b, length b - length p.1)) cid.0 cid.1 in
    let k = length b - length parts.0.1 in
    let same : (take k b, k) ≡ cid.0 = ok_same (take k b, k) cid.0 parts.2 in
    let size : k ≡ n = ap (λ (r : List ℕ × ℕ). r.1) same ∙ ok_same cid.0.1 n cid.2 in
    record {
      within = omega (arith, size);
      is = subst (λ (m : ℕ). IsCid (take m b)) size (IsCid-from_parts b parts.0.0 parts.0.1 parts.1);
      read = cid.1 ∙ ap (λ (r : List ℕ × ℕ). Ok r) (sym same) ∙ ap (λ (m : ℕ). Ok (take m b, m)) size;
    }
