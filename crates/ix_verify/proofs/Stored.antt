-- What a store finds of a section whose block it has.
use Rattle.std.proofs.Common.{◌≡◌, ℕ, Bool, true, false, not, List, get_or, sym, ◌∙◌, ap}
use Rattle.std.specs.Prelude.{Option, Some, None, is_some, is_none, map, slice_get, option_map, bytes_eq, if◌then◌else◌}
use Rattle.std.proofs.lemmas.Option.{same_Some, get_or_from_slice_get, slice_get-map}
use Rattle.std.proofs.lemmas.Slice.Eq.{bytes_eq-Decides}
use Rattle.ix_cid.specs.Cid.{parts_of, digest_of, hash_function_of}
use Rattle.ix_cid.specs.declared.hash_function.HashFunction.{HashFunction}
use Rattle.ix_verdict.specs.declared.verdict.Verdict.TheVariants.{Hash, Damaged, Malformed, Sound}
use Rattle.ix_verdict.specs.Verdict.{digest_by, is_no_data}
use Rattle.ix_store.specs.Memo.{hash_matches_by, hash_matches}
use Rattle.ix_store.specs.Store.{Blocks, position_of}
use Rattle.ix_store.proofs.Stores.{pair-there}
use Rattle.ix_verify.specs.Judged.{verdict_by_hash, section_verdict}

-- the pair at the place of a CID, whose bytes are a block
pub pair-here : (store : Blocks) (place : ℕ) (k c b block : List ℕ) → Some place ≡ position_of store k → k ≡ c → slice_get (map (λ e. e.1) store) place ≡ Some b → bytes_eq b block ≡ true → slice_get store place ≡ Some (c, block)
pair-here store place k c b block there named at same =
    let pair = pair-there store place k there in
    let bytes : pair.0 ≡ b = same_Some pair.0 b (sym (slice_get-map (λ (e : List ℕ × List ℕ). e.1) store place ∙ ap (option_map (λ (e : List ℕ × List ℕ). e.1)) pair.1) ∙ at) in
    pair.1 ∙ ap (λ (x : List ℕ). Some (x, pair.0)) named ∙ ap (λ (x : List ℕ). Some (c, x)) (bytes ∙ (bytes_eq-Decides b block).0 same)

-- what is asked of the pair at a place
pub asked-here : {X : Type 0} (f : List ℕ × List ℕ → X) (store : Blocks) (place : ℕ) (p : List ℕ × List ℕ) (r d : X) → slice_get store place ≡ Some p → r ≡ get_or (map f store) place d → r ≡ f p
asked-here f store place p r d at asked = asked ∙ get_or_from_slice_get (map f store) place (f p) d (slice_get-map f store place ∙ ap (λ o. option_map f o) at)

-- whether there is a function, as std says it
pub none-by : (function : Option HashFunction) (none t : Bool) → is_some function ≡ not none → none ≡ t → is_none function ≡ t
none-by None none t some is = on none some is where
  on : (none : Bool) → false ≡ not none → none ≡ t → true ≡ t
  on true some is = is
  on false some is = absurd cc
none-by (Some f) none t some is = on none some is where
  on : (none : Bool) → true ≡ not none → none ≡ t → false ≡ t
  on true some is = absurd cc
  on false some is = is

-- under a known hash function, the verdict on a section is by the digest and the data
section-judged : (f : HashFunction) (c block : List ℕ) (matches malformed : Bool) → hash_function_of (parts_of c) ≡ Some f
    → matches ≡ bytes_eq (digest_by f block) (digest_of c) → malformed ≡ is_no_data c block → (if matches then (if malformed then Malformed else Sound) else Damaged) ≡ section_verdict c block
section-judged f c block matches malformed known hashes fails =
    ap (λ (t : Bool). if t then (if malformed then Malformed else Sound) else Damaged) hashes
    ∙ ap (λ (t : Bool). if bytes_eq (digest_by f block) (digest_of c) then (if t then Malformed else Sound) else Damaged) fails
    ∙ ap (λ g. verdict_by_hash g c block) (sym known)

-- so it is where a CID names one
pub section-stored : (c block : List ℕ) (function : Option HashFunction) (matches malformed : Bool) → is_none function ≡ false → function ≡ hash_function_of (parts_of c)
    → matches ≡ hash_matches (c, block) → malformed ≡ is_no_data c block → (if matches then (if malformed then Malformed else Sound) else Damaged) ≡ section_verdict c block
section-stored c block None matches malformed some is hashes fails = absurd cc
section-stored c block (Some f) matches malformed some is hashes fails =
    section-judged f c block matches malformed (sym is) (hashes ∙ ap (λ g. hash_matches_by g (digest_of c) block) (sym is)) fails

-- and where it names none
pub section-unknown : (c block : List ℕ) (function : Option HashFunction) → is_none function ≡ true → function ≡ hash_function_of (parts_of c) → Hash ≡ section_verdict c block
section-unknown c block None none is = ap (λ g. verdict_by_hash g c block) is
section-unknown c block (Some f) none is = absurd cc
