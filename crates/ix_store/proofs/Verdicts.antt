-- The verdict on a CID in a store, by the bytes that it needs.
use Rattle.std.proofs.Common.{◌≡◌, Bool, false, ◌&&◌, List, ℕ, sym, ◌∙◌, ap}
use Rattle.std.specs.Prelude.{Some, None, is_none, ◌==◌, if◌then◌else◌}
use Rattle.ix_cid.specs.Cid.{parts_of, codec_of, digest_of}
use Rattle.ix_cbor.specs.Reading.{data_at}
use Rattle.ix_cid.specs.declared.hash_function.HashFunction.{HashFunction}
use Rattle.ix_verdict.specs.declared.verdict.Verdict.TheVariants.{Missing, Damaged, Malformed, Sound}
use Rattle.ix_verdict.specs.declared.needed.Needed.TheVariants.{Block}
use Rattle.ix_verdict.specs.Needed.{needed_of}
use Rattle.ix_verdict.specs.Verdict.{is_no_data, verdict_with}
use Rattle.ix_verdict.proofs.Needs.{known-Block, verdict-Missing, verdict-Block}
use Rattle.ix_store.specs.Memo.{hash_matches_by, hash_matches}
use Rattle.ix_store.specs.Store.{Blocks, block_of, position_of}
use Rattle.ix_store.specs.Verdict.{verdict_of}
use Rattle.ix_store.proofs.Blocks.{none_behind}

-- a block that is to spell data, and one that isn't
pub no-data-yes : (c block : List ℕ) (codec : ℕ) → codec ≡ codec_of c → codec ≡ 0x71 → is_none (data_at block) ≡ is_no_data c block
no-data-yes c block codec is dag_cbor = ap (λ (t : Bool). t && is_none (data_at block)) (sym (ap (λ (n : ℕ). n == 0x71) (sym is ∙ dag_cbor)))

pub no-data-no : (c block : List ℕ) (codec : ℕ) → codec ≡ codec_of c → (codec == 0x71) ≡ false → false ≡ is_no_data c block
no-data-no c block codec is other = ap (λ (t : Bool). t && is_none (data_at block)) (sym (ap (λ (n : ℕ). n == 0x71) (sym is) ∙ other))

module _ (store : Blocks) (c : List ℕ) (function : HashFunction) (needed : Block function ≡ needed_of (parts_of c)) where
  -- no block
  pub verdict-absent : None ≡ position_of store c → Missing ≡ verdict_of store c
  verdict-absent place = verdict-Missing c function needed ∙ ap (verdict_with c) (sym (none_behind 0 store c place))

  -- a block, by whether it has the digest, and whether it is to be DAG-CBOR and isn't
  pub verdict-judged : (b : List ℕ) (agreed m : Bool) → block_of store c ≡ Some b → agreed ≡ hash_matches (c, b) → m ≡ is_no_data c b
      → (if agreed then (if m then Malformed else Sound) else Damaged) ≡ verdict_of store c
  verdict-judged b agreed m block told fails =
      let known = known-Block (parts_of c) function needed in
      ap (λ a. if a then (if m then Malformed else Sound) else Damaged) (told ∙ ap (λ g. hash_matches_by g (digest_of c) b) known)
      ∙ ap (λ d. if hash_matches_by (Some function) (digest_of c) b then (if d then Malformed else Sound) else Damaged) fails
      ∙ verdict-Block c function needed b
      ∙ ap (verdict_with c) (sym block)
