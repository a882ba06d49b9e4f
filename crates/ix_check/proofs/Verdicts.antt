-- The verdict on a visit's CID, by what the visit says of it.
use Rattle.std.proofs.Common.{◌≡◌, Bool, List, ℕ, refl, sym, ◌∙◌}
use Rattle.std.specs.Prelude.{Some, if◌then◌else◌}
use Rattle.ix_cid.specs.Cid.{parts_of}
use Rattle.ix_cid.specs.declared.hash_function.HashFunction.{HashFunction}
use Rattle.ix_verdict.specs.declared.verdict.Verdict.TheVariants.{Damaged, Malformed, Sound}
use Rattle.ix_verdict.specs.declared.needed.Needed.TheVariants.{Block}
use Rattle.ix_verdict.specs.Needed.{needed_of}
use Rattle.ix_verdict.proofs.Needs.{known-Block, hashed-Block}
use Rattle.ix_store.specs.Memo.{hash_matches}
use Rattle.ix_store.specs.Store.{Blocks, block_of, bytes_of}
use Rattle.ix_store.proofs.Verdicts.{verdict-judged}
use Rattle.ix_walk.specs.Visits.{is_malformed}
use Rattle.ix_walk.proofs.Readings.{bytes_stored}
use Rattle.ix_check.specs.Verdict.{is_no_data, verdict_of}

-- whether bytes that are there spell no data
malformed-there : (store : Blocks) (c b : List ℕ) → bytes_of store c ≡ Some b → is_malformed store c ≡ is_no_data c b
malformed-there store c b named = rw named refl

module _ (store : Blocks) (c : List ℕ) (function : HashFunction) (needed : Block function ≡ needed_of (parts_of c)) where
  -- a block, by what the store says of it
  pub verdict-there : (b : List ℕ) (agreed m : Bool) → block_of store c ≡ Some b → agreed ≡ hash_matches (c, b) → m ≡ is_malformed store c
      → (if agreed then (if m then Malformed else Sound) else Damaged) ≡ verdict_of store c
  verdict-there b agreed m block told malformed =
      let bytes = sym (bytes_stored store c function (hashed-Block (parts_of c) function needed) (sym (known-Block (parts_of c) function needed))) ∙ block in
      verdict-judged store c function needed b agreed m block told (malformed ∙ malformed-there store c b bytes)
