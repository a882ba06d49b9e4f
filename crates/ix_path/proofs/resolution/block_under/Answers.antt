use Rattle.std.proofs.Common.{◌≡◌, ⊎_elim, true, false, sym, ◌∙◌, ap}
use Rattle.std.specs.Prelude.{Option, Some}
use Rattle.ix_cid.specs.Cid.{parts_of, digest_of}
use Rattle.ix_cid.specs.declared.hash_function.HashFunction.{HashFunction}
use Rattle.ix_store.specs.Store.{block_of, bytes_by, bytes_of}
use Rattle.ix_store.proofs.Blocks.{place_within, block_at}
use Rattle.ix_store.proofs.Verdicts.{verdict-absent}
use Rattle.ix_verdict.proofs.Needs.{known-Block, hashed-Block}
use Rattle.ix_path.specs.Causes.{goes_by_bytes}
use Rattle.ix_path.proofs.resolution.block_under.Goals as goal

pub bytes-requires : goal.bytes-requires
bytes-requires c = place_within c.in-Some.place c.args.store.now c.args.cid.now (sym c.in-Some.is ∙ c.find-place.ensures)

pub returns-in-Some-clause-bytes : goal.returns-in-Some-clause-bytes
returns-in-Some-clause-bytes c = λ passed.
    let store = c.args.store.now in
    let cid = c.args.cid.now in
    let function = c.requires.needed.0 in
    let needed = c.requires.needed.1 in
    let block = block_at c.in-Some.place store cid c.bytes.result.now (sym c.in-Some.is ∙ c.find-place.ensures) c.bytes.ensures in
    let by : bytes_of store cid ≡ bytes_by (Some function) (digest_of cid) (block_of store cid) = ap (λ (f : Option HashFunction). bytes_by f (digest_of cid) (block_of store cid)) (known-Block (parts_of cid) function needed) in
    let stored : bytes_by (Some function) (digest_of cid) (block_of store cid) ≡ block_of store cid =
    ⊎_elim (λ is. ap (λ (f : HashFunction). bytes_by (Some f) (digest_of cid) (block_of store cid)) is) (λ is. ap (λ (f : HashFunction). bytes_by (Some f) (digest_of cid) (block_of store cid)) is) (hashed-Block (parts_of cid) function needed) in
    by ∙ stored ∙ block

pub returns-in-None-clause-bytes : goal.returns-in-None-clause-bytes
returns-in-None-clause-bytes c = λ passed.
    let absent = verdict-absent c.args.store.now c.args.cid.now c.requires.needed.0 c.requires.needed.1 (sym c.in-None.is ∙ c.find-place.ensures) in
    absurd (let bad : true ≡ false = sym passed ∙ ap goes_by_bytes (c.verdict_at-verdict.ensures ∙ sym absent) in cc bad)
