-- A difference, over the base that it was made without.
use Rattle.std.proofs.Common.{◌≡◌, ℕ, suc, Bool, true, false, not, List, [], ◌++◌, length, map, filter, flat_map, refl, sym, ap, ◌∙◌}
use Rattle.std.specs.Prelude.{nat_lt}
use Rattle.std.proofs.lemmas.List.Elements.{filter_agree}
use Rattle.ix_cid.specs.Cid.{parts_of, hash_function_of}
use Rattle.ix_selector.specs.IsEntered.{is_entered}
use Rattle.ix_selector.specs.Behind.{residual_at, same_residual}
use Rattle.ix_store.specs.Store.{Blocks, has_cid, block_of}
use Rattle.ix_walk.specs.JobMeaning.{JobMeaning}
use Rattle.ix_walk.specs.Arrivals.{Arrival}
use Rattle.ix_walk.specs.Visits.{is_over_limit}
use Rattle.ix_walk.specs.Once.{roots_from, first_ones, sound_value, once_arrivals}
use Rattle.ix_walk.proofs.Firsts.{In}
use Rattle.ix_walk.proofs.Links.{cid_of}
use Rattle.ix_walk.proofs.Reaches.{contains-in}
use Rattle.ix_check.specs.Verdict.{verdict_with}
use Rattle.ix_car.specs.Archive.{difference_of, known_by}
use Rattle.ix_verdict.specs.Verdict.{is_sound}
use Rattle.ix_known.specs.Known.{knows, known_blocks}
use Rattle.ix_car.specs.Laws.{once}
use Rattle.ix_car.proofs.Restored.{pairs-bytes}
use Rattle.ix_car.proofs.Visited.{once-same}
use Rattle.ix_receive.specs.Own.{archive_bytes, base_known, AreTheirOwnWith, IsItsOwnWith}
use Rattle.ix_receive.specs.Base.{HasWhatIsKnown}
use Rattle.ix_receive.proofs.Fresh.{outside, fresh, fresh-is, in-fresh, fresh-in}
use Rattle.ix_receive.proofs.Lookup.{pair_in}
use Rattle.ix_known.proofs.Lists.{block-left, block-right}
use Rattle.ix_receive.proofs.Again.{value_in, chosen, pairs-by, chosen-same, value-same, sections-same, sections-sound, each-inside}
use Rattle.ix_known.proofs.KnownCopies.{known-block, known-has}

module _ (store base : Blocks) (number : ℕ) (job : JobMeaning) (has : HasWhatIsKnown store base (once job)) where
  -- the known blocks of the base
  abbrev known : Blocks
  known = known_blocks base

  abbrev visits : List Arrival
  visits = once_arrivals store job (residual_at job.selector) same_residual

  abbrev cids : List (List ℕ)
  cids = map cid_of visits

  -- the sections of the difference
  abbrev sections : Blocks
  sections = flat_map (pair_in store) (chosen store (fresh known cids))

  abbrev whole : Blocks
  whole = known ++ sections

  -- a known CID has the same block
  known-same : (c : List ℕ) → In c cids → has_cid known c ≡ true → block_of whole c ≡ block_of store c
  known-same c i there =
      let is : knows base c ≡ true = sym (known-has base c) ∙ there in
      block-left known sections c there ∙ known-block base c is ∙ has c (contains-in c cids i) is

  -- so each CID has the same inside
  inside-same : (c : List ℕ) → In c cids → sound_value whole c ≡ sound_value store c
  inside-same c i = by (has_cid known c) refl where
    by : (b : Bool) → has_cid known c ≡ b → sound_value whole c ≡ sound_value store c
    by true there = ap (value_in (hash_function_of (parts_of c)) c) (known-same c i there)
    by false out = ap (value_in (hash_function_of (parts_of c)) c) (block-right known sections c out) ∙ value-same store (fresh known cids) c (fresh-in known c cids i out)

  -- and the visits are the same
  visits-same : once_arrivals whole job (residual_at job.selector) same_residual ≡ visits
  visits-same =
      once-same (is_entered job.selector) (sound_value store) (sound_value whole) (residual_at job.selector) same_residual (suc job.limit) [] (roots_from 0 job.roots)
      (each-inside store whole job visits (λ c i. inside-same c i))

  -- the base has none of the CIDs whose sections they are
  sections-again : flat_map (pair_in whole) (chosen whole (fresh known cids)) ≡ sections
  sections-again =
      chosen-same sections whole (fresh known cids) (λ c i.
      (let e = block-right known sections c (in-fresh known c cids i).1 in (ap (λ o. is_sound (verdict_with c o)) e, λ _. e)))
      ∙ sections-same store (fresh known cids)

  own : is_over_limit store (once job) ≡ false → AreTheirOwnWith known number (once job) sections
  own within = record {
    sound = sections-sound store (fresh known cids);
    within = ap (λ l. nat_lt job.limit (length l)) visits-same ∙ within;
    same =
        pairs-by (base_known known) whole number job
        ∙ ap (λ l. flat_map (pair_in whole) (chosen whole (fresh known (map cid_of l)))) visits-same
        ∙ sections-again;
  }

  -- they are those that are left when what the base knows is left out
  new-same : flat_map (pair_in store) (chosen store (filter (λ c. not (knows base c)) (first_ones cids))) ≡ sections
  new-same =
      ap (λ l. flat_map (pair_in store) (chosen store l))
      (filter_agree (λ c. not (knows base c)) (outside known) (λ c. ap not (sym (known-has base c))) (first_ones cids) ∙ sym (fresh-is known cids))

  pub difference-own : is_over_limit store (once job) ≡ false → IsItsOwnWith known number (once job) (difference_of (known_by base) store number (once job))
  difference-own within = (
    sections,
    pairs-bytes (known_by base) store number (once job) ∙ ap (archive_bytes job.roots) (pairs-by (known_by base) store number job ∙ new-same),
    own within,
  )
