-- Pairs that were written as sections are read back as these.
use Rattle.std.proofs.Common.{◌≡◌, ℕ, ◌+◌, ◌-◌, ◌<◌, ◌^◌, Bool, true, false, List, [], ◌∷◌, ◌++◌, length, flat_map, refl, sym, ◌∙◌, ap, subst, arith, append_assoc, append-nil, length-append}
use Rattle.std.specs.Prelude.{Option, Some, None, Result, Ok, All, if◌then◌else◌, bytes_eq}
use Rattle.std.proofs.lemmas.List.Elements.{All-nil, All-cons, All-head, All-tail}
use Rattle.std.proofs.lemmas.Slice.Eq.{bytes_eq-Decides}
use Rattle.ix_cid.specs.Cid.{IsCid}
use Rattle.ix_cid.specs.Varint.{varint_of}
use Rattle.ix_cid.proofs.VarintLaws.{IsVarint-varint_of}
use Rattle.ix_cid.proofs.GroupLaws.{some_group}
use Rattle.ix_cbor.specs.Spelling.{spelling_of}
use Rattle.ix_store.specs.Store.{Blocks, block_of}
use Rattle.ix_car.specs.declared.sink.Delivery.{Delivery}
use Rattle.ix_car.specs.Archive.{section_of}
use Rattle.ix_car.specs.Restoring.{pair_with}
use Rattle.ix_sections.specs.Copies.{copies_of}
use Rattle.ix_sections.specs.Writing.{with_length, header_data, header_of, section_with}
use Rattle.ix_sections.specs.Reading.{Fault, ◌>>=◌}
use Rattle.ix_sections.specs.Sections.{SectionMeaning, placed, sections_after, section_list, roots_of}
use Rattle.ix_sections.proofs.SectionLists.{with_next, ListGoesOn, ListGoesOn-first, ListGoesOn-more, ListGoesOn-last}
use Rattle.ix_verify.specs.Written.{section_where, sections_with, sections_from}
use Rattle.ix_verify.proofs.TextsAgain.{section_again}
use Rattle.ix_verify.proofs.HeaderAgain.{header_again, roots_again}

-- the section of a pair
abbrev pub text_of : List ℕ × List ℕ → List ℕ
text_of p = with_length (p.0 ++ p.1)

-- a pair is of a CID
abbrev pub HasCid : List ℕ × List ℕ → Type 0
HasCid p = IsCid p.0

-- a section takes a byte at least
section_some : (text : List ℕ) → length text < 2 ^ 63 → 0 < length (with_length text)
section_some text short = omega (arith, some_group ((IsVarint-varint_of (length text) short).groups), length-append (varint_of (length text)) text)

module _ (size : ℕ) (small : size < 2 ^ 63) where
  -- from a place on the sections of these pairs are read
  pairs_again : (ps : Blocks) → All HasCid ps → (so_far : List SectionMeaning) (place : ℕ) (whole : Result (List SectionMeaning) Fault)
      → place + length (flat_map text_of ps) ≡ size → ListGoesOn size so_far (flat_map text_of ps) whole
      → whole ≡ Ok (so_far ++ sections_with place ps)
  pairs_again [] cids so_far place whole is goes_on = ListGoesOn-last size so_far [] whole refl goes_on ∙ ap (λ (l : List SectionMeaning). Ok l) (sym (append-nil so_far))
  pairs_again (p ∷ ps) cids so_far place whole is goes_on =
      let text = text_of p in
      let left = flat_map text_of ps in
      let sized = length-append text left in
      let short : length (p.0 ++ p.1) < 2 ^ 63 = omega (arith, small, is, sized, length-append (varint_of (length (p.0 ++ p.1))) (p.0 ++ p.1)) in
      let some : 0 < length (text ++ left) = omega (arith, sized, section_some (p.0 ++ p.1) short) in
      let next = ListGoesOn-more size so_far (text ++ left) whole (p, left) some (section_again p.0 p.1 left (All-head HasCid p ps cids) short) goes_on in
      let at : size - length (text ++ left) ≡ place = omega (arith, is) in
      let behind = sections_with (place + length text) ps in
      let of_place : ℕ → Result (List SectionMeaning) Fault = λ n. Ok ((so_far ++ placed n p ∷ []) ++ behind) in
      let joined : List SectionMeaning → Result (List SectionMeaning) Fault = λ l. Ok l in
      pairs_again ps (All-tail HasCid p ps cids) (with_next size so_far (text ++ left) p) (place + length text) whole (omega (arith, is, sized)) next
      ∙ ap of_place at ∙ ap joined (append_assoc so_far (placed place p ∷ []) behind)

-- the header takes no more than the archive
header_short : (roots : List (List ℕ)) (rest : List ℕ) → length (header_of roots ++ rest) < 2 ^ 63 → length (spelling_of (header_data roots)) < 2 ^ 63
header_short roots rest short =
    let text = spelling_of (header_data roots) in
    omega (arith, short, length-append (header_of roots) rest, length-append (varint_of (length text)) text)

-- the header of a file names these roots
pub file-roots : (roots : List (List ℕ)) (rest : List ℕ) → All IsCid roots → length (header_of roots ++ rest) < 2 ^ 63 → roots_of (header_of roots ++ rest) ≡ roots
file-roots roots rest named short = roots_again roots rest named (header_short roots rest short)

-- and its sections are those of these pairs
pub file-sections : (roots : List (List ℕ)) (ps : Blocks) → All IsCid roots → All HasCid ps → length (header_of roots ++ flat_map text_of ps) < 2 ^ 63
    → section_list (header_of roots ++ flat_map text_of ps) ≡ Ok (sections_with (length (header_of roots)) ps)
file-sections roots ps named cids short =
    let rest = flat_map text_of ps in
    let size = length (header_of roots ++ rest) in
    let behind : Result (List ℕ) Fault → Result (List SectionMeaning) Fault = λ r. r >>= (λ left. sections_after size (length left) [] left) in
    ap behind (header_again roots rest named (header_short roots rest short))
    ∙ pairs_again size short ps cids [] (length (header_of roots)) (sections_after size (length rest) [] rest)
    (sym (length-append (header_of roots) rest)) (ListGoesOn-first size rest)

-- the copies in the sections of pairs are the pairs
pub pairs-copies : (place : ℕ) (ps : Blocks) → copies_of (sections_with place ps) ≡ ps
pairs-copies place [] = refl
pairs-copies place (p ∷ ps) = ap (λ (l : Blocks). p ∷ l) (pairs-copies (place + length (text_of p)) ps)

-- ---- the pairs of deliveries

-- a store of CIDs has a block under a CID alone
block-cid : (store : Blocks) (c block : List ℕ) → All HasCid store → block_of store c ≡ Some block → IsCid c
block-cid [] c block cids there = absurd cc
block-cid (e ∷ store) c block cids there = on_test (bytes_eq e.0 c) refl there (block-cid store c block (All-tail HasCid e store cids)) where
  on_test : (same : Bool) → bytes_eq e.0 c ≡ same → (if same then Some e.1 else block_of store c) ≡ Some block → (block_of store c ≡ Some block → IsCid c) → IsCid c
  on_test true is there more = subst IsCid ((bytes_eq-Decides e.0 c).0 is) (All-head HasCid e store cids)
  on_test false is there more = more there

module _ (store : Blocks) where
  -- the CIDs of deliveries with the store's blocks
  abbrev pub pairs_of : List Delivery → Blocks
  pairs_of ds = flat_map (λ d. pair_with d.visit.cid (block_of store d.visit.cid)) ds

  -- they are CIDs, if the store's are
  pub pairs-cids : (ds : List Delivery) → All HasCid store → All HasCid (pairs_of ds)
  pairs-cids [] cids = All-nil HasCid
  pairs-cids (d ∷ ds) cids = on_block (block_of store d.visit.cid) refl (pairs-cids ds cids) where
    on_block : (o : Option (List ℕ)) → block_of store d.visit.cid ≡ o → All HasCid (pairs_of ds) → All HasCid (pair_with d.visit.cid o ++ pairs_of ds)
    on_block None there more = more
    on_block (Some block) there more = All-cons HasCid (d.visit.cid, block) (pairs_of ds) (block-cid store d.visit.cid block cids there) more

  -- the sections of deliveries are those of their pairs
  pub pairs-texts : (ds : List Delivery) → flat_map (section_of store) ds ≡ flat_map text_of (pairs_of ds)
  pairs-texts [] = refl
  pairs-texts (d ∷ ds) = on_block (block_of store d.visit.cid) (pairs-texts ds) where
    on_block : (o : Option (List ℕ)) → flat_map (section_of store) ds ≡ flat_map text_of (pairs_of ds)
        → section_with d.visit.cid o ++ flat_map (section_of store) ds ≡ flat_map text_of (pair_with d.visit.cid o ++ pairs_of ds)
    on_block None more = more
    on_block (Some block) more = ap (λ (l : List ℕ). section_with d.visit.cid (Some block) ++ l) more

  -- at the same offsets
  pub pairs-placed : (ds : List Delivery) (place : ℕ) → sections_from store place ds ≡ sections_with place (pairs_of ds)
  pairs-placed [] place = refl
  pairs-placed (d ∷ ds) place = on_block (block_of store d.visit.cid) (pairs-placed ds) where
    on_block : (o : Option (List ℕ)) → ((at : ℕ) → sections_from store at ds ≡ sections_with at (pairs_of ds))
        → section_where place d.visit.cid o ++ sections_from store (place + length (section_with d.visit.cid o)) ds ≡ sections_with place (pair_with d.visit.cid o ++ pairs_of ds)
    on_block None more = let at : place + 0 ≡ place = omega arith in ap (λ (n : ℕ). sections_from store n ds) at ∙ more place
    on_block (Some block) more = ap (λ (l : List SectionMeaning). placed place (d.visit.cid, block) ∷ l) (more (place + length (section_with d.visit.cid (Some block))))
