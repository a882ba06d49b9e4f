-- Sections that are received, one by one.
use Rattle.std.proofs.Common.{◌≡◌, ◌⊎◌, inl, inr, ℕ, suc, ◌+◌, ◌≤◌, Bool, true, false, ◌&&◌, List, [], ◌∷◌, ◌++◌, length, map, filter, flat_map, take, drop, take-append-drop, append_assoc, refl, sym, ap, ◌∙◌, subst, arith, ltb-false}
use Rattle.std.specs.Prelude.{Option, Some, None, is_some, if◌then◌else◌, bytes_eq}
use Rattle.std.specs.List.{AllByRecursion, Contains}
use Rattle.std.proofs.Math.Seq.{take-append_seam, take-append-add}
use Rattle.std.proofs.lemmas.List.{map-append, length-append}
use Rattle.std.proofs.lemmas.List.Concat.{flat_map-append}
use Rattle.std.proofs.lemmas.List.Elements.{filter-append}
use Rattle.std.proofs.lemmas.Slice.Eq.{bytes_eq-Decides}
use Rattle.ix_cid.specs.Cid.{parts_of, hash_function_of}
use Rattle.ix_selector.specs.IsEntered.{is_entered}
use Rattle.ix_selector.specs.Behind.{residual_at, same_residual}
use Rattle.ix_store.specs.Store.{Blocks, has_cid, block_of}
use Rattle.ix_walk.specs.JobMeaning.{JobMeaning}
use Rattle.ix_walk.specs.Arrivals.{Arrival}
use Rattle.ix_walk.specs.Visits.{is_over_limit}
use Rattle.ix_walk.specs.Once.{roots_from, sound_value, once_arrivals}
use Rattle.ix_walk.proofs.Firsts.{In, filter-both, in-filter}
use Rattle.ix_walk.proofs.Links.{cid_of, all-append, all-right}
use Rattle.ix_walk.proofs.Reaches.{contains-in, in-contains}
use Rattle.ix_check.specs.Verdict.{verdict_with}
use Rattle.ix_verdict.specs.Verdict.{is_sound}
use Rattle.ix_known.specs.Known.{knows}
use Rattle.ix_car.specs.Restoring.{pair_with}
use Rattle.ix_car.specs.Laws.{once}
use Rattle.ix_car.proofs.Visited.{IsSameInside, once-same}
use Rattle.ix_receive.specs.Own.{base_known, AreTheirOwnWith}
use Rattle.ix_receive.specs.Receiving.{first_visits, AreReceived, IsNextSection}
use Rattle.ix_receive.proofs.Firsts.{AreApart, filter-apart, not-before, IsFirstOf, first-of, same-before}
use Rattle.ix_receive.proofs.Fresh.{fresh, in-fresh, fresh-in, fresh-stay, fresh-split, fresh-last, fresh-apart}
use Rattle.ix_receive.proofs.Lookup.{pair_in, pair-absent}
use Rattle.ix_known.proofs.Lists.{block-left, block-right}
use Rattle.ix_receive.proofs.Again.{value_in, has_block, chosen, pairs-by, chosen-same, value-same, sections-same, sections-sound, each-inside}
use Rattle.ix_receive.proofs.Visits.{next-same, fewer-visits}

-- a CID has a section in a store
abbrev has_section : Blocks → List ℕ → Bool
has_section store c = knows store c && has_block store c

-- both tests at once
both-tests : (store : Blocks) (cs : List (List ℕ)) → chosen store cs ≡ filter (has_section store) cs
both-tests store cs = filter-both (has_block store) (knows store) (has_section store) (λ c. refl) cs

-- ---- sections that are received stay so

-- fewer visits are the first of more
pub visits-first : (job : JobMeaning) (store : Blocks) (n m : ℕ) → n ≤ m → first_visits n job store ≡ take n (first_visits m job store)
visits-first job store n m h = fewer-visits (is_entered job.selector) (residual_at job.selector) same_residual (sound_value store) n m h [] (roots_from 0 job.roots)

-- no section is received before the first visit
pub none-at-first : (base : Blocks) (job : JobMeaning) → AreReceived base 0 job []
none-at-first [] job = record { sound = tt; visited = refl }
none-at-first (e ∷ es) job = record { sound = tt; visited = refl }

module _ (base : Blocks) (job : JobMeaning) (sections : Blocks) where
  abbrev whole : Blocks
  whole = base ++ sections

  abbrev visits : ℕ → List Arrival
  visits n = first_visits n job whole

  -- a block that the base doesn't have is that of a section
  from-sections : (c : List ℕ) → has_cid base c ≡ false → has_block whole c ≡ true → has_block sections c ≡ true
  from-sections c out there = ap is_some (sym (block-right base sections c out)) ∙ there

  module _ (n : ℕ) (is : AreReceived base n job sections) where
    -- what has a section was visited
    pub stored-visited : (c : List ℕ) → has_block sections c ≡ true → In c (map cid_of (visits n))
    stored-visited c h = by (in_or_not c (map cid_of (visits n))) where
      in_or_not : (c : List ℕ) (cs : List (List ℕ)) → (In c cs) ⊎ (In c cs → ⊥)
      in_or_not c [] = inr (λ i. i)
      in_or_not c (d ∷ ds) = on (bytes_eq d c) refl (in_or_not c ds) where
        on : (b : Bool) → bytes_eq d c ≡ b → (In c ds) ⊎ (In c ds → ⊥) → (In c (d ∷ ds)) ⊎ (In c (d ∷ ds) → ⊥)
        on true e later = inl (inl ((bytes_eq-Decides d c).0 e))
        on false e (inl i) = inl (inr i)
        on false e (inr new) = inr (λ i. neither i) where
          neither : In c (d ∷ ds) → ⊥
          neither (inl same) = let yes = (bytes_eq-Decides d c).1 same in let bad : true ≡ false = sym yes ∙ e in cc bad
          neither (inr i) = new i

      by : (In c (map cid_of (visits n))) ⊎ (In c (map cid_of (visits n)) → ⊥) → In c (map cid_of (visits n))
      by (inl i) = i
      by (inr new) =
          let cids = fresh base (map cid_of (visits n)) in
          let gone = pair-absent whole c (chosen whole cids)
          (λ i. new (in-fresh base c (map cid_of (visits n)) (in-filter (knows whole) c cids (in-filter (has_block whole) c (filter (knows whole) cids) i).0).0).0) in
          let none : block_of sections c ≡ None = ap (λ s. block_of s c) (sym is.visited) ∙ gone in
          let bad : true ≡ false = sym h ∙ ap is_some none in absurd (cc bad)

    -- so more visits have no more sections
    pub received-stay : (m : ℕ) → n ≤ m → AreReceived base m job sections
    received-stay m h = record {
      sound = is.sound;
      visited =
          let more = visits m in
          ap (λ l. flat_map (pair_in whole) l) (both-tests whole (fresh base (map cid_of more)) ∙ stay more (visits-first job whole n m h) ∙ sym (both-tests whole (fresh base (map cid_of (visits n))))) ∙ is.visited;
    } where
      right : (a b : Bool) → (a && b) ≡ true → b ≡ true
      right true b h = h
      right false b h = absurd (cc h)

      stay : (more : List Arrival) → visits n ≡ take n more → filter (has_section whole) (fresh base (map cid_of more)) ≡ filter (has_section whole) (fresh base (map cid_of (visits n)))
      stay more first =
          let all : map cid_of more ≡ map cid_of (visits n) ++ map cid_of (drop n more) =
          ap (map cid_of) (sym (take-append-drop n more)) ∙ map-append cid_of (take n more) (drop n more) ∙ ap (λ l. map cid_of l ++ map cid_of (drop n more)) (sym first) in
          ap (λ l. filter (has_section whole) (fresh base l)) all
          ∙ fresh-stay (has_section whole) base (map cid_of (visits n)) (map cid_of (drop n more)) (λ d i passes out. stored-visited d (from-sections d out (right (knows whole d) (has_block whole d) passes)))

    -- sections that are received are their own
    pub received-own : (number : ℕ) → n ≤ suc job.limit → is_over_limit whole (once job) ≡ false → AreTheirOwnWith base number (once job) sections
    received-own number low within = record {
      sound = is.sound;
      within = within;
      same = pairs-by (base_known base) whole number job ∙ (received-stay (suc job.limit) low).visited;
    }

-- ---- the next section

module _ (base : Blocks) (job : JobMeaning) (sections : Blocks) (p : List ℕ × List ℕ) (n : ℕ) (is : AreReceived base n job sections) (next : IsNextSection base n job sections p) where
  -- what there is before it
  abbrev now : Blocks
  now = base ++ sections

  -- and with it
  abbrev more : Blocks
  more = now ++ p ∷ []

  abbrev cids : List (List ℕ)
  cids = map cid_of (first_visits n job now)

  -- its CID is new
  new : In p.0 cids → ⊥
  new i = next.first (contains-in p.0 cids i)

  -- a block under another CID is the same
  block-same : (s : Blocks) (c : List ℕ) → bytes_eq p.0 c ≡ false → block_of (s ++ p ∷ []) c ≡ block_of s c
  block-same [] c isnt = ap (λ b. if b then Some p.1 else None) isnt
  block-same (e ∷ es) c isnt = ap (λ o. if bytes_eq e.0 c then Some e.1 else o) (block-same es c isnt)

  -- so it is for each CID that was visited
  visited-block : (c : List ℕ) → In c cids → block_of more c ≡ block_of now c
  visited-block c i = by (bytes_eq p.0 c) refl where
    by : (b : Bool) → bytes_eq p.0 c ≡ b → block_of more c ≡ block_of now c
    by true same = absurd (new (subst (λ d. In d cids) (sym ((bytes_eq-Decides p.0 c).0 same)) i))
    by false isnt = block-same now c isnt

  -- the section's block is found
  block-last : (s : Blocks) → block_of s p.0 ≡ None → block_of (s ++ p ∷ []) p.0 ≡ Some p.1
  block-last [] h = ap (λ b. if b then Some p.1 else None) ((bytes_eq-Decides p.0 p.0).1 refl)
  block-last (e ∷ es) h =
      (elim (bytes_eq e.0 p.0) as (λ b. (if b then Some e.1 else block_of es p.0) ≡ None → (if b then Some e.1 else block_of (es ++ p ∷ []) p.0) ≡ Some p.1)
      [ true ↦ λ g. absurd (cc g) | false ↦ λ g. block-last es g ]) h

  -- no section has its CID
  not-received : block_of sections p.0 ≡ None
  not-received = by (block_of sections p.0) refl where
    by : (o : Option (List ℕ)) → block_of sections p.0 ≡ o → o ≡ None
    by None at = refl
    by (Some b) at = absurd (new (stored-visited base job sections n is p.0 (ap is_some at)))

  -- among the sections and it, it is the block of its CID
  pub own-block : block_of (sections ++ p ∷ []) p.0 ≡ Some p.1
  own-block = block-last sections not-received

  pub section-block : block_of more p.0 ≡ Some p.1
  section-block = block-last now (block-right base sections p.0 next.outside ∙ not-received)

  section-sound : knows more p.0 ≡ true
  section-sound = ap (λ o. is_sound (verdict_with p.0 o)) section-block ∙ next.sound

  -- the visits up to it are the same
  next-visits : first_visits (suc n) job more ≡ first_visits (suc n) job now
  next-visits =
      next-same (is_entered job.selector) (residual_at job.selector) same_residual (sound_value now) (sound_value more) n [] (roots_from 0 job.roots)
      (each-inside now more job (first_visits n job now) (λ c i. inside c i)) where
        inside : (c : List ℕ) → In c cids → sound_value more c ≡ sound_value now c
        inside c i = ap (value_in (hash_function_of (parts_of c)) c) (visited-block c i)

  pub next-same-visits : first_visits (suc n) job (base ++ (sections ++ p ∷ [])) ≡ first_visits (suc n) job now
  next-same-visits = ap (first_visits (suc n) job) (sym (append_assoc base sections (p ∷ []))) ∙ next-visits

  sections-visited : flat_map (pair_in more) (chosen more (fresh base (map cid_of (first_visits (suc n) job more)))) ≡ sections ++ p ∷ []
  sections-visited =
      let all : map cid_of (first_visits (suc n) job more) ≡ cids ++ p.0 ∷ [] =
      ap (map cid_of) (next-visits ∙ next.next) ∙ map-append cid_of (first_visits n job now) (next.visit ∷ []) ∙ ap (λ c. cids ++ c ∷ []) next.named in
      ap (λ l. flat_map (pair_in more) (chosen more (fresh base l))) all
      ∙ ap (λ l. flat_map (pair_in more) (chosen more l)) (fresh-last base p.0 cids new next.outside)
      ∙ ap (flat_map (pair_in more)) (ap (filter (has_block more)) (filter-append (knows more) (fresh base cids) (p.0 ∷ [])) ∙ filter-append (has_block more) (filter (knows more) (fresh base cids)) (filter (knows more) (p.0 ∷ [])))
      ∙ flat_map-append (pair_in more) (chosen more (fresh base cids)) (chosen more (p.0 ∷ []))
      ∙ ap (λ l. l ++ flat_map (pair_in more) (chosen more (p.0 ∷ [])))
      (chosen-same now more (fresh base cids) (λ c i. (let e = visited-block c (in-fresh base c cids i).0 in (ap (λ o. is_sound (verdict_with c o)) e, λ _. e))) ∙ is.visited)
      ∙ ap (λ l. sections ++ l) last where
        last : flat_map (pair_in more) (chosen more (p.0 ∷ [])) ≡ p ∷ []
        last =
            ap (λ b. flat_map (pair_in more) (filter (has_block more) (if b then p.0 ∷ [] else []))) section-sound
            ∙ ap (λ o. flat_map (pair_in more) (if is_some o then p.0 ∷ [] else [])) section-block
            ∙ ap (λ o. pair_with p.0 o ++ []) section-block

  pub next-received : AreReceived base (suc n) job (sections ++ p ∷ [])
  next-received = record {
    sound = all-append (λ p. is_sound (verdict_with p.0 (Some p.1)) ≡ true) sections (p ∷ []) is.sound (next.sound, tt);
    visited =
        subst (λ (s : Blocks). flat_map (pair_in s) (chosen s (fresh base (map cid_of (first_visits (suc n) job s)))) ≡ sections ++ p ∷ []) (append_assoc base sections (p ∷ [])) sections-visited;
  }

-- ---- sections that are their own

module _ (base : Blocks) (number : ℕ) (job : JobMeaning) (before after : Blocks) (p : List ℕ × List ℕ) (own : AreTheirOwnWith base number (once job) (before ++ p ∷ after)) where
  abbrev sections : Blocks
  sections = before ++ p ∷ after

  abbrev all : Blocks
  all = base ++ sections

  abbrev every : List Arrival
  every = once_arrivals all job (residual_at job.selector) same_residual

  abbrev pair_cid : List ℕ × List ℕ → List ℕ
  pair_cid q = q.0

  -- the CIDs of the visits that the base doesn't have
  abbrev new_ones : List (List ℕ)
  new_ones = fresh base (map cid_of every)

  -- they are those of the visited CIDs
  own-pairs : flat_map (pair_in all) (chosen all new_ones) ≡ sections
  own-pairs = sym (pairs-by (base_known base) all number job) ∙ own.same

  -- the CIDs of the pairs of CIDs that have a block
  pair-cids : (cs : List (List ℕ)) → map pair_cid (flat_map (pair_in all) (filter (has_block all) cs)) ≡ filter (has_block all) cs
  pair-cids [] = refl
  pair-cids (c ∷ cs) = by (block_of all c) refl (pair-cids cs) where
    by : (o : Option (List ℕ)) → block_of all c ≡ o → map pair_cid (flat_map (pair_in all) (filter (has_block all) cs)) ≡ filter (has_block all) cs
        → map pair_cid (flat_map (pair_in all) (if is_some o then c ∷ filter (has_block all) cs else filter (has_block all) cs)) ≡ (if is_some o then c ∷ filter (has_block all) cs else filter (has_block all) cs)
    by None at rest = rest
    by (Some b) at rest = ap (λ o. map pair_cid (pair_with c o ++ flat_map (pair_in all) (filter (has_block all) cs))) at ∙ ap (λ l. c ∷ l) rest

  -- so no CID is among them twice
  own-cids : map pair_cid sections ≡ chosen all new_ones
  own-cids = ap (map pair_cid) (sym own-pairs) ∙ pair-cids (filter (knows all) new_ones)

  own-split : map pair_cid before ++ p.0 ∷ map pair_cid after ≡ chosen all new_ones
  own-split = sym (map-append pair_cid before (p ∷ after)) ∙ own-cids

  own-apart : AreApart (map pair_cid before ++ p.0 ∷ map pair_cid after)
  own-apart = subst AreApart (sym own-split) (filter-apart (has_block all) (filter (knows all) new_ones) (filter-apart (knows all) new_ones (fresh-apart base (map cid_of every))))

  -- the section's CID is among them
  among : (c : List ℕ) (xs ys : List (List ℕ)) → In c (xs ++ c ∷ ys)
  among c [] ys = inl refl
  among c (x ∷ xs) ys = inr (among c xs ys)

  chosen-in : In p.0 (chosen all new_ones)
  chosen-in = subst (In p.0) own-split (among p.0 (map pair_cid before) (map pair_cid after))

  known-in : In p.0 (filter (knows all) new_ones)
  known-in = (in-filter (has_block all) p.0 (filter (knows all) new_ones) chosen-in).0

  -- its first visit
  abbrev visited-new : In p.0 (map cid_of every) × (has_cid base p.0 ≡ false)
  visited-new = in-fresh base p.0 (map cid_of every) (in-filter (knows all) p.0 new_ones known-in).0

  abbrev meets : IsFirstOf p.0 every
  meets = first-of p.0 every visited-new.0

  abbrev earlier : List (List ℕ)
  earlier = fresh base (map cid_of meets.before)

  -- the CIDs at their first visit are those of the visits before it, and then others
  abbrev rest : List (List ℕ)
  rest = (fresh-split base p.0 (map cid_of meets.before) (map cid_of meets.after) meets.first visited-new.1).0

  cids-split : new_ones ≡ earlier ++ p.0 ∷ rest
  cids-split =
      ap (λ l. fresh base (map cid_of l)) meets.all ∙ ap (fresh base) (map-append cid_of meets.before (meets.visit ∷ meets.after))
      ∙ ap (λ c. fresh base (map cid_of meets.before ++ c ∷ map cid_of meets.after)) meets.named
      ∙ (fresh-split base p.0 (map cid_of meets.before) (map cid_of meets.after) meets.first visited-new.1).1

  -- what is chosen of them
  chosen-split : chosen all new_ones ≡ chosen all earlier ++ p.0 ∷ chosen all rest
  chosen-split =
      ap (chosen all) cids-split
      ∙ ap (filter (has_block all)) (filter-append (knows all) earlier (p.0 ∷ rest) ∙ ap (λ b. filter (knows all) earlier ++ (if b then p.0 ∷ filter (knows all) rest else filter (knows all) rest)) sound)
      ∙ filter-append (has_block all) (filter (knows all) earlier) (p.0 ∷ filter (knows all) rest)
      ∙ ap (λ b. chosen all earlier ++ (if b then p.0 ∷ chosen all rest else chosen all rest)) stored where
        sound : knows all p.0 ≡ true
        sound = (in-filter (knows all) p.0 new_ones known-in).1

        stored : has_block all p.0 ≡ true
        stored = (in-filter (has_block all) p.0 (filter (knows all) new_ones) chosen-in).1

  -- the sections before it are those of the visits before it
  prefix : flat_map (pair_in all) (chosen all earlier) ≡ before
  prefix = by (block_of all p.0) refl where
    stored : has_block all p.0 ≡ true
    stored = (in-filter (has_block all) p.0 (filter (knows all) new_ones) chosen-in).1

    fresh-one : In p.0 (map pair_cid (flat_map (pair_in all) (chosen all earlier))) → ⊥
    fresh-one i = meets.first (in-fresh base p.0 (map cid_of meets.before) (in-filter (knows all) p.0 earlier (in-filter (has_block all) p.0 (filter (knows all) earlier) (subst (In p.0) (pair-cids (filter (knows all) earlier)) i)).0).0).0

    by : (o : Option (List ℕ)) → block_of all p.0 ≡ o → flat_map (pair_in all) (chosen all earlier) ≡ before
    by None at = absurd (let bad : false ≡ true = sym (ap is_some at) ∙ stored in cc bad)
    by (Some b) at =
        let whole : flat_map (pair_in all) (chosen all earlier) ++ (p.0, b) ∷ flat_map (pair_in all) (chosen all rest) ≡ sections =
        ap (λ o. flat_map (pair_in all) (chosen all earlier) ++ (pair_with p.0 o ++ flat_map (pair_in all) (chosen all rest))) (sym at)
        ∙ sym (flat_map-append (pair_in all) (chosen all earlier) (p.0 ∷ chosen all rest))
        ∙ ap (flat_map (pair_in all)) (sym chosen-split) ∙ own-pairs in
        same-before p.0 (flat_map (pair_in all) (chosen all earlier)) (flat_map (pair_in all) (chosen all rest)) before after (p.0, b) p refl refl fresh-one (not-before p.0 (map pair_cid before) (map pair_cid after) own-apart) whole

  abbrev place : ℕ
  place = length meets.before

  -- it is visited within the limit
  low : suc place ≤ job.limit
  low =
      let size : length every ≡ length meets.before + length (meets.visit ∷ meets.after) = ap length meets.all ∙ length-append meets.before (meets.visit ∷ meets.after) in
      let within : length every ≤ job.limit = ltb-false job.limit (length every) own.within in
      omega (arith, size, within)

  -- the visits up to it, over all sections
  visits-before : first_visits place job all ≡ meets.before
  visits-before =
      visits-first job all place (suc job.limit) (let h = low in omega (arith, h)) ∙ ap (take place) meets.all ∙ take-append_seam meets.before (meets.visit ∷ meets.after)

  visits-with : first_visits (suc place) job all ≡ meets.before ++ meets.visit ∷ []
  visits-with =
      let one : suc place ≡ place + 1 = omega arith in
      visits-first job all (suc place) (suc job.limit) (let h = low in omega (arith, h)) ∙ ap (take (suc place)) meets.all
      ∙ ap (λ n. take n (meets.before ++ meets.visit ∷ meets.after)) one ∙ take-append-add meets.before (meets.visit ∷ meets.after) 1

  -- over the sections before it they are the same
  abbrev earlier_store : Blocks
  earlier_store = base ++ before

  -- a CID that the base has, has its block there
  base-block : (c : List ℕ) → has_cid base c ≡ true → block_of earlier_store c ≡ block_of all c
  base-block c there = block-left base before c there ∙ sym (block-left base sections c there)

  -- any other has that of a section
  section-value : (c : List ℕ) → In c earlier → sound_value before c ≡ sound_value all c
  section-value c i = ap (λ s. sound_value s c) (sym prefix) ∙ value-same all earlier c i

  inside-before : (c : List ℕ) → In c (map cid_of meets.before) → sound_value earlier_store c ≡ sound_value all c
  inside-before c i = by (has_cid base c) refl where
    by : (b : Bool) → has_cid base c ≡ b → sound_value earlier_store c ≡ sound_value all c
    by true there = ap (value_in (hash_function_of (parts_of c)) c) (base-block c there)
    by false out = ap (value_in (hash_function_of (parts_of c)) c) (block-right base before c out) ∙ section-value c (fresh-in base c (map cid_of meets.before) i out)

  each-before : AllByRecursion (IsSameInside (is_entered job.selector) (sound_value all) (sound_value earlier_store)) (first_visits place job all)
  each-before = each-inside all earlier_store job (first_visits place job all) (λ c i. inside-before c (subst (λ l. In c (map cid_of l)) visits-before i))

  same-visits : first_visits place job earlier_store ≡ meets.before
  same-visits =
      once-same (is_entered job.selector) (sound_value all) (sound_value earlier_store) (residual_at job.selector) same_residual place [] (roots_from 0 job.roots) each-before ∙ visits-before

  same-next : first_visits (suc place) job earlier_store ≡ meets.before ++ meets.visit ∷ []
  same-next = next-same (is_entered job.selector) (residual_at job.selector) same_residual (sound_value all) (sound_value earlier_store) place [] (roots_from 0 job.roots) each-before ∙ visits-with

  -- the base has none of the CIDs whose sections they are
  same-sections : flat_map (pair_in earlier_store) (chosen earlier_store earlier) ≡ flat_map (pair_in before) (chosen before earlier)
  same-sections =
      chosen-same before earlier_store earlier (λ c i.
      (let e = block-right base before c (in-fresh base c (map cid_of meets.before) i).1 in (ap (λ o. is_sound (verdict_with c o)) e, λ _. e)))

  -- so the sections before it are received, and it is next
  pub own-received : (n : ℕ) × (suc n ≤ job.limit) × AreReceived base n job before × IsNextSection base n job before p
  own-received = (
    place,
    low,
    record {
      sound = subst (AllByRecursion (λ q. is_sound (verdict_with q.0 (Some q.1)) ≡ true)) prefix (sections-sound all earlier);
      visited =
          ap (λ l. flat_map (pair_in earlier_store) (chosen earlier_store (fresh base (map cid_of l)))) same-visits
          ∙ same-sections
          ∙ ap (λ s. flat_map (pair_in s) (chosen s earlier)) (sym prefix) ∙ sections-same all earlier ∙ prefix;
    },
    record {
      sound = (all-right (λ q. is_sound (verdict_with q.0 (Some q.1)) ≡ true) before (p ∷ after) own.sound).0;
      outside = visited-new.1;
      visit = meets.visit;
      next = same-next ∙ ap (λ l. l ++ meets.visit ∷ []) (sym same-visits);
      named = meets.named;
      first = λ h. meets.first (in-contains p.0 (map cid_of meets.before) (subst (λ l. Contains (map cid_of l) p.0) same-visits h));
    },
  )
