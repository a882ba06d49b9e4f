-- A section is received, or refused.
use Rattle.std.proofs.Common.{◌≡◌, ◌⊎◌, inl, inr, ℕ, suc, ◌+◌, ◌<◌, ◌≤◌, Bool, true, false, cond, List, [], ◌∷◌, ◌++◌, map, drop, take-append-drop, append_assoc, append-nil, refl, sym, ◌∙◌, ap, subst, arith, ltb-true, ltb-false}
use Rattle.std.specs.Prelude.{Option, Some, None, not, ◌&&◌, is_some, nat_lt, if◌then◌else◌, bytes_eq}
use Rattle.std.specs.List.{Contains, count_by, list_any}
use Rattle.std.specs.Ordering.{nat_cmp}
use Rattle.std.specs.Cmp.Lexicographic.{slice_cmp}
use Rattle.std.specs.BTreeMap.{is_at}
use Rattle.std.specs.BTreeSet.{BTreeSet}
use Rattle.std.proofs.lemmas.List.{map-append}
use Rattle.std.proofs.lemmas.List.Elements.{Contains-append_left, Contains-push_cases}
use Rattle.std.proofs.lemmas.List.Sums.{sum_by-append}
use Rattle.std.proofs.lemmas.Slice.Eq.{bytes_eq-Decides}
use Rattle.ix_cid.specs.Cid.{parts_of, digest_of, hash_function_of}
use Rattle.ix_cid.specs.declared.hash_function.HashFunction.{HashFunction}
use Rattle.ix_cid.specs.declared.hash_function.HashFunction.TheVariants.{Identity, Sha2_256, Sha2_512}
use Rattle.ix_verdict.specs.declared.verdict.Verdict.{Verdict}
use Rattle.ix_verdict.specs.declared.verdict.Verdict.TheVariants.{Codec, Hash, Missing, Damaged, Malformed, Sound, Inline}
use Rattle.ix_verdict.specs.Verdict.{has_codec, verdict_by, verdict_with, is_missing, is_no_data, passes as verdict_passes, is_sound}
use Rattle.ix_store.specs.Store.{Blocks, has_cid}
use Rattle.ix_check.specs.Verdict.{verdict_of}
use Rattle.ix_walk.specs.declared.subtree.PendingLink.{PendingLink}
use Rattle.ix_walk.specs.JobMeaning.{JobMeaning}
use Rattle.ix_walk.specs.Arrivals.{Arrival}
use Rattle.ix_walk.specs.Once.{cids_of}
use Rattle.ix_walk.specs.Visits.{arrivals_of, is_over_limit}
use Rattle.ix_walk.specs.Walking.{data_inside, links_inside, root_link}
use Rattle.ix_walk.proofs.Firsts.{In}
use Rattle.ix_walk.proofs.Links.{cid_of, all-append}
use Rattle.ix_walk.proofs.Reaches.{contains-in, in-contains}
use Rattle.ix_walk.proofs.Starts.{IsFollowed}
use Rattle.ix_receive.specs.Waiting.{all_waiting, IsNextLink}
use Rattle.ix_car.specs.Laws.{once}
use Rattle.ix_verdict.specs.declared.allow_missing.AllowMissing.{AllowMissing}
use Rattle.ix_receive.specs.declared.counts.Counts.{Counts}
use Rattle.ix_receive.specs.declared.traversal.Traversal.{Traversal}
use Rattle.ix_receive.specs.Receiving.{first_visits, AreReceived, IsNextSection}
use Rattle.ix_receive.specs.declared.traversal.Skips.{Skips}
use Rattle.ix_receive.specs.Missing.{lacks_block, is_unread}
use Rattle.ix_receive.specs.Roots.{RootsPass}
use Rattle.ix_receive.specs.Traversal.{visited, expanded_by, links_of, IsTraversed, Expands, as_pending}
use Rattle.ix_known.specs.Known.{AreSound}
use Rattle.ix_receive.specs.Passing.{has, KnowsSkips, IsNotedThere, IsPassing, IsBefore, IsNeeded, IsStopped, IsFound, IsAtEnd, IsPassed}
use Rattle.ix_receive.specs.Reception.{IsReceiving, IsReceived, IsWhole, reception_with}
use Rattle.ix_known.proofs.Lists.{no-block}
use Rattle.ix_receive.proofs.Received.{visits-first, none-at-first, stored-visited, received-stay, received-own, next-received, own-block, section-block}
use Rattle.ix_receive.proofs.Expansions.{expanded-none}
use Rattle.ix_receive.proofs.Traversing.{begins, visits-one, next-visit, steps, kept-block, grown-visits, grows, ends-visits, ends-count, ends-within, over}
use Rattle.ix_receive.proofs.Passings.{knows-there, put-links}

-- ---- the next link

module _ (job : JobMeaning) (allowed : AllowMissing) (sections : Blocks) (t u : Traversal) (is : IsPassing job allowed sections t) where
  -- it is taken, within the limit
  pub before : (f : PendingLink) → IsNextLink job.selector (map as_pending t.links.items) t.roots.now (Some f) (map as_pending u.links.items) u.roots.now → u.expanded ≡ t.expanded → u.visits ≡ t.visits → u.skips ≡ t.skips
      → (t.visits ≡ job.limit → ⊥) → IsBefore job allowed sections f u
  before f next expanded visits skips not =
      let low = is.traversed.low in
      let within : t.visits < job.limit = omega arith in
      record {
        sound = is.sound;
        within = subst (λ k. k < job.limit) (sym visits) within;
        traversed =
            subst (λ k. IsTraversed k job sections (expanded_by u.expanded) (f ∷ links_of job.selector u)) (sym visits)
            (subst (λ (s : BTreeSet _). IsTraversed t.visits job sections (expanded_by s) (f ∷ links_of job.selector u)) (sym expanded)
            (subst (IsTraversed t.visits job sections (expanded_by t.expanded)) next.links is.traversed));
        skips = subst (λ k. KnowsSkips k job allowed sections u.skips) (sym visits) (subst (λ (s : Skips). KnowsSkips t.visits job allowed sections s) (sym skips) is.skips);
      }

  -- at the limit it is one too many
  pub too-many : (f : PendingLink) → IsNextLink job.selector (map as_pending t.links.items) t.roots.now (Some f) (map as_pending u.links.items) u.roots.now → t.visits ≡ job.limit → is_over_limit sections (once job) ≡ true
  too-many f next at = over t.visits job sections (expanded_by t.expanded) f (links_of job.selector u) at (subst (IsTraversed t.visits job sections (expanded_by t.expanded)) next.links is.traversed)

  -- there is none
  pub no-link : IsNextLink job.selector (map as_pending t.links.items) t.roots.now None (map as_pending u.links.items) u.roots.now → links_of job.selector t ≡ []
  no-link next = next.links ∙ next.ends

-- and none is left
pub no-more : (job : JobMeaning) (sections : Blocks) (t u : Traversal) → IsNextLink job.selector (map as_pending t.links.items) t.roots.now None (map as_pending u.links.items) u.roots.now → links_of job.selector u ≡ []
no-more job sections t u next = next.ends

-- then all visits were made
pub at-end : (job : JobMeaning) (allowed : AllowMissing) (sections : Blocks) (t : Traversal) → IsPassing job allowed sections t → links_of job.selector t ≡ [] → IsTraversed t.visits job sections (expanded_by t.expanded) []
at-end job allowed sections t is none = subst (IsTraversed t.visits job sections (expanded_by t.expanded)) none is.traversed

-- and those of no CID that wasn't visited
pub not-asked : (job : JobMeaning) (allowed : AllowMissing) (sections : Blocks) (t : Traversal) (c : List ℕ) → IsPassing job allowed sections t → links_of job.selector t ≡ [] → (Contains (visited t.visits job sections) c → ⊥)
    → (is_over_limit sections (once job) ≡ false) × (Contains (cids_of (arrivals_of sections (once job))) c → ⊥)
not-asked job allowed sections t c is none new =
    let end = at-end job allowed sections t is none in
    let low : t.visits ≤ suc job.limit = let h = end.low in omega arith in (
      ends-within t.visits job sections (expanded_by t.expanded) end,
      λ i. new (subst (λ l. Contains l c) (ends-visits t.visits (suc job.limit) job sections (expanded_by t.expanded) low end) i),
    )

-- a CID that is new stays so, after the visit of another
pub still-new : (job : JobMeaning) (allowed : AllowMissing) (sections : Blocks) (f : PendingLink) (old new : Traversal) (c : List ℕ) → IsPassed job allowed sections f old new → bytes_eq f.cid c ≡ false → (Contains (visited old.visits job sections) c → ⊥)
    → Contains (visited new.visits job sections) c → ⊥
still-new job allowed sections f old new c passed isnt first i = by (Contains-push_cases (visited old.visits job sections) f.cid c (subst (λ l. Contains l c) passed.last i)) where
  by : Contains (visited old.visits job sections) c ⊎ (f.cid ≡ c) → ⊥
  by (inl h) = first h
  by (inr same) = let bad : false ≡ true = sym isnt ∙ (bytes_eq-Decides f.cid c).1 same in cc bad

-- and stays so, after one whose block is missing
pub new-before : (job : JobMeaning) (allowed : AllowMissing) (sections : Blocks) (f : PendingLink) (t : Traversal) (c d : List ℕ) → IsStopped job allowed sections f t d → bytes_eq f.cid c ≡ false → (Contains (visited t.visits job sections) c → ⊥)
    → (n : ℕ) × IsNeeded n job allowed sections d × (Contains (visited (suc n) job sections) c → ⊥)
new-before job allowed sections f t c d stopped isnt first = (t.visits, stopped.needed, λ i. by (Contains-push_cases (visited t.visits job sections) d c (subst (λ l. Contains l c) stopped.needed.next i))) where
  by : Contains (visited t.visits job sections) c ⊎ (d ≡ c) → ⊥
  by (inl h) = first h
  by (inr same) = let bad : false ≡ true = sym isnt ∙ (bytes_eq-Decides f.cid c).1 (sym stopped.named ∙ same) in cc bad

-- ---- whether a block is missing

-- a CID whose block could be sound lacks it if there is none
could-have : (f : Option HashFunction) (c b : List ℕ) → is_sound (if has_codec c then verdict_by f c (Some b) else Codec) ≡ true → is_missing (if has_codec c then verdict_by f c None else Codec) ≡ true
could-have f c b h = by (has_codec c) f h where
  no-inline : (m : Bool) → is_sound (if m then Malformed else Inline) ≡ true → is_missing (if m then Malformed else Inline) ≡ true
  no-inline true e = absurd (cc e)
  no-inline false e = absurd (cc e)

  by : (codec : Bool) (f : Option HashFunction) → is_sound (if codec then verdict_by f c (Some b) else Codec) ≡ true → is_missing (if codec then verdict_by f c None else Codec) ≡ true
  by false f e = absurd (cc e)
  by true None e = absurd (cc e)
  by true (Some Identity) e = no-inline (is_no_data c (digest_of c)) e
  by true (Some Sha2_256) e = refl
  by true (Some Sha2_512) e = refl

-- a sound verdict isn't that the block is missing
sound-there : (v : Verdict) → is_sound v ≡ true → is_missing v ≡ false
sound-there Codec h = refl
sound-there Hash h = refl
sound-there Missing h = absurd (cc h)
sound-there Damaged h = refl
sound-there Malformed h = refl
sound-there Sound h = refl
sound-there Inline h = refl

-- nor that the CID isn't read
sound-read : (v : Verdict) → is_sound v ≡ true → (not (verdict_passes v) && not (is_missing v)) ≡ false
sound-read Codec h = absurd (cc h)
sound-read Hash h = absurd (cc h)
sound-read Missing h = refl
sound-read Damaged h = absurd (cc h)
sound-read Malformed h = absurd (cc h)
sound-read Sound h = refl
sound-read Inline h = refl

-- one that is read adds none
none-unread : (b : Bool) → b ≡ false → (k : ℕ) → k ≡ k + (if b then 1 else 0)
none-unread true h k = absurd (cc h)
none-unread false h k = omega arith

-- so a sound section whose CID was visited without it is among the missing
pub new-cid : (job : JobMeaning) (allowed : AllowMissing) (sections : Blocks) (t : Traversal) (p : List ℕ × List ℕ) → IsPassing job allowed sections t → is_sound (verdict_with p.0 (Some p.1)) ≡ true → has_cid sections p.0 ≡ false → has t.skips.missing p.0 ≡ false
    → Contains (visited t.visits job sections) p.0 → ⊥
new-cid job allowed sections t p is sound out not i =
    let lacks : lacks_block sections p.0 ≡ true = ap (λ o. is_missing (verdict_with p.0 o)) (no-block sections p.0 out) ∙ could-have (hash_function_of (parts_of p.0)) p.0 p.1 sound in
    let bad : false ≡ true = sym not ∙ is.skips.recorded p.0 i lacks in cc bad

-- ---- numbers

-- one number is no greater than another, or is
pub le_or : (m n : ℕ) → (m ≤ n) ⊎ (suc n ≤ m)
le_or m n = by (nat_lt n m) refl where
  by : (b : Bool) → nat_lt n m ≡ b → (m ≤ n) ⊎ (suc n ≤ m)
  by true is = inr (let h = ltb-true n m is in omega (arith, h))
  by false isnt = inl (ltb-false n m isnt)

-- what was visited is among more visits
pub visited-more : (job : JobMeaning) (sections : Blocks) (m n : ℕ) (c : List ℕ) → m ≤ n → Contains (visited m job sections) c → Contains (visited n job sections) c
visited-more job sections m n c low i =
    let all : visited n job sections ≡ visited m job sections ++ cids_of (drop m (first_visits n job sections)) =
    ap cids_of (sym (take-append-drop m (first_visits n job sections)) ∙ ap (λ l. l ++ drop m (first_visits n job sections)) (sym (visits-first job sections m n low)))
    ∙ map-append cid_of (first_visits m job sections) (drop m (first_visits n job sections)) in
    subst (λ l. Contains l c) (sym all) (Contains-append_left (visited m job sections) (cids_of (drop m (first_visits n job sections))) c i)

-- the same tests count the same
count-same : (f g : List ℕ → Bool) (cs : List (List ℕ)) → ((c : List ℕ) → In c cs → f c ≡ g c) → count_by f cs ≡ count_by g cs
count-same f g [] h = refl
count-same f g (c ∷ cs) h =
    sum_by-append (λ x. cond (f x) 1 0) (c ∷ []) cs ∙ (λ i. (0 + cond (h c (inl refl) i) 1 0) + count-same f g cs (λ d j. h d (inr j)) i)
    ∙ sym (sum_by-append (λ x. cond (g x) 1 0) (c ∷ []) cs)

-- ---- a section is received

module _ (base : Blocks) (job : JobMeaning) (allowed : AllowMissing) (sections : Blocks) (p : List ℕ × List ℕ) (f : PendingLink) (old t : Traversal) (was : IsReceiving base job allowed sections old) (found : IsFound job allowed (base ++ sections) p.0 f old t) (sound : is_sound (verdict_with p.0 (Some p.1)) ≡ true) (outside : has_cid base p.0 ≡ false) where
  abbrev n : ℕ
  n = t.visits

  -- what there is before it
  abbrev now : Blocks
  now = base ++ sections

  -- and with it
  abbrev more : Blocks
  more = now ++ p ∷ []

  same-more : more ≡ base ++ (sections ++ p ∷ [])
  same-more = append_assoc base sections (p ∷ [])

  abbrev links : List PendingLink
  links = links_of job.selector t

  -- the visits go on with its link
  abbrev traversed : IsTraversed n job now (expanded_by t.expanded) (f ∷ links)
  traversed = found.before.traversed

  -- its visit is the next
  next-one : (visit : Arrival) × (first_visits (suc n) job now ≡ first_visits n job now ++ visit ∷ []) × (visit.cid ≡ f.cid)
  next-one = next-visit n job now (expanded_by t.expanded) f links traversed

  pub is-next : IsNextSection base n job sections p
  is-next = record { sound = sound; outside = outside; visit = next-one.0; next = next-one.1; named = next-one.2 ∙ found.named; first = found.first }

  -- so far the sections are received
  pub so-far : AreReceived base n job sections
  so-far = received-stay base job sections old.visits was.received n found.later

  pub now-received : AreReceived base (suc n) job (sections ++ p ∷ [])
  now-received = next-received base job sections p n so-far is-next

  -- all blocks are sound
  pub now-sound : AreSound (base ++ (sections ++ p ∷ []))
  now-sound = subst AreSound same-more (all-append (λ p. is_sound (verdict_with p.0 (Some p.1)) ≡ true) now (p ∷ []) found.before.sound (sound, tt))

  -- after no fewer visits
  pub now-least : (m : ℕ) → AreReceived base m job (sections ++ p ∷ []) → suc n ≤ m
  now-least m is = by (le_or m n) where
    by : (m ≤ n) ⊎ (suc n ≤ m) → suc n ≤ m
    by (inr high) = high
    by (inl low) =
        let there = stored-visited base job (sections ++ p ∷ []) m is p.0 (ap is_some (own-block base job sections p n so-far is-next)) in
        let visits : Contains (visited m job more) p.0 = subst (λ (s : Blocks). Contains (visited m job s) p.0) (sym same-more) (contains-in p.0 (visited m job (base ++ (sections ++ p ∷ []))) there) in
        absurd (found.first (subst (λ l. Contains l p.0) (grown-visits n job now (expanded_by t.expanded) (f ∷ links) p traversed found.first) (visited-more job more m n p.0 low visits)))

  -- the traversal goes on over them
  pub now-traversed : IsTraversed n job more (expanded_by t.expanded) (f ∷ links)
  now-traversed = grows n job now (expanded_by t.expanded) (f ∷ links) p traversed found.first

  -- the verdicts stay
  kept-verdict : (c : List ℕ) → Contains (visited n job now) c → verdict_of more c ≡ verdict_of now c
  kept-verdict c i = ap (λ o. verdict_with c o) (kept-block now p c (λ e. found.first (subst (Contains (visited n job now)) (sym e) i)))

  -- what was missing still is
  kept-lacks : (c : List ℕ) → Contains (visited n job now) c → lacks_block more c ≡ lacks_block now c
  kept-lacks c i = ap is_missing (kept-verdict c i)

  -- and what isn't read still isn't
  kept-unread : (c : List ℕ) → Contains (visited n job now) c → is_unread more c ≡ is_unread now c
  kept-unread c i = ap (λ v. not (verdict_passes v) && not (is_missing v)) (kept-verdict c i)

  same-visits : visited n job more ≡ visited n job now
  same-visits = grown-visits n job now (expanded_by t.expanded) (f ∷ links) p traversed found.first

  kept-knows : KnowsSkips n job allowed more t.skips
  kept-knows =
      let knows = found.before.skips in
      let back : (c : List ℕ) → Contains (visited n job more) c → Contains (visited n job now) c = λ c i. subst (λ l. Contains l c) same-visits i in
      record {
        recorded = λ c i lacks. knows.recorded c (back c i) (sym (kept-lacks c (back c i)) ∙ lacks);
        met = λ c i. subst (λ l. Contains l c) (sym same-visits) (knows.met c i);
        may = λ c i lacks. knows.may c (back c i) (sym (kept-lacks c (back c i)) ∙ lacks);
        count =
            knows.count ∙ sym (count-same (lacks_block more) (lacks_block now) (visited n job now) (λ c i. kept-lacks c (contains-in c (visited n job now) i)))
            ∙ ap (count_by (lacks_block more)) (sym same-visits);
        unread =
            knows.unread ∙ sym (count-same (is_unread more) (is_unread now) (visited n job now) (λ c i. kept-unread c (contains-in c (visited n job now) i)))
            ∙ ap (count_by (is_unread more)) (sym same-visits);
      }

  -- and its block isn't
  here : lacks_block more p.0 ≡ false
  here = ap (λ o. is_missing (verdict_with p.0 o)) (section-block base job sections p n so-far is-next) ∙ sound-there (verdict_with p.0 (Some p.1)) sound

  -- it is read
  read : is_unread more p.0 ≡ false
  read = ap (λ o. not (verdict_passes (verdict_with p.0 o)) && not (is_missing (verdict_with p.0 o))) (section-block base job sections p n so-far is-next) ∙ sound-read (verdict_with p.0 (Some p.1)) sound

  -- so its visit skips nothing
  none-skipped : IsNotedThere more p.0 t.skips t.skips
  none-skipped = record { missing = refl; absent = refl; unread = none-unread (is_unread more p.0) read t.skips.unread }

  -- its link was expanded
  module _ (u : Traversal) (expanded : Expands (base ++ (sections ++ p ∷ [])) f t.expanded (map as_pending t.links.items) u.expanded (map as_pending u.links.items)) (roots : u.roots.now ≡ t.roots.now) (visits : u.visits ≡ n + 1) (skips : u.skips ≡ t.skips) where
    expands : Expands more f t.expanded (map as_pending t.links.items) u.expanded (map as_pending u.links.items)
    expands = subst (λ (s : Blocks). Expands s f t.expanded (map as_pending t.links.items) u.expanded (map as_pending u.links.items)) (sym same-more) expanded

    count : u.visits ≡ suc n
    count = let one : n + 1 ≡ suc n = omega arith in visits ∙ one

    pub now-passing : IsPassing job allowed more u
    now-passing =
        let inside = links_inside f.residual (f.depth + 1) (data_inside more (Some (expanded_by t.expanded)) f) in
        let put : links_of job.selector u ≡ inside ++ links =
        ap (λ rs. all_waiting job.selector (map as_pending u.links.items) rs) roots ∙ put-links job.selector inside (map as_pending t.links.items) (map as_pending u.links.items) t.roots.now expands.links in
        let last : visited (suc n) job more ≡ visited n job more ++ p.0 ∷ [] = visits-one n job more (expanded_by t.expanded) f links now-traversed ∙ ap (λ c. visited n job more ++ c ∷ []) found.named in
        record {
          sound = all-append (λ p. is_sound (verdict_with p.0 (Some p.1)) ≡ true) now (p ∷ []) found.before.sound (sound, tt);
          traversed =
              subst (λ k. IsTraversed k job more (expanded_by u.expanded) (links_of job.selector u)) (sym count)
              (steps n job more (expanded_by t.expanded) f links now-traversed (expanded_by u.expanded) (links_of job.selector u) found.before.within expands.expanded put);
          skips =
              subst (λ k. KnowsSkips k job allowed more u.skips) (sym count)
              (subst (λ (s : Skips). KnowsSkips (suc n) job allowed more s) (sym skips) (knows-there n job allowed more t.skips kept-knows p.0 last t.skips here none-skipped));
        }

    pub is-received : (store : Blocks × Blocks) → store.0 ≡ base → store.1 ≡ sections ++ p ∷ [] → IsReceived job allowed (base, sections) old.visits p store u
    is-received store kept same = record {
      place = n;
      next = record { later = found.later; within = found.before.within; next = is-next; may = found.before.skips.may };
      base = kept;
      added = same;
      visits_now = count;
      receiving =
          subst (λ (b : Blocks). IsReceiving b job allowed store.1 u) (sym kept)
          (subst (λ (s : Blocks). IsReceiving base job allowed s u) (sym same)
          (record {
            received = subst (λ k. AreReceived base k job (sections ++ p ∷ [])) (sym count) now-received;
            least = λ m is. subst (λ k. k ≤ m) (sym count) (now-least m is);
            passing = subst (λ (s : Blocks). IsPassing job allowed s u) same-more now-passing;
          }));
    }

-- ---- the beginning and the end

pub none-received : (base : Blocks) (job : JobMeaning) (allowed : AllowMissing) (t : Traversal) → AreSound base → IsFollowed job.selector → t.expanded.keys ≡ [] → t.links.items ≡ [] → t.roots.now ≡ job.roots → t.visits ≡ 0 → t.skips.missing.keys ≡ [] → t.skips.absent ≡ 0 → t.skips.unread ≡ 0
    → IsReceiving base job allowed [] t
none-received base job allowed t all_sound is expanded links roots visits missing absent unread =
    let none : IsTraversed 0 job (base ++ []) (expanded_by t.expanded) (map (root_link job.selector) job.roots) = begins job (base ++ []) (expanded_by t.expanded) is (expanded-none t.expanded expanded) in
    let all : links_of job.selector t ≡ map (root_link job.selector) job.roots = ap (λ ls. all_waiting job.selector (map as_pending ls) t.roots.now) links ∙ ap (map (root_link job.selector)) roots in
    let empty : (c : List ℕ) → has t.skips.missing c ≡ false = λ c. ap (λ ks. list_any (is_at (slice_cmp nat_cmp c)) ks) missing in
    record {
      received = subst (λ k. AreReceived base k job []) (sym visits) (none-at-first base job);
      least = λ m h. subst (λ k. k ≤ m) (sym visits) (omega arith);
      passing = record {
        sound = subst AreSound (sym (append-nil base)) all_sound;
        traversed = subst (λ k. IsTraversed k job (base ++ []) (expanded_by t.expanded) (links_of job.selector t)) (sym visits) (subst (IsTraversed 0 job (base ++ []) (expanded_by t.expanded)) (sym all) none);
        skips = subst (λ k. KnowsSkips k job allowed (base ++ []) t.skips) (sym visits) (record {
          recorded = λ c i. absurd (in-contains c [] i);
          met = λ c i. absurd (let bad : false ≡ true = sym (empty c) ∙ i in cc bad);
          may = λ c i. absurd (in-contains c [] i);
          count = absent;
          unread = unread;
        });
      };
    }

pub is-whole : (base : Blocks) (job : JobMeaning) (allowed : AllowMissing) (sections : Blocks) (old new : Traversal) (ended : Bool) (counts : Counts) → IsReceiving base job allowed sections old → IsAtEnd job allowed (base ++ sections) old new
    → RootsPass (base ++ sections) job.roots → counts.visits ≡ new.visits → counts.missing ≡ new.skips.absent → counts.unread ≡ new.skips.unread → IsWhole (reception_with base job allowed sections old.visits ended) counts
is-whole base job allowed sections old new ended counts was end roots visits missing unread =
    let store = base ++ sections in
    let done = at-end job allowed store new end.passing end.ends in
    let low : new.visits ≤ suc job.limit = let h = done.low in omega arith in
    let first : old.visits ≤ suc job.limit = let h = end.later in omega (arith, low) in
    let all : visited (suc job.limit) job store ≡ visited new.visits job store = ends-visits new.visits (suc job.limit) job store (expanded_by new.expanded) low done in
    record {
      own = λ number. received-own base job sections old.visits was.received number first (ends-within new.visits job store (expanded_by new.expanded) done);
      may = λ c i. end.passing.skips.may c (subst (λ l. Contains l c) all i);
      roots = roots;
      visits = visits ∙ sym (ends-count new.visits job store (expanded_by new.expanded) done);
      missing = missing ∙ end.passing.skips.count ∙ ap (count_by (lacks_block store)) (sym all);
      unread = unread ∙ end.passing.skips.unread ∙ ap (count_by (is_unread store)) (sym all);
    }
