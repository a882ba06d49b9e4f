-- What was added to a table, step by step.
use Rattle.std.proofs.Common.{◌≡◌, ℕ, ◌+◌, ◌-◌, ◌<◌, ◌≤◌, Bool, true, false, List, [], ◌∷◌, ◌++◌, length, map, get_or, take, drop, refl, sym, ◌∙◌, ap, subst, arith, length-append, length-drop, append-nil, append_assoc}
use Rattle.std.specs.Prelude.{Option, Some, Result, Ok, Err, OnOk, OnErr, slice_get, slice_range, All}
use Rattle.std.proofs.Math.ListN.{get_or-append}
use Rattle.std.proofs.Math.Seq.{drop-append_seam}
use Rattle.std.proofs.lemmas.List.{take_more, take_all, length-map, get_or-drop}
use Rattle.std.proofs.lemmas.Option.{get_or_from_slice_get, slice_get_within, slice_get-get_or}
use Rattle.ix_cbor.specs.Data.{Data}
use Rattle.ix_selector.specs.Pattern.{Pattern, IsSelector}
use Rattle.ix_selector.specs.Residual.{Place}
use Rattle.ix_selector.proofs.Onward.{left-entered}
use Rattle.ix_store.specs.Store.{Blocks, value_of}
use Rattle.ix_store.specs.Memo.{hash_matches}
use Rattle.ix_walk.specs.declared.subtree.PendingLink.{PendingLink}
use Rattle.ix_walk.specs.Arriving.{IsValue}
use Rattle.ix_walk.specs.Visits.{is_malformed}
use Rattle.ix_walk.specs.Walking.{waiting, links_inside, is_barren}
use Rattle.ix_walk.proofs.Starts.{followed}
use Rattle.ix_walk.proofs.Goes.{sound_stored, sound_valued, damaged_barren}
use Rattle.ix_walk.specs.Expansion.{AreLinksIn}
use Rattle.ix_prefetch.specs.Reading.{IsBlockAt, IsReadAt}
use Rattle.ix_prefetch.specs.Expansions.{ExpansionTable, IsMet, residual_in, HasNumber, IsLinkAt, IsPair, IsTableOf, link_at, table_of}
use Rattle.ix_prefetch.specs.Link.{cid_at, pending_of}
use Rattle.ix_prefetch.specs.declared.link.Link.{Link}
use Rattle.ix_prefetch.specs.declared.link.LinkAt.TheVariants.{Stored, Written}
use Rattle.ix_prefetch.specs.declared.link.Pair.{Pair}
use Rattle.ix_prefetch.specs.declared.reading.Read.{Read}
use Rattle.ix_prefetch.specs.declared.stop.TableStop.{TableStop}
use Rattle.ix_walk.specs.JobMeaning.{JobMeaning}
use Rattle.ix_prefetch.specs.Growing.{Adds, AddsSome, AddsBlock, AddsOrSome, AddsBlockOrSome, AddsPair, at_depth}
use Rattle.ix_prefetch.proofs.Resting.{HaveRests, rests_below, moved_below}

-- nothing was added
pub adds_nothing : (t : ExpansionTable) → Adds t t []
adds_nothing t = record { residuals = []; store = refl; job = refl; more = sym (append-nil t.residuals); added = sym (append-nil t.links) }

-- nor to an equal table
pub adds_to_same : (old new : ExpansionTable) → new ≡ old → Adds old new []
adds_to_same old new e = subst (λ (t : ExpansionTable). Adds old t []) (sym e) (adds_nothing old)

-- some links, and then others
pub adds_then : (a b c : ExpansionTable) (xs ys : List PendingLink) → Adds a b xs → Adds b c ys → Adds a c (xs ++ ys)
adds_then a b c xs ys one two = record {
  residuals = one.residuals ++ two.residuals;
  store = two.store ∙ one.store;
  job = two.job ∙ one.job;
  more = two.more ∙ ap (λ (z : List (List Place)). z ++ two.residuals) one.more ∙ append_assoc a.residuals one.residuals two.residuals;
  added = two.added ∙ ap (λ (z : List PendingLink). z ++ ys) one.added ∙ append_assoc a.links xs ys;
}

-- links that are equal
pub adds_same : (old new : ExpansionTable) (xs ys : List PendingLink) → xs ≡ ys → Adds old new xs → Adds old new ys
adds_same old new xs ys e adds = subst (Adds old new) e adds

-- ---- a block

-- the links of a block, without their depth, are those of its data
pub block_links : (store : Blocks) (c bytes : List ℕ) (places : List Place) (links : List PendingLink) → IsValue (value_of store c) (Some bytes) → AreLinksIn bytes places 0 links → map (at_depth 0) links ≡ links_inside places 0 (value_of store c)
block_links store c bytes places links value are =
    ap (map (at_depth 0)) (are value.0 value.2) ∙ sym (moved_below 0 0 places value.0) ∙ sym (ap (λ (o : Option Data). links_inside places 0 o) value.1)

-- their residuals are the selector's
pub links_met : (s : Pattern) (store : Blocks) (c bytes : List ℕ) (places : List Place) (links : List PendingLink) → IsSelector s → IsMet s places → IsValue (value_of store c) (Some bytes) → AreLinksIn bytes places 0 links
    → All (λ f. IsMet s f.residual) links
links_met s store c bytes places links is met value are = subst (HaveRests s) (sym (are value.0 value.2)) (rests_below s (followed s (λ p. left-entered s is p)) 0 places value.0 met)

-- ---- a pair

-- a part of a list at its end
last_part : {X : Type 0} (xs ys : List X) → slice_range (xs ++ ys) (length xs) (length (xs ++ ys)) ≡ ys
last_part xs ys =
    let n : length (xs ++ ys) - length xs ≡ length ys = let l = length-append xs ys in omega (arith, l) in
    ap (λ (k : ℕ). take k (drop (length xs) (xs ++ ys))) n ∙ ap (take (length ys)) (drop-append_seam xs ys) ∙ take_all (length ys) ys (omega arith)

-- the same of a list that was extended
range_added : {X : Type 0} (xs ys all : List X) (from to : ℕ) → all ≡ xs ++ ys → from ≡ length xs → to ≡ length all → slice_range all from to ≡ ys
range_added xs ys all from to e f g =
    (λ i. slice_range (e i) (f i) ((g ∙ ap length e) i)) ∙ last_part xs ys

-- a residual has its number after more were added
number_kept : (old new : ExpansionTable) (links : List PendingLink) (places : List Place) (n : ℕ) → Adds old new links → HasNumber old places n → HasNumber new places n
number_kept old new links places n adds is =
    let lt = slice_get_within old.residuals n places is in
    ap (λ (l : List (List Place)). slice_get l n) adds.more
    ∙ slice_get-get_or (old.residuals ++ adds.residuals) n [] (omega (arith, lt, length-append old.residuals adds.residuals))
    ∙ ap (λ (r : List Place). Some r) (get_or-append old.residuals adds.residuals [] n lt ∙ get_or_from_slice_get old.residuals n places [] is)

-- the pair whose links were added
pub pair_made : (old new : ExpansionTable) (place number from to : ℕ) (places : List Place) (cid : List ℕ) (malformed barren : Bool) → HasNumber old places number → from ≡ length old.links → to ≡ length new.links → cid ≡ cid_at old.store place
    → malformed ≡ is_malformed old.store cid → AddsBlock old new cid places barren → IsPair new (record { place = place; from = from; to = to; residual = number; malformed = malformed; barren = barren })
pair_made old new place number from to places cid malformed true numbered first last named fault adds =
    let store : new.store ≡ old.store = ap (λ (t : ExpansionTable). t.store) adds.1 in
    let has : HasNumber new places number = number_kept old new [] places number (adds_to_same old new adds.1) numbered in
    let same : length new.links ≡ length old.links = ap (λ (t : ExpansionTable). length t.links) adds.1 in
    record {
      residual = slice_get_within new.residuals number places has;
      ordered = omega (arith, first, last, same);
      within = omega (arith, last);
      links = λ live. absurd cc;
      malformed = fault ∙ (λ i. is_malformed (sym store i) (named i)) ∙ ap (λ (s : Blocks). is_malformed new.store (cid_at s place)) (sym store);
      barren = λ _. (λ i. is_barren (store i) (cid_at (store i) place)) ∙ ap (is_barren old.store) (sym named) ∙ adds.0;
    }
pair_made old new place number from to places cid malformed false numbered first last named fault adds =
    let store : new.store ≡ old.store = adds.store in
    let has : HasNumber new places number = number_kept old new (links_inside places 0 (value_of old.store cid)) places number adds numbered in
    let more : length new.links ≡ length (old.links ++ links_inside places 0 (value_of old.store cid)) = ap length adds.added in
    record {
      residual = slice_get_within new.residuals number places has;
      ordered = omega (arith, first, last, more, length-append old.links (links_inside places 0 (value_of old.store cid)));
      within = omega (arith, last);
      links = λ _.
          range_added old.links (links_inside places 0 (value_of old.store cid)) new.links from to adds.added first last
          ∙ ap (λ (c : List ℕ). links_inside places 0 (value_of old.store c)) named
          ∙ (λ i. links_inside (sym (get_or_from_slice_get new.residuals number places [] has) i) 0 (value_of (sym store i) (cid_at (sym store i) place)));
      malformed = fault ∙ (λ i. is_malformed (sym store i) (named i)) ∙ ap (λ (s : Blocks). is_malformed new.store (cid_at s place)) (sym store);
      barren = λ b. absurd cc;
    }

-- ---- a call that may fail

-- what follows from what holds if it didn't
pub on_ok : {T E P Q : Type 0} (r : Result T E) → (P → Q) → OnOk r P → OnOk r Q
on_ok (Ok x) f h = f h
on_ok (Err e) f h = tt

-- what holds whether or not it did
pub on_err : {T E P : Type 0} (r : Result T E) → P → OnErr r P
on_err (Ok x) p = tt
on_err (Err e) p = p

-- what a failed call added
pub some_added : {T : Type 0} (old new : ExpansionTable) (links : List PendingLink) (r : Result T TableStop) (y : TableStop) → r ≡ Err y → AddsSome old new → AddsOrSome old new links r
some_added {T = T} old new links r y e some = subst (λ (x : Result T TableStop). AddsOrSome old new links x) (sym e) (record { added = tt; err = some })

pub some_of_block : (old new : ExpansionTable) (c : List ℕ) (places : List Place) (r : Result Bool TableStop) (y : TableStop) → r ≡ Err y → AddsSome old new → AddsBlockOrSome old new c places r
some_of_block old new c places r y e some = subst (AddsBlockOrSome old new c places) (sym e) (record { block = tt; err = some })

pub some_of_pair : (old new : ExpansionTable) (r : Result Pair TableStop) (y : TableStop) → r ≡ Err y → AddsSome old new → AddsPair old new r
some_of_pair old new r y e some = subst (AddsPair old new) (sym e) (record { some = some; pair = tt })

-- a link that was added after a residual
pub link_added : (old mid new : ExpansionTable) (places : List Place) (n : ℕ) (c d : List ℕ) → Adds old mid [] → HasNumber mid places n → d ≡ c → Adds mid new (waiting (residual_in mid n) 0 d ∷ []) → Adds old new (waiting places 0 c ∷ [])
link_added old mid new places n c d one numbered same two =
    adds_same old new _ _
    ((λ i. waiting (get_or_from_slice_get mid.residuals n places [] numbered i) 0 (same i) ∷ []))
    (adds_then old mid new [] (waiting (residual_in mid n) 0 d ∷ []) one two)

-- nothing is visited below a damaged block
pub damaged : (store : Blocks) (c b : List ℕ) (place : ℕ) (r : Bool) → IsBlockAt store place c b → r ≡ get_or (map hash_matches store) place false → r ≡ false → is_barren store c ≡ true
damaged store c b place r block asked fails =
    damaged_barren store c (sym (sound_valued store c b r block.value (sound_stored store c block.needed.0 block.needed.1 place r block.there asked)) ∙ fails)

-- ---- a pair that was read

-- a number of links, by what a table shows of them
pub shown_length : (store : Blocks) (job : JobMeaning) (rs : List (List Place)) (cs : List (List ℕ)) (ls : List Link) (t : ExpansionTable) (n : ℕ) → table_of store job rs cs ls ≡ t → n ≡ length ls → n ≡ length t.links
shown_length store job rs cs ls t n shows is = is ∙ sym (length-map ls (pending_of store rs cs)) ∙ ap (λ (x : ExpansionTable). length x.links) shows

-- a residual has its number
pub has_number : (t : ExpansionTable) (n : ℕ) → n < length t.residuals → HasNumber t (residual_in t n) n
has_number t n lt = slice_get-get_or t.residuals n [] lt

-- the pair of a block whose links were added
pub pair_read : (mid new : ExpansionTable) (place number from to : ℕ) (places : List Place) (r : Read) (barren : Bool) → IsReadAt mid.store place r → HasNumber mid places number → from ≡ length mid.links → to ≡ length new.links → AddsBlock mid new r.cid places barren
    → IsPair new (record { place = place; from = from; to = to; residual = number; malformed = r.malformed; barren = barren })
pair_read mid new place number from to places r barren is has first last adds =
    pair_made mid new place number from to places r.cid r.malformed barren has first last is.cid is.reading.1 adds

-- links were added
pub block_adds : (old new : ExpansionTable) (c : List ℕ) (places : List Place) (barren : Bool) → AddsBlock old new c places barren → AddsSome old new
block_adds old new c places true adds = ([], adds_to_same old new adds.1)
block_adds old new c places false adds = (links_inside places 0 (value_of old.store c), adds)

pub some_after : (a b c : ExpansionTable) (links : List PendingLink) → Adds a b links → AddsSome b c → AddsSome a c
some_after a b c links one two = (links ++ two.0, adds_then a b c links two.0 one two.1)

pub some_same : (a b c : ExpansionTable) → AddsSome a b → c ≡ b → AddsSome a c
some_same a b c some e = subst (AddsSome a) (sym e) some

-- ---- what another table of the same job has

-- one more of a part of a list
pub range_more : {X : Type 0} (xs : List X) (from k : ℕ) (d : X) → from ≤ k → k < length xs → slice_range xs from (k + 1) ≡ slice_range xs from k ++ get_or xs k d ∷ []
range_more {X = X} xs from k d le lt =
    let n : (k + 1) - from ≡ (k - from) + 1 = omega arith in
    let at : from + (k - from) ≡ k = omega arith in
    ap (λ (m : ℕ). take m (drop from xs)) n
    ∙ take_more (drop from xs) (k - from) d (let l = length-drop from xs in omega (arith, l, le, lt))
    ∙ ap (λ (x : X). take (k - from) (drop from xs) ++ x ∷ []) (get_or-drop from xs (k - from) d ∙ ap (λ (m : ℕ). get_or xs m d) at)

-- its link, with the number that its residual has here
link_appended : (part old mid late new : ExpansionTable) (link number n : ℕ) (c d : List ℕ) → Adds old mid [] → late ≡ mid → HasNumber mid (residual_in part number) n → slice_get part.links link ≡ Some (waiting (residual_in part number) 0 c) → d ≡ c
    → Adds late new (waiting (residual_in late n) 0 d ∷ []) → Adds old new (link_at part link ∷ [])
link_appended part old mid late new link number n c d one same numbered at cid two =
    adds_same old new _ _ (ap (λ (f : PendingLink). f ∷ []) (sym (get_or_from_slice_get part.links link (waiting (residual_in part number) 0 c) (waiting [] 0 []) at)))
    (link_added old mid new (residual_in part number) n c d one numbered cid (subst (λ (t : ExpansionTable). Adds t new (waiting (residual_in t n) 0 d ∷ [])) same two))

-- the same by a call that may fail
link_tried : {T : Type 0} (part old mid late new : ExpansionTable) (link number n : ℕ) (c d : List ℕ) (r : Result T TableStop) → Adds old mid [] → late ≡ mid → HasNumber mid (residual_in part number) n
    → slice_get part.links link ≡ Some (waiting (residual_in part number) 0 c) → d ≡ c → OnOk r (Adds late new (waiting (residual_in late n) 0 d ∷ [])) → OnErr r (new ≡ late) → AddsOrSome old new (link_at part link ∷ []) r
link_tried part old mid late new link number n c d (Ok x) one same numbered at cid added kept = record { added = link_appended part old mid late new link number n c d one same numbered at cid added; err = tt }
link_tried part old mid late new link number n c d (Err y) one same numbered at cid added kept = record { added = tt; err = ([], subst (λ (t : ExpansionTable). Adds old t []) (sym (kept ∙ same)) one) }

-- a link to a block of the store
pub stored_tried : {T : Type 0} (part old mid late new : ExpansionTable) (link number place pair n : ℕ) (places : List Place) (r : Result T TableStop) → IsTableOf part old → IsLinkAt part link (Stored number place pair) → Adds old mid [] → late ≡ mid
    → places ≡ residual_in part number → HasNumber mid places n → OnOk r (Adds late new (waiting (residual_in late n) 0 (cid_at late.store place) ∷ [])) → OnErr r (new ≡ late) → AddsOrSome old new (link_at part link ∷ []) r
stored_tried part old mid late new link number place pair n places r of is one same value numbered added kept =
    let stores : late.store ≡ part.store = ap (λ (t : ExpansionTable). t.store) same ∙ one.store ∙ of.store in
    link_tried part old mid late new link number n (cid_at part.store place) (cid_at late.store place) r one same (subst (λ (p : List Place). HasNumber mid p n) value numbered) is.2 (ap (λ (s : Blocks). cid_at s place) stores) added kept

-- a link to any CID
pub written_tried : {T : Type 0} (part old mid new : ExpansionTable) (link number n : ℕ) (c : List ℕ) (places : List Place) (r : Result T TableStop) → IsLinkAt part link (Written number c) → Adds old mid []
    → places ≡ residual_in part number → HasNumber mid places n → OnOk r (Adds mid new (waiting (residual_in mid n) 0 c ∷ [])) → OnErr r (new ≡ mid) → AddsOrSome old new (link_at part link ∷ []) r
written_tried part old mid new link number n c places r is one value numbered added kept =
    link_tried part old mid mid new link number n c c r one refl (subst (λ (p : List Place). HasNumber mid p n) value numbered) is.1 refl added kept

-- one more link of a list
pub list_more : (part old mid new : ExpansionTable) (from k : ℕ) → from ≤ k → k < length part.links → Adds old mid (slice_range part.links from k) → Adds mid new (link_at part k ∷ []) → Adds old new (slice_range part.links from (k + 1))
list_more part old mid new from k le lt before next =
    adds_same old new _ _ (sym (range_more part.links from k (waiting [] 0 []) le lt)) (adds_then old mid new (slice_range part.links from k) (link_at part k ∷ []) before next)

-- none so far
pub list_none : (t : ExpansionTable) (links : List PendingLink) (from : ℕ) → Adds t t (slice_range links from from)
list_none t links from =
    let z : from - from ≡ 0 = omega arith in
    adds_same t t [] (slice_range links from from) (sym (ap (λ (n : ℕ). take n (drop from links)) z)) (adds_nothing t)

-- a table stays that of a job
pub table_still : (other old new : ExpansionTable) (links : List PendingLink) → IsTableOf other old → Adds old new links → IsTableOf other new
table_still other old new links of adds = record { store = adds.store ∙ of.store; job = adds.job ∙ of.job }

-- the pair of another table, whose list was appended
pub pair_appended : (part mid new : ExpansionTable) (number from to : ℕ) (p : Pair) → mid.store ≡ part.store → IsPair part p → HasNumber mid (residual_in part p.residual) number → from ≡ length mid.links → to ≡ length new.links
    → Adds mid new (slice_range part.links p.from p.to) → IsPair new (record { place = p.place; from = from; to = to; residual = number; malformed = p.malformed; barren = p.barren })
pair_appended part mid new number from to p same is numbered first last adds =
    let links = slice_range part.links p.from p.to in
    let store : new.store ≡ part.store = adds.store ∙ same in
    let has : HasNumber new (residual_in part p.residual) number = number_kept mid new links (residual_in part p.residual) number adds numbered in
    let more : length new.links ≡ length (mid.links ++ links) = ap length adds.added in
    record {
      residual = slice_get_within new.residuals number (residual_in part p.residual) has;
      ordered = omega (arith, first, last, more, length-append mid.links links);
      within = omega (arith, last);
      links = λ live.
          range_added mid.links links new.links from to adds.added first last ∙ is.links live
          ∙ (λ i. links_inside (sym (get_or_from_slice_get new.residuals number (residual_in part p.residual) [] has) i) 0 (value_of (sym store i) (cid_at (sym store i) p.place)));
      malformed = is.malformed ∙ ap (λ (s : Blocks). is_malformed s (cid_at s p.place)) (sym store);
      barren = λ b. ap (λ (s : Blocks). is_barren s (cid_at s p.place)) store ∙ is.barren b;
    }
