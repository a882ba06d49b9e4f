-- What an archive keeps, with one delivery more.
use Rattle.std.proofs.Common.{◌≡◌, ℕ, ◌+◌, ◌≤◌, Bool, true, false, ◌&&◌, ◌||◌, List, [], ◌∷◌, ◌++◌, length, refl, sym, ap, ◌∙◌, arith, ◌-◌, ◌^◌}
use Rattle.std.specs.Prelude.{Option, Some, None, if◌then◌else◌, ◌==◌, bytes_eq, min, option_map}
use Rattle.std.proofs.lemmas.Bool.{false≢true, eq-eqb, ne_eqb}
use Rattle.std.proofs.lemmas.Slice.Eq.{bytes_eq-Decides}
use Rattle.std.proofs.lemmas.List.{length_push}
use Rattle.std.proofs.Math.Bool.{or-true}
use Rattle.ix_check.specs.Verdict.{passes}
use Rattle.ix_store.specs.Store.{Blocks, position_of}
use Rattle.ix_store.specs.declared.places.PlaceSet.{PlaceSet}
use Rattle.ix_store.specs.PlaceSet.{contains_place}
use Rattle.ix_walk.proofs.Goes.{one_after}
use Rattle.ix_car.specs.declared.archive.Skip.{Skip}
use Rattle.ix_car.specs.declared.sink.Delivery.{Delivery}
use Rattle.ix_car.specs.declared.sink.End.{End}
use Rattle.ix_car.specs.Kept.{is_below, kept}
use Rattle.ix_car.specs.Archive.{Known, is_known, sections_of, new_sections}
use Rattle.ix_verdict.specs.Verdict.{is_sound}
use Rattle.ix_car.specs.declared.archive.Counts.{Counts}
use Rattle.ix_car.specs.Report.{at_most, known_count, counts_of}
use Rattle.ix_car.specs.Archiving.{IsTally, cut_behind, is_told, unwritten_block}
use Rattle.ix_car.proofs.FirstSound.{sound_passes, refused_unsound, kept-push, cut-push, told-push, skips_in, skips-passing, skips-refused, sections-unsound, sections-repeat, due-told}
use Rattle.ix_car.proofs.KnownCounts.{count-more, new-same, known-same, new-due, known-unmoved, new-unmoved, known-due}

-- what is kept where the delivery is cut off, or isn't
pub kept-cut_off : (ds : List Delivery) (d : Delivery) → is_below (cut_behind ds) d.visit.depth ≡ true → kept (ds ++ d ∷ []) ≡ kept ds
kept-cut_off ds d below = kept-push ds d ∙ ap (λ b. if b then kept ds else kept ds ++ d ∷ []) below

-- a delivery that isn't cut off is kept
pub kept-uncut : (ds : List Delivery) (d : Delivery) → is_below (cut_behind ds) d.visit.depth ≡ false → kept (ds ++ d ∷ []) ≡ kept ds ++ d ∷ []
kept-uncut ds d uncut = kept-push ds d ∙ ap (λ b. if b then kept ds else kept ds ++ d ∷ []) uncut

-- where the list is cut then
cut-cut_off : (ds : List Delivery) (d : Delivery) → is_below (cut_behind ds) d.visit.depth ≡ true → cut_behind (ds ++ d ∷ []) ≡ cut_behind ds
cut-cut_off ds d below = cut-push ds d ∙ ap (λ b. if b then cut_behind ds else (if passes d.verdict then None else Some d.visit.depth)) below

-- and the list is cut at it unless it is good
cut-uncut : (ds : List Delivery) (d : Delivery) (passing : Bool) → is_below (cut_behind ds) d.visit.depth ≡ false → passes d.verdict ≡ passing → cut_behind (ds ++ d ∷ []) ≡ (if passing then None else Some d.visit.depth)
cut-uncut ds d passing uncut is =
    cut-push ds d ∙ ap (λ b. if b then cut_behind ds else (if passes d.verdict then None else Some d.visit.depth)) uncut
    ∙ ap (λ b. if b then None else Some d.visit.depth) is

-- what a tally says of each count
visits-of : (known : Known) (store : Blocks) (ds : List Delivery) (c : Counts) → c ≡ counts_of known store ds c.bytes → c.visits ≡ at_most 32 (length ds)
visits-of known store ds c h = ap (λ (x : Counts). x.visits) h

-- the count of kept deliveries
kept-of : (known : Known) (store : Blocks) (ds : List Delivery) (c : Counts) → c ≡ counts_of known store ds c.bytes → c.kept ≡ at_most 32 (length (kept ds))
kept-of known store ds c h = ap (λ (x : Counts). x.kept) h

-- the count of sections
sections-of : (known : Known) (store : Blocks) (ds : List Delivery) (c : Counts) → c ≡ counts_of known store ds c.bytes → c.sections ≡ at_most 32 (length (new_sections known store (kept ds)))
sections-of known store ds c h = ap (λ (x : Counts). x.sections) h

-- the count of blocks whose CIDs are known
known-of : (known : Known) (store : Blocks) (ds : List Delivery) (c : Counts) → c ≡ counts_of known store ds c.bytes → c.known ≡ known_count known store (kept ds)
known-of known store ds c h = ap (λ (x : Counts). x.known) h

-- the count of bytes is within its bound
bytes-of : (known : Known) (store : Blocks) (ds : List Delivery) (c : Counts) → c ≡ counts_of known store ds c.bytes → c.bytes ≡ at_most 64 c.bytes
bytes-of known store ds c h = ap (λ (x : Counts). x.bytes) h

-- so the bytes of a tally can be counted
pub tally-bytes : (known : Known) (store : Blocks) (ds failed : List Delivery) (closed : List End) (cut : Option ℕ) (c : Counts) (w : PlaceSet) (skips : List Skip) → IsTally known store ds failed closed cut c w skips → c.bytes ≤ 2 ^ 64 - 1
tally-bytes known store ds failed closed cut c w skips h = let same : c.bytes ≡ min c.bytes (2 ^ 64 - 1) = bytes-of known store ds c h.counts_are in omega (arith, same)

-- bytes that can be counted
bytes-fit : (t : ℕ) → t ≤ 2 ^ 64 - 1 → t ≡ at_most 64 t
bytes-fit t within = omega arith

-- the same tally with a set of the same places
pub tally-same : (known : Known) (store : Blocks) (ds failed : List Delivery) (closed : List End) (cut : Option ℕ) (c : Counts) (w v : PlaceSet) (skips : List Skip) → IsTally known store ds failed closed cut c w skips → ((n : ℕ) → contains_place v n ≡ contains_place w n) → IsTally known store ds failed closed cut c v skips
tally-same known store ds failed closed cut c w v skips h same = record {
  cut_is = h.cut_is;
  counts_are = h.counts_are;
  skips_is = h.skips_is;
  written_is = λ none unclosed e place at. same place ∙ h.written_is none unclosed e place at;
}

-- a failure leaves no promise of what was written
pub tally-failed : (known : Known) (store : Blocks) (ds failed : List Delivery) (closed : List End) (d : Delivery) (cut : Option ℕ) (c : Counts) (t : ℕ) (w v : PlaceSet) (skips : List Skip) → IsTally known store ds failed closed cut c w skips → t ≤ 2 ^ 64 - 1 → IsTally known store ds (d ∷ []) closed cut (record { visits = c.visits; kept = c.kept; sections = c.sections; bytes = t; known = c.known }) v skips
tally-failed known store ds failed closed d cut c t w v skips h within = record {
  cut_is = h.cut_is;
  counts_are = λ i. record { visits = visits-of known store ds c h.counts_are i; kept = kept-of known store ds c h.counts_are i; sections = sections-of known store ds c h.counts_are i; bytes = bytes-fit t within i; known = known-of known store ds c h.counts_are i };
  skips_is = h.skips_is;
  written_is = λ none unclosed e place at. absurd cc;
}

-- a close leaves no promise of what was written
pub tally-closed : (known : Known) (store : Blocks) (ds failed : List Delivery) (closed : List End) (end : End) (cut : Option ℕ) (c : Counts) (w v : PlaceSet) (skips : List Skip) → IsTally known store ds failed closed cut c w skips → IsTally known store ds failed (end ∷ []) cut c v skips
tally-closed known store ds failed closed end cut c w v skips h =
    record { cut_is = h.cut_is; counts_are = h.counts_are; skips_is = h.skips_is; written_is = λ none unclosed e place at. absurd cc }

-- the number of deliveries, one higher
visits-more : (known : Known) (store : Blocks) (ds es : List Delivery) (d : Delivery) (c : Counts) (n : ℕ) → c ≡ counts_of known store ds c.bytes → es ≡ ds ++ d ∷ [] → n ≡ at_most 32 (c.visits + 1) → n ≡ at_most 32 (length es)
visits-more known store ds es d c n h longer is =
    is ∙ count-more (2 ^ 32 - 1) (length ds) (length es) c.visits (visits-of known store ds c h) (ap length longer ∙ length_push ds d)

-- the number of sections, if there are the same
sections-same : (known : Known) (store : Blocks) (ds es : List Delivery) (c : Counts) → c ≡ counts_of known store ds c.bytes → sections_of store (kept es) ≡ sections_of store (kept ds) → c.sections ≡ at_most 32 (length (new_sections known store (kept es)))
sections-same known store ds es c h same = sections-of known store ds c h ∙ ap (λ l. at_most 32 (length l)) (sym (new-same known store (kept ds) (kept es) same))

-- and that of known blocks
known-kept : (known : Known) (store : Blocks) (ds es : List Delivery) (c : Counts) → c ≡ counts_of known store ds c.bytes → sections_of store (kept es) ≡ sections_of store (kept ds) → c.known ≡ known_count known store (kept es)
known-kept known store ds es c h same = known-of known store ds c h ∙ sym (known-same known store (kept ds) (kept es) same)

-- a delivery that is cut off
pub tally-cut_off : (known : Known) (store : Blocks) (ds es failed : List Delivery) (closed : List End) (d : Delivery) (cut : Option ℕ) (c : Counts) (n : ℕ) (w : PlaceSet) (skips : List Skip) → IsTally known store ds failed closed cut c w skips → is_below (cut_behind ds) d.visit.depth ≡ true → es ≡ ds ++ d ∷ [] → n ≡ at_most 32 (c.visits + 1)
    → IsTally known store es failed closed cut (record { visits = n; kept = c.kept; sections = c.sections; bytes = c.bytes; known = c.known }) w skips
tally-cut_off known store ds es failed closed d cut c n w skips h below longer visits =
    let same : kept es ≡ kept ds = ap kept longer ∙ kept-cut_off ds d below in
    let n_is = visits-more known store ds es d c n h.counts_are longer visits in
    let k_is : c.kept ≡ at_most 32 (length (kept es)) = kept-of known store ds c h.counts_are ∙ ap (λ l. at_most 32 (length l)) (sym same) in
    let none : sections_of store (kept es) ≡ sections_of store (kept ds) = ap (λ l. sections_of store l) same in
    let s_is = sections-same known store ds es c h.counts_are none in
    let o_is = known-kept known store ds es c h.counts_are none in record {
      cut_is = h.cut_is ∙ sym (ap cut_behind longer ∙ cut-cut_off ds d below);
      counts_are = λ i. record { visits = n_is i; kept = k_is i; sections = s_is i; bytes = bytes-of known store ds c h.counts_are i; known = o_is i };
      skips_is = h.skips_is ∙ ap (λ l. skips_in l) (sym same);
      written_is = λ none unclosed e place at. h.written_is none unclosed e place at ∙ ap (λ l. is_told l e) (sym same);
    }

-- the number of those kept, one higher
kept-more : (known : Known) (store : Blocks) (ds es : List Delivery) (d : Delivery) (c : Counts) (k : ℕ) → c ≡ counts_of known store ds c.bytes → kept es ≡ kept ds ++ d ∷ [] → k ≡ at_most 32 (c.kept + 1) → k ≡ at_most 32 (length (kept es))
kept-more known store ds es d c k h longer is =
    is ∙ count-more (2 ^ 32 - 1) (length (kept ds)) (length (kept es)) c.kept (kept-of known store ds c h) (ap length longer ∙ length_push (kept ds) d)

-- a test that fails adds nothing
or-nothing : (a b : Bool) → b ≡ false → (a || b) ≡ a
or-nothing true b h = refl
or-nothing false b h = h

-- a skip
pub tally-skip : (known : Known) (store : Blocks) (ds es failed : List Delivery) (closed : List End) (d : Delivery) (cut : Option ℕ) (c : Counts) (n k : ℕ) (w : PlaceSet) (skips more : List Skip) → IsTally known store ds failed closed cut c w skips → is_below (cut_behind ds) d.visit.depth ≡ false → passes d.verdict ≡ false → es ≡ ds ++ d ∷ []
    → more ≡ skips ++ record { seq = d.visit.seq; cid = d.visit.cid; verdict = d.verdict } ∷ [] → n ≡ at_most 32 (c.visits + 1) → k ≡ at_most 32 (c.kept + 1)
    → IsTally known store es failed closed (Some d.visit.depth) (record { visits = n; kept = k; sections = c.sections; bytes = c.bytes; known = c.known }) w more
tally-skip known store ds es failed closed d cut c n k w skips more h uncut refused longer added visits keeps =
    let unsound = refused_unsound d.verdict refused in
    let left : kept es ≡ kept ds ++ d ∷ [] = ap kept longer ∙ kept-uncut ds d uncut in
    let n_is = visits-more known store ds es d c n h.counts_are longer visits in
    let k_is = kept-more known store ds es d c k h.counts_are left keeps in
    let still : sections_of store (kept es) ≡ sections_of store (kept ds) = ap (λ l. sections_of store l) left ∙ sections-unsound store (kept ds) d unsound in
    let s_is = sections-same known store ds es c h.counts_are still in
    let o_is = known-kept known store ds es c h.counts_are still in record {
      cut_is = sym (ap cut_behind longer ∙ cut-uncut ds d false uncut refused);
      counts_are = λ i. record { visits = n_is i; kept = k_is i; sections = s_is i; bytes = bytes-of known store ds c h.counts_are i; known = o_is i };
      skips_is = added ∙ ap (λ l. l ++ record { seq = d.visit.seq; cid = d.visit.cid; verdict = d.verdict } ∷ []) h.skips_is ∙ sym (ap (λ l. skips_in l) left ∙ skips-refused (kept ds) d refused);
      written_is = λ none unclosed e place at. h.written_is none unclosed e place at
          ∙ sym (ap (λ l. is_told l e) left ∙ told-push (kept ds) d e ∙ or-nothing (is_told (kept ds) e) (is_sound d.verdict && bytes_eq d.visit.cid e) (ap (λ b. b && bytes_eq d.visit.cid e) unsound));
    }

-- a CID whose position is known isn't new after a delivery of a CID that was delivered or has no block
told-again : (store : Blocks) (ks : List Delivery) (d : Delivery) (c : List ℕ) (place : ℕ) → (if is_told ks d.visit.cid then None else position_of store d.visit.cid) ≡ None → position_of store c ≡ Some place → (is_told ks c || bytes_eq d.visit.cid c) ≡ is_told ks c
told-again store ks d c place none at =
    let by : (same told : Bool) → bytes_eq d.visit.cid c ≡ same → is_told ks d.visit.cid ≡ told → (is_told ks c || same) ≡ is_told ks c = λ same told. elim same as (λ b. bytes_eq d.visit.cid c ≡ b → is_told ks d.visit.cid ≡ told → (is_told ks c || b) ≡ is_told ks c) [
      | false ↦ (λ _ _. or-nothing (is_told ks c) false refl)
      | true ↦ elim told as (λ t. bytes_eq d.visit.cid c ≡ true → is_told ks d.visit.cid ≡ t → (is_told ks c || true) ≡ is_told ks c) [
        | true ↦ (λ e t. let here : is_told ks c ≡ true = ap (λ x. is_told ks x) (sym ((bytes_eq-Decides d.visit.cid c).0 e)) ∙ t in ap (λ b. b || true) here ∙ sym here)
        | false ↦ (λ e t. let away : position_of store d.visit.cid ≡ None = sym (ap (λ b. if b then None else position_of store d.visit.cid) t) ∙ none in
            let here : position_of store c ≡ None = ap (λ x. position_of store x) (sym ((bytes_eq-Decides d.visit.cid c).0 e)) ∙ away in absurd cc)
      ]
    ] in
    by (bytes_eq d.visit.cid c) (is_told ks d.visit.cid) refl refl

-- nor by any that has no place that is due
repeat-told : (store : Blocks) (ks : List Delivery) (d : Delivery) (c : List ℕ) (place : ℕ) → unwritten_block store ks d ≡ None → position_of store c ≡ Some place → (is_told ks c || (is_sound d.verdict && bytes_eq d.visit.cid c)) ≡ is_told ks c
repeat-told store ks d c place none at =
    elim (is_sound d.verdict) as (λ s. (if s then (if is_told ks d.visit.cid then None else position_of store d.visit.cid) else None) ≡ None → (is_told ks c || (s && bytes_eq d.visit.cid c)) ≡ is_told ks c)
    [ true ↦ (λ h. told-again store ks d c place h at) | false ↦ (λ h. or-nothing (is_told ks c) false refl) ] none

-- one that passes and has no place that is due
pub tally-repeat : (known : Known) (store : Blocks) (ds es failed : List Delivery) (closed : List End) (d : Delivery) (cut : Option ℕ) (c : Counts) (n k : ℕ) (w : PlaceSet) (skips : List Skip) → IsTally known store ds failed closed cut c w skips → is_below (cut_behind ds) d.visit.depth ≡ false → passes d.verdict ≡ true → unwritten_block store (kept ds) d ≡ None
    → es ≡ ds ++ d ∷ [] → n ≡ at_most 32 (c.visits + 1) → k ≡ at_most 32 (c.kept + 1) → IsTally known store es failed closed None (record { visits = n; kept = k; sections = c.sections; bytes = c.bytes; known = c.known }) w skips
tally-repeat known store ds es failed closed d cut c n k w skips h uncut passing none longer visits keeps =
    let left : kept es ≡ kept ds ++ d ∷ [] = ap kept longer ∙ kept-uncut ds d uncut in
    let n_is = visits-more known store ds es d c n h.counts_are longer visits in
    let k_is = kept-more known store ds es d c k h.counts_are left keeps in
    let still : sections_of store (kept es) ≡ sections_of store (kept ds) = ap (λ l. sections_of store l) left ∙ sections-repeat store (kept ds) d none in
    let s_is = sections-same known store ds es c h.counts_are still in
    let o_is = known-kept known store ds es c h.counts_are still in record {
      cut_is = sym (ap cut_behind longer ∙ cut-uncut ds d true uncut passing);
      counts_are = λ i. record { visits = n_is i; kept = k_is i; sections = s_is i; bytes = bytes-of known store ds c h.counts_are i; known = o_is i };
      skips_is = h.skips_is ∙ sym (ap (λ l. skips_in l) left ∙ skips-passing (kept ds) d passing);
      written_is = λ fine unclosed e place at. h.written_is fine unclosed e place at
          ∙ sym (ap (λ l. is_told l e) left ∙ told-push (kept ds) d e ∙ repeat-told store (kept ds) d e place none at);
    }

-- equal options have equal positions
some-same : (n m : ℕ) → ◌≡◌ {A = Option ℕ} (Some n) (Some m) → n ≡ m
some-same n m h = cc

-- which places the set has, once one is put in
put-place : (store : Blocks) (ks : List Delivery) (w v : PlaceSet) (d c : List ℕ) (here place : ℕ) → ((n : ℕ) → contains_place v n ≡ ((here == n) || contains_place w n)) → position_of store d ≡ Some here → position_of store c ≡ Some place → contains_place w place ≡ is_told ks c → contains_place v place ≡ (is_told ks c || bytes_eq d c)
put-place store ks w v d c here place updates at there was =
    let by : (same : Bool) → bytes_eq d c ≡ same → ((here == place) || contains_place w place) ≡ (is_told ks c || same) = λ same. elim same as (λ b. bytes_eq d c ≡ b → ((here == place) || contains_place w place) ≡ (is_told ks c || b)) [
      | true ↦ (λ e. let one : position_of store c ≡ Some here = ap (λ x. position_of store x) (sym ((bytes_eq-Decides d c).0 e)) ∙ at in
          let same_place : here ≡ place = some-same here place (sym one ∙ there) in
          ap (λ b. b || contains_place w place) (eq-eqb here place same_place) ∙ sym (or-true (is_told ks c)))
      | false ↦ (λ e. let apart : here ≡ place → ⊥ = λ p. false≢true (sym e ∙ (bytes_eq-Decides d c).1 (one_after 0 place store d c (at ∙ ap Some p) there)) in
          ap (λ b. b || contains_place w place) (ne_eqb here place apart) ∙ was ∙ sym (or-nothing (is_told ks c) false refl))
    ] in
    updates place ∙ by (bytes_eq d c) refl

-- a section
pub tally-section : (known : Known) (store : Blocks) (ds es failed : List Delivery) (closed : List End) (d : Delivery) (cut : Option ℕ) (c : Counts) (n k s t here : ℕ) (w v : PlaceSet) (skips : List Skip) → IsTally known store ds failed closed cut c w skips → is_below (cut_behind ds) d.visit.depth ≡ false
    → unwritten_block store (kept ds) d ≡ Some here → is_known known d.visit.cid ≡ false → ((n : ℕ) → contains_place v n ≡ ((here == n) || contains_place w n)) → es ≡ ds ++ d ∷ [] → n ≡ at_most 32 (c.visits + 1) → k ≡ at_most 32 (c.kept + 1) → s ≡ at_most 32 (c.sections + 1) → t ≤ 2 ^ 64 - 1
    → IsTally known store es failed closed None (record { visits = n; kept = k; sections = s; bytes = t; known = c.known }) v skips
tally-section known store ds es failed closed d cut c n k s t here w v skips h uncut due new updates longer visits keeps sections within =
    let left : kept es ≡ kept ds ++ d ∷ [] = ap kept longer ∙ kept-uncut ds d uncut in
    let found = due-told store (kept ds) d here due in
    let passing = sound_passes d.verdict found.0 in
    let n_is = visits-more known store ds es d c n h.counts_are longer visits in
    let k_is = kept-more known store ds es d c k h.counts_are left keeps in
    let s_is : s ≡ at_most 32 (length (new_sections known store (kept es))) = sections ∙ count-more (2 ^ 32 - 1) (length (new_sections known store (kept ds))) (length (new_sections known store (kept es))) c.sections (sections-of known store ds c h.counts_are) (ap (λ l. length (new_sections known store l)) left ∙ new-due known store (kept ds) d here due new) in
    let o_is : c.known ≡ known_count known store (kept es) = known-of known store ds c h.counts_are ∙ sym (ap (λ l. known_count known store l) left ∙ known-unmoved known store (kept ds) d here due new) in record {
      cut_is = sym (ap cut_behind longer ∙ cut-uncut ds d true uncut passing);
      counts_are = λ i. record { visits = n_is i; kept = k_is i; sections = s_is i; bytes = bytes-fit t within i; known = o_is i };
      skips_is = h.skips_is ∙ sym (ap (λ l. skips_in l) left ∙ skips-passing (kept ds) d passing);
      written_is = λ fine unclosed e place there.
          put-place store (kept ds) w v d.visit.cid e here place updates found.2 there (h.written_is fine unclosed e place there)
          ∙ sym (ap (λ l. is_told l e) left ∙ told-push (kept ds) d e ∙ ap (λ b. is_told (kept ds) e || (b && bytes_eq d.visit.cid e)) found.0);
    }

-- a block that is known
pub tally-known : (known : Known) (store : Blocks) (ds es failed : List Delivery) (closed : List End) (d : Delivery) (cut : Option ℕ) (c : Counts) (n k here : ℕ) (o : Option ℕ) (w v : PlaceSet) (skips : List Skip) → IsTally known store ds failed closed cut c w skips → is_below (cut_behind ds) d.visit.depth ≡ false
    → unwritten_block store (kept ds) d ≡ Some here → is_known known d.visit.cid ≡ true → ((n : ℕ) → contains_place v n ≡ ((here == n) || contains_place w n)) → es ≡ ds ++ d ∷ [] → n ≡ at_most 32 (c.visits + 1) → k ≡ at_most 32 (c.kept + 1) → o ≡ option_map (λ m. at_most 32 (m + 1)) c.known
    → IsTally known store es failed closed None (record { visits = n; kept = k; sections = c.sections; bytes = c.bytes; known = o }) v skips
tally-known known store ds es failed closed d cut c n k here o w v skips h uncut due has updates longer visits keeps counted =
    let left : kept es ≡ kept ds ++ d ∷ [] = ap kept longer ∙ kept-uncut ds d uncut in
    let found = due-told store (kept ds) d here due in
    let passing = sound_passes d.verdict found.0 in
    let n_is = visits-more known store ds es d c n h.counts_are longer visits in
    let k_is = kept-more known store ds es d c k h.counts_are left keeps in
    let s_is : c.sections ≡ at_most 32 (length (new_sections known store (kept es))) = sections-of known store ds c h.counts_are ∙ ap (λ l. at_most 32 (length l)) (sym (ap (λ l. new_sections known store l) left ∙ new-unmoved known store (kept ds) d here due has)) in
    let o_is : o ≡ known_count known store (kept es) = counted ∙ known-due known store (kept ds) d here due has c.known (known-of known store ds c h.counts_are) ∙ ap (λ l. known_count known store l) (sym left) in record {
      cut_is = sym (ap cut_behind longer ∙ cut-uncut ds d true uncut passing);
      counts_are = λ i. record { visits = n_is i; kept = k_is i; sections = s_is i; bytes = bytes-of known store ds c h.counts_are i; known = o_is i };
      skips_is = h.skips_is ∙ sym (ap (λ l. skips_in l) left ∙ skips-passing (kept ds) d passing);
      written_is = λ fine unclosed e place there.
          put-place store (kept ds) w v d.visit.cid e here place updates found.2 there (h.written_is fine unclosed e place there)
          ∙ sym (ap (λ l. is_told l e) left ∙ told-push (kept ds) d e ∙ ap (λ b. is_told (kept ds) e || (b && bytes_eq d.visit.cid e)) found.0);
    }
