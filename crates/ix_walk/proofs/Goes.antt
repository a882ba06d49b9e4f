-- Whether a walk with link-visit-once expands a CID.
use Rattle.std.proofs.Common.{◌≡◌, ◌⊎◌, inl, inr, ℕ, suc, ◌+◌, ◌-◌, Bool, true, false, List, [], ◌∷◌, map, get_or, refl, sym, ◌∙◌, ap, subst, arith}
use Rattle.std.specs.Prelude.{Option, Some, None, option_map, option_and_then, nat_eq, ◌&&◌, ◌||◌, if◌then◌else◌, bytes_eq, slice_get, not}
use Rattle.std.proofs.Math.Bool.{or-false}
use Rattle.std.proofs.Math.Path.{fun_ext}
use Rattle.std.proofs.lemmas.Bool.Decides.{nat_tests}
use Rattle.std.proofs.lemmas.Option.{same_Some, get_or_from_slice_get, slice_get-map, slice_get-get_or}
use Rattle.std.proofs.lemmas.Slice.Eq.{bytes_eq-Decides}
use Rattle.std.specs.Cmp.{both_ways}
use Rattle.std.proofs.lemmas.Bool.{and_parts, eqb-true}
use Rattle.ix_cid.specs.Cid.{parts_of, digest_of, hash_function_of}
use Rattle.ix_cid.specs.declared.hash_function.HashFunction.{HashFunction}
use Rattle.ix_cid.specs.declared.hash_function.HashFunction.TheVariants.{Sha2_256, Sha2_512}
use Rattle.ix_cbor.specs.Data.{Data}
use Rattle.ix_cbor.specs.Reading.{data_at}
use Rattle.ix_selector.specs.Residual.{Place}
use Rattle.ix_selector.specs.Behind.{same_residual}
use Rattle.ix_walk.specs.declared.visited_set.VisitedSet.{VisitedSet}
use Rattle.ix_verdict.specs.declared.needed.Needed.TheVariants.{Block}
use Rattle.ix_verdict.specs.Verdict.{has_codec}
use Rattle.ix_verdict.specs.Needed.{needed_of}
use Rattle.ix_verdict.proofs.Needs.{known-codec-Block, known-Block, hashed-Block}
use Rattle.ix_store.specs.Store.{Blocks, block_of, position_after, position_of, bytes_of, is_dag_cbor, value_of}
use Rattle.ix_store.specs.Memo.{hash_matches, hash_matches_by}
use Rattle.ix_walk.specs.Once.{bytes_match_by, bytes_match, sound_value}
use Rattle.ix_walk.specs.Walking.{Going, is_barren, is_tagged, has_tag, barren_ones, expanded_also, data_inside, expanded_after, waiting}
use Rattle.ix_walk.specs.VisitedSet.{has_expanded, is_same_going, IsNoted, expanded_of}
use Rattle.ix_walk.specs.Arriving.{IsValue, Goes}
use Rattle.ix_store.proofs.Blocks.{none_behind, some_after, block_at, place_within}
use Rattle.ix_walk.proofs.Readings.{codec_known}
use Rattle.ix_walk.proofs.Reached.{or_swap, or_among}

-- bytes that compare as equal are equal
bytes_same : (xs ys : List ℕ) → bytes_eq xs ys ≡ true → xs ≡ ys
bytes_same xs ys e = (bytes_eq-Decides xs ys).0 e

-- and equal bytes compare as equal
bytes_are : (xs : List ℕ) → bytes_eq xs xs ≡ true
bytes_are xs = (bytes_eq-Decides xs xs).1 refl

-- ---- the block at a place

-- CIDs with one place are one
pub one_after : (n place : ℕ) (store : Blocks) (c d : List ℕ) → position_after n store c ≡ Some place → position_after n store d ≡ Some place → c ≡ d
one_after n place [] c d e f = absurd cc
one_after n place (x ∷ xs) c d e f = by (bytes_eq x.0 c) (bytes_eq x.0 d) refl refl e f (one_after (n + 1) place xs c d) where
  by : (a b : Bool) → bytes_eq x.0 c ≡ a → bytes_eq x.0 d ≡ b → (if a then Some n else position_after (n + 1) xs c) ≡ Some place → (if b then Some n else position_after (n + 1) xs d) ≡ Some place
      → (position_after (n + 1) xs c ≡ Some place → position_after (n + 1) xs d ≡ Some place → c ≡ d) → c ≡ d
  by true true a b e f more = sym (bytes_same x.0 c a) ∙ bytes_same x.0 d b
  by true false a b e f more = let p : n ≡ place = same_Some n place e in let h = (some_after (n + 1) place xs d (sym f)).0 in absurd (omega (arith, p, h))
  by false true a b e f more = let p : n ≡ place = same_Some n place f in let h = (some_after (n + 1) place xs c (sym e)).0 in absurd (omega (arith, p, h))
  by false false a b e f more = more e f

-- the pair at a place has the CID
cid_after : (n place : ℕ) (store : Blocks) (c : List ℕ) (p : List ℕ × List ℕ) → Some place ≡ position_after n store c → slice_get store (place - n) ≡ Some p → p.0 ≡ c
cid_after n place [] c p e at = absurd cc
cid_after n place (x ∷ xs) c p e at = by (bytes_eq x.0 c) refl e (cid_after (n + 1) place xs c p) where
  by : (b : Bool) → bytes_eq x.0 c ≡ b → Some place ≡ (if b then Some n else position_after (n + 1) xs c) → (Some place ≡ position_after (n + 1) xs c → slice_get xs (place - (n + 1)) ≡ Some p → p.0 ≡ c) → p.0 ≡ c
  by true same e more =
      let h : place ≡ n = same_Some place n e in
      let z : place - n ≡ 0 = omega arith in
      let is : x ≡ p = same_Some x p (ap (λ (k : ℕ). slice_get (x ∷ xs) k) (sym z) ∙ at) in
      ap (λ (q : List ℕ × List ℕ). q.0) (sym is) ∙ bytes_same x.0 c same
  by false apart e more =
      let h = (some_after (n + 1) place xs c e).0 in
      let s : place - n ≡ suc (place - (n + 1)) = omega arith in more e (ap (λ (k : ℕ). slice_get (x ∷ xs) k) (sym s) ∙ at)

-- whether the block at a place is sound
stored_sound : (store : Blocks) (c : List ℕ) (h : HashFunction) (place : ℕ) (r : Bool) → (h ≡ Sha2_256) ⊎ (h ≡ Sha2_512) → Some h ≡ hash_function_of (parts_of c) → Some place ≡ position_of store c → r ≡ get_or (map hash_matches store) place false
    → r ≡ bytes_match_by (hash_function_of (parts_of c)) (digest_of c) (block_of store c)
stored_sound store c h place r stored e there asked =
    let p : List ℕ × List ℕ = get_or store place ([], []) in
    let at : slice_get store place ≡ Some p = slice_get-get_or store place ([], []) (place_within place store c there) in
    let z : place - 0 ≡ place = omega arith in
    let named : p.0 ≡ c = cid_after 0 place store c p there (ap (slice_get store) z ∙ at) in
    let block : block_of store c ≡ Some p.1 = block_at place store c p.1 there (slice_get-map (λ (q : List ℕ × List ℕ). q.1) store place ∙ ap (option_map (λ (q : List ℕ × List ℕ). q.1)) at) in
    asked
    ∙ get_or_from_slice_get (map hash_matches store) place (hash_matches p) false (slice_get-map hash_matches store place ∙ ap (option_map hash_matches) at)
    ∙ ap (λ (d : List ℕ). hash_matches_by (hash_function_of (parts_of d)) (digest_of d) p.1) named
    ∙ sound_by stored (hash_function_of (parts_of c)) e (digest_of c) p.1
    ∙ ap (bytes_match_by (hash_function_of (parts_of c)) (digest_of c)) (sym block) where
      sound_by : (h ≡ Sha2_256) ⊎ (h ≡ Sha2_512) → (o : Option HashFunction) → Some h ≡ o → (digest b : List ℕ) → hash_matches_by o digest b ≡ bytes_match_by o digest (Some b)
      sound_by (inl is) o e digest b = subst (λ f. hash_matches_by f digest b ≡ bytes_match_by f digest (Some b)) (ap (λ (g : HashFunction). Some g) (sym is) ∙ e) refl
      sound_by (inr is) o e digest b = subst (λ f. hash_matches_by f digest b ≡ bytes_match_by f digest (Some b)) (ap (λ (g : HashFunction). Some g) (sym is) ∙ e) refl

-- a block that isn't there
absent_sound : (store : Blocks) (c : List ℕ) (h : HashFunction) → (h ≡ Sha2_256) ⊎ (h ≡ Sha2_512) → Some h ≡ hash_function_of (parts_of c) → None ≡ position_of store c
    → false ≡ bytes_match_by (hash_function_of (parts_of c)) (digest_of c) (block_of store c)
absent_sound store c h stored e absent = by stored (hash_function_of (parts_of c)) e (digest_of c) ∙ ap (bytes_match_by (hash_function_of (parts_of c)) (digest_of c)) (sym (none_behind 0 store c absent)) where
  by : (h ≡ Sha2_256) ⊎ (h ≡ Sha2_512) → (o : Option HashFunction) → Some h ≡ o → (digest : List ℕ) → false ≡ bytes_match_by o digest None
  by (inl is) o e digest = subst (λ f. false ≡ bytes_match_by f digest None) (ap (λ (g : HashFunction). Some g) (sym is) ∙ e) refl
  by (inr is) o e digest = subst (λ f. false ≡ bytes_match_by f digest None) (ap (λ (g : HashFunction). Some g) (sym is) ∙ e) refl

-- of a known codec
known_sound : (store : Blocks) (c : List ℕ) (r : Bool) → has_codec c ≡ true → r ≡ bytes_match store c → r ≡ (has_codec c && bytes_match store c)
known_sound store c r codec is = is ∙ ap (λ (t : Bool). t && bytes_match store c) (sym codec)

module _ (store : Blocks) (c : List ℕ) (h : HashFunction) (needed : Block h ≡ needed_of (parts_of c)) where
  -- the block at a place
  pub sound_stored : (place : ℕ) (r : Bool) → Some place ≡ position_of store c → r ≡ get_or (map hash_matches store) place false → r ≡ (has_codec c && bytes_match store c)
  sound_stored place r there asked =
      known_sound store c r (known-codec-Block (parts_of c) h needed)
      (stored_sound store c h place r (hashed-Block (parts_of c) h needed) (sym (known-Block (parts_of c) h needed)) there asked)

  -- no block
  pub sound_absent : None ≡ position_of store c → false ≡ (has_codec c && bytes_match store c)
  sound_absent absent =
      known_sound store c false (known-codec-Block (parts_of c) h needed) (absent_sound store c h (hashed-Block (parts_of c) h needed) (sym (known-Block (parts_of c) h needed)) absent)

-- ---- what was expanded

-- so do numbers
number_same : (n : ℕ) → nat_eq n n ≡ true
number_same n = grind (arith, nat_tests)

-- the same place is the same CID
going_at : (store : Blocks) (c d : List ℕ) (places others : List Place) (b e : Option ℕ) → position_of store c ≡ b → position_of store d ≡ e → is_same_going b c places e d others ≡ (bytes_eq c d && same_residual places others)
going_at store c d places others None None p q = refl
going_at store c d places others None (Some n) p q = ap (λ (x : Bool). x && same_residual places others) (sym (apart (bytes_eq c d) refl)) where
  apart : (x : Bool) → bytes_eq c d ≡ x → x ≡ false
  apart true same = let s : c ≡ d = bytes_same c d same in let f : position_of store c ≡ position_of store d = ap (position_of store) s in absurd cc
  apart false same = refl
going_at store c d places others (Some m) None p q = ap (λ (x : Bool). x && same_residual places others) (sym (apart (bytes_eq c d) refl)) where
  apart : (x : Bool) → bytes_eq c d ≡ x → x ≡ false
  apart true same = let s : c ≡ d = bytes_same c d same in let f : position_of store c ≡ position_of store d = ap (position_of store) s in absurd cc
  apart false same = refl
going_at store c d places others (Some m) (Some n) p q =
    ap (λ (x : Bool). x && same_residual places others)
    (both_ways (nat_eq m n) (bytes_eq c d)
    (λ e. subst (λ x. bytes_eq c x ≡ true) (one_after 0 m store c d p (q ∙ ap (λ (k : ℕ). Some k) (sym (eqb-true m n e)))) (bytes_are c))
    (λ e. subst (λ k. nat_eq m k ≡ true) (same_Some m n (sym p ∙ ap (position_of store) (bytes_same c d e) ∙ q)) (number_same m)))

-- noted for the first time, whatever is below
noted_at : (store : Blocks) (old new : VisitedSet) (c : List ℕ) (places : List Place) → IsNoted old new (position_of store c) c places true → (d : List ℕ) (others : List Place)
    → has_expanded new (position_of store d) d others ≡ ((bytes_eq c d && same_residual places others) || has_expanded old (position_of store d) d others)
noted_at store old new c places is d others =
    is.1 (position_of store d) d others
    ∙ ap (λ (b : Bool). b || has_expanded old (position_of store d) d others) (going_at store c d places others (position_of store c) (position_of store d) refl refl)

-- noted for the first time
pub noted_first : (store : Blocks) (old new : VisitedSet) (c : List ℕ) (places : List Place) → IsNoted old new (position_of store c) c places true → expanded_of store new ≡ expanded_also c places (expanded_of store old)
noted_first store old new c places is = fun_ext (λ d. fun_ext (λ others.
    ap (λ (b : Bool). is_barren store d || b) (noted_at store old new c places is d others)
    ∙ or_swap (is_barren store d) (bytes_eq c d && same_residual places others) (has_expanded old (position_of store d) d others)))

-- what was expanded before is the same
pub noted_again : (store : Blocks) (old new : VisitedSet) (c : List ℕ) (places : List Place) → IsNoted old new (position_of store c) c places false → expanded_of store new ≡ expanded_of store old
noted_again store old new c places is = fun_ext (λ d. fun_ext (λ others. ap (λ (b : Bool). is_barren store d || b) (is.1 (position_of store d) d others)))

-- where nothing is below, too
pub noted_barren : (store : Blocks) (old new : VisitedSet) (c : List ℕ) (places : List Place) → IsNoted old new (position_of store c) c places true → is_barren store c ≡ true → expanded_of store new ≡ expanded_of store old
noted_barren store old new c places is none = fun_ext (λ d. fun_ext (λ others.
    ap (λ (b : Bool). is_barren store d || b) (noted_at store old new c places is d others)
    ∙ sym (or_among (is_barren store d) (bytes_eq c d && same_residual places others) (has_expanded old (position_of store d) d others)
    (λ e. subst (λ (x : List ℕ). is_barren store x ≡ true) (bytes_same c d (and_parts (bytes_eq c d) (same_residual places others) e).0) none))))

-- nothing at first
pub none_expanded : (store : Blocks) (g : VisitedSet) → ((b : Option ℕ) (c : List ℕ) (places : List Place) → has_expanded g b c places ≡ false) → expanded_of store g ≡ barren_ones store
none_expanded store g none =
    fun_ext (λ c. fun_ext (λ places. ap (λ (b : Bool). is_barren store c || b) (none (position_of store c) c places) ∙ or-false (is_barren store c)))

-- ---- going in

-- a CID with data is of a known codec
codec_valued : (store : Blocks) (c b : List ℕ) → IsValue (value_of store c) (Some b) → has_codec c ≡ true
codec_valued store c b value = on (is_dag_cbor c) refl value.1 where
  on : (dag : Bool) → is_dag_cbor c ≡ dag → (if dag then option_and_then data_at (bytes_of store c) else None) ≡ Some value.0 → has_codec c ≡ true
  on true is e = codec_known c is
  on false is e = absurd cc

-- so whether it is sound is up to the hash
pub sound_valued : (store : Blocks) (c b : List ℕ) (r : Bool) → IsValue (value_of store c) (Some b) → r ≡ (has_codec c && bytes_match store c) → r ≡ bytes_match store c
sound_valued store c b r value is = is ∙ ap (λ (t : Bool). t && bytes_match store c) (codec_valued store c b value)

-- not into this one
stays : (store : Blocks) (c : List ℕ) (places : List Place) (depth : ℕ) (had has : Going) → data_inside store (Some had) (waiting places depth c) ≡ None → has ≡ had
    → Goes store (waiting places depth c) (Some had) None (Some has)
stays store c places depth had has none same =
    record { inside = none; expanded = ap (λ (g : Going). Some g) same ∙ sym (ap (λ (o : Option Data). expanded_after o (waiting places depth c) (Some had)) none) }

-- nothing is below a CID without the head of a tag in its bytes
pub untagged_barren : (store : Blocks) (c b : List ℕ) → bytes_of store c ≡ Some b → has_tag b ≡ false → is_barren store c ≡ true
untagged_barren store c b bytes none =
    ap (λ (o : Option (List ℕ)). not (bytes_match store c && is_tagged o)) bytes ∙ ap (λ (t : Bool). not (bytes_match store c && t)) none ∙ either (bytes_match store c) where
      either : (s : Bool) → not (s && false) ≡ true
      either true = refl
      either false = refl

-- nor below a damaged one
pub damaged_barren : (store : Blocks) (c : List ℕ) → bytes_match store c ≡ false → is_barren store c ≡ true
damaged_barren store c damaged = ap (λ (s : Bool). not (s && is_tagged (bytes_of store c))) damaged

-- below another something may be
pub tagged_sound : (store : Blocks) (c b : List ℕ) → bytes_of store c ≡ Some b → has_tag b ≡ true → bytes_match store c ≡ true → is_barren store c ≡ false
tagged_sound store c b bytes tag sound =
    ap (λ (o : Option (List ℕ)). not (bytes_match store c && is_tagged o)) bytes ∙ ap (λ (t : Bool). not (bytes_match store c && t)) tag ∙ ap (λ (s : Bool). not (s && true)) sound

-- so at a first visit of such a CID nothing is expanded
pub goes_barren : (store : Blocks) (c : List ℕ) (places : List Place) (depth : ℕ) (old new : VisitedSet) → IsNoted old new (position_of store c) c places true → is_barren store c ≡ true
    → Goes store (waiting places depth c) (Some (expanded_of store old)) None (Some (expanded_of store new))
goes_barren store c places depth old new is none =
    stays store c places depth (expanded_of store old) (expanded_of store new)
    (ap (λ (b : Bool). if (b || has_expanded old (position_of store c) c places) then None else sound_value store c) none) (noted_barren store old new c places is none)

-- nor at a repeated visit
pub goes_again : (store : Blocks) (c : List ℕ) (places : List Place) (depth : ℕ) (old new : VisitedSet) → IsNoted old new (position_of store c) c places false
    → Goes store (waiting places depth c) (Some (expanded_of store old)) None (Some (expanded_of store new))
goes_again store c places depth old new is =
    stays store c places depth (expanded_of store old) (expanded_of store new)
    (ap (λ (b : Bool). if (is_barren store c || b) then None else sound_value store c) is.0 ∙ expanded (is_barren store c)) (noted_again store old new c places is) where
      expanded : (b : Bool) → (if (b || true) then None else sound_value store c) ≡ None
      expanded true = refl
      expanded false = refl

-- and at a first visit of a sound block with the head of a tag its data are
pub goes_first : (store : Blocks) (c : List ℕ) (places : List Place) (depth : ℕ) (old new : VisitedSet) (b : List ℕ) → is_barren store c ≡ false → bytes_match_by (hash_function_of (parts_of c)) (digest_of c) (block_of store c) ≡ true
    → IsNoted old new (position_of store c) c places true → IsValue (value_of store c) (Some b) → Goes store (waiting places depth c) (Some (expanded_of store old)) (Some b) (Some (expanded_of store new))
goes_first store c places depth old new b linked sound is value =
    let inside : data_inside store (Some (expanded_of store old)) (waiting places depth c) ≡ Some value.0 =
    ap (λ (x : Bool). if (x || has_expanded old (position_of store c) c places) then None else sound_value store c) linked
    ∙ ap (λ (x : Bool). if x then None else sound_value store c) is.0 ∙ ap (λ (x : Bool). if x then value_of store c else None) sound ∙ value.1 in
    record {
      inside = (value.0, inside, value.2);
      expanded = ap (λ (g : Going). Some g) (noted_first store old new c places is) ∙ sym (ap (λ (o : Option Data). expanded_after o (waiting places depth c) (Some (expanded_of store old))) inside);
    }
