-- Passing links whose blocks are here, or may be missing.
use Rattle.std.proofs.Common.{◌≡◌, ◌⊎◌, inl, inr, ℕ, suc, ◌+◌, ◌≤◌, Bool, true, false, cond, List, [], ◌∷◌, ◌++◌, map, reverse, refl, sym, ◌∙◌, ap, subst, append_assoc, arith}
use Rattle.std.specs.Prelude.{Some, ◌||◌, ◌&&◌, if◌then◌else◌, bytes_eq, not}
use Rattle.std.specs.Bool.{MatchBool}
use Rattle.std.specs.List.{Contains, count_by}
use Rattle.std.specs.Ordering.{nat_cmp, is_eq}
use Rattle.std.specs.Cmp.Lexicographic.{slice_cmp}
use Rattle.std.specs.BTreeSet.{BTreeSet, Updates}
use Rattle.std.proofs.lemmas.Map.Text.{is_eq-slice_cmp}
use Rattle.std.proofs.lemmas.List.Elements.{Contains-append_left, Contains-push, Contains-push_cases}
use Rattle.std.proofs.lemmas.List.Sums.{sum_by-append, count_by-le-length}
use Rattle.std.proofs.lemmas.Slice.Eq.{bytes_eq-Decides}
use Rattle.ix_verdict.specs.AllowMissing.{may_lack}
use Rattle.ix_verdict.specs.Verdict.{passes as verdict_passes}
use Rattle.ix_selector.specs.Pattern.{Pattern}
use Rattle.ix_store.specs.Store.{Blocks}
use Rattle.ix_walk.specs.declared.subtree.PendingLink.{PendingLink}
use Rattle.ix_check.specs.Verdict.{verdict_of}
use Rattle.ix_walk.specs.JobMeaning.{JobMeaning}
use Rattle.ix_walk.specs.Walking.{Going, data_inside, links_inside, root_link}
use Rattle.ix_receive.specs.Waiting.{all_waiting}
use Rattle.ix_verdict.specs.declared.allow_missing.AllowMissing.{AllowMissing}
use Rattle.ix_receive.specs.declared.traversal.Traversal.{Traversal}
use Rattle.ix_receive.specs.declared.traversal.Skips.{Skips}
use Rattle.ix_receive.specs.Missing.{lacks_block, is_unread}
use Rattle.ix_receive.specs.Traversal.{visited, expanded_by, links_of, IsTraversed, Expands, as_pending}
use Rattle.ix_receive.specs.Passing.{has, KnowsSkips, HasAlso, IsNoted, IsNotedMissing, IsNotedThere, IsBefore, IsStopped, IsPassed}
use Rattle.ix_receive.proofs.Expansions.{cond-or}
use Rattle.ix_receive.proofs.Traversing.{visits-one, steps}

-- ---- a set with one CID more

pub has-also : (old new : BTreeSet (List ℕ)) (c d : List ℕ) → d ≡ c → Updates (slice_cmp nat_cmp) old new d true → HasAlso new c old
has-also old new c d named updates e =
    updates.0 e ∙ cond-or (is_eq (slice_cmp nat_cmp d e)) (has old e) ∙ ap (λ b. b || has old e) (is_eq-slice_cmp d e) ∙ ap (λ x. bytes_eq x e || has old e) named

-- its visit is noted
pub noted : (allowed : AllowMissing) (roots : List (List ℕ)) (sections : Blocks) (c : List ℕ) (old new : Skips) (r : Bool) → lacks_block sections c ≡ true → IsNotedMissing allowed roots c old new r → IsNoted allowed roots sections c old new r
noted allowed roots sections c old new true lacks is = subst (λ b. MatchBool b (IsNotedMissing allowed roots c old new true) (IsNotedThere sections c old new)) (sym lacks) is
noted allowed roots sections c old new false lacks is = (lacks, is)

-- ---- what was skipped, one visit later

-- one more, or none
count-more : (k : ℕ) (b : Bool) → k + (0 + cond b 1 0) ≡ k + (if b then 1 else 0)
count-more k true = omega arith
count-more k false = omega arith

-- no visit more
none-more : (k : ℕ) → k + (if false then 1 else 0) ≡ k
none-more k = omega arith

and_false : (b : Bool) → (b && false) ≡ false
and_false true = refl
and_false false = refl

-- a CID that lacks its block isn't one that isn't read
lacking-read : (sections : Blocks) (c : List ℕ) → lacks_block sections c ≡ true → is_unread sections c ≡ false
lacking-read sections c lacks = ap (λ b. not (verdict_passes (verdict_of sections c)) && not b) lacks ∙ and_false (not (verdict_passes (verdict_of sections c)))

module _ (n : ℕ) (job : JobMeaning) (allowed : AllowMissing) (sections : Blocks) (skips : Skips) (knows : KnowsSkips n job allowed sections skips) (c : List ℕ) (one : visited (suc n) job sections ≡ visited n job sections ++ c ∷ []) where
  -- a CID visited by then was visited before, or is this one
  last_or : (d : List ℕ) → Contains (visited (suc n) job sections) d → Contains (visited n job sections) d ⊎ (c ≡ d)
  last_or d i = Contains-push_cases (visited n job sections) c d (subst (λ l. Contains l d) one i)

  -- what was visited before was visited by then
  sooner : (d : List ℕ) → Contains (visited n job sections) d → Contains (visited (suc n) job sections) d
  sooner d i = subst (λ l. Contains l d) (sym one) (Contains-append_left (visited n job sections) (c ∷ []) d i)

  counted : (f : List ℕ → Bool) → count_by f (visited (suc n) job sections) ≡ count_by f (visited n job sections) + (if f c then 1 else 0)
  counted f = ap (count_by f) one ∙ sum_by-append (λ x. cond (f x) 1 0) (visited n job sections) (c ∷ []) ∙ count-more (count_by f (visited n job sections)) (f c)

  -- its block isn't missing
  pub knows-there : (more : Skips) → lacks_block sections c ≡ false → IsNotedThere sections c skips more → KnowsSkips (suc n) job allowed sections more
  knows-there more there noted = record {
    recorded = λ d i lacks. subst (λ (s : BTreeSet (List ℕ)). has s d ≡ true) (sym noted.missing) (recorded d lacks (last_or d i));
    met = λ d i. sooner d (knows.met d (subst (λ (s : BTreeSet (List ℕ)). has s d ≡ true) noted.missing i));
    may = λ d i lacks. may d lacks (last_or d i);
    count = noted.absent ∙ knows.count ∙ sym (counted (lacks_block sections) ∙ ap (λ b. count_by (lacks_block sections) (visited n job sections) + (if b then 1 else 0)) there ∙ none-more (count_by (lacks_block sections) (visited n job sections)));
    unread = noted.unread ∙ ap (λ k. k + (if is_unread sections c then 1 else 0)) knows.unread ∙ sym (counted (is_unread sections));
  } where
    clash : (d : List ℕ) → lacks_block sections d ≡ true → c ≡ d → ⊥
    clash d lacks same = let bad : false ≡ true = sym there ∙ ap (lacks_block sections) same ∙ lacks in cc bad

    recorded : (d : List ℕ) → lacks_block sections d ≡ true → Contains (visited n job sections) d ⊎ (c ≡ d) → has skips.missing d ≡ true
    recorded d lacks (inl i) = knows.recorded d i lacks
    recorded d lacks (inr same) = absurd (clash d lacks same)

    may : (d : List ℕ) → lacks_block sections d ≡ true → Contains (visited n job sections) d ⊎ (c ≡ d) → may_lack allowed job.roots d ≡ true
    may d lacks (inl i) = knows.may d i lacks
    may d lacks (inr same) = absurd (clash d lacks same)

  -- its block is missing, and may be
  pub knows-missing : (more : Skips) → lacks_block sections c ≡ true → IsNotedMissing allowed job.roots c skips more true → KnowsSkips (suc n) job allowed sections more
  knows-missing more lacks is = record {
    recorded = λ d i gone. is.1 d ∙ recorded d gone (last_or d i);
    met = λ d i. met d (bytes_eq c d) refl (sym (is.1 d) ∙ i);
    may = λ d i gone. may d gone (last_or d i);
    count = is.2 ∙ ap (λ k. k + 1) knows.count ∙ sym (counted (lacks_block sections) ∙ ap (λ b. count_by (lacks_block sections) (visited n job sections) + (if b then 1 else 0)) lacks);
    unread = is.3 ∙ knows.unread ∙ sym (counted (is_unread sections) ∙ ap (λ b. count_by (is_unread sections) (visited n job sections) + (if b then 1 else 0)) (lacking-read sections c lacks) ∙ none-more (count_by (is_unread sections) (visited n job sections)));
  } where
    or_true : (b : Bool) → (b || true) ≡ true
    or_true true = refl
    or_true false = refl

    recorded : (d : List ℕ) → lacks_block sections d ≡ true → Contains (visited n job sections) d ⊎ (c ≡ d) → (bytes_eq c d || has skips.missing d) ≡ true
    recorded d gone (inl i) = ap (λ b. bytes_eq c d || b) (knows.recorded d i gone) ∙ or_true (bytes_eq c d)
    recorded d gone (inr same) = ap (λ b. b || has skips.missing d) ((bytes_eq-Decides c d).1 same)

    met : (d : List ℕ) (b : Bool) → bytes_eq c d ≡ b → (b || has skips.missing d) ≡ true → Contains (visited (suc n) job sections) d
    met d true is h = subst (λ l. Contains l d) (sym one) (subst (λ e. Contains (visited n job sections ++ e ∷ []) d) (sym ((bytes_eq-Decides c d).0 is)) (Contains-push (visited n job sections) d))
    met d false isnt h = sooner d (knows.met d h)

    may : (d : List ℕ) → lacks_block sections d ≡ true → Contains (visited n job sections) d ⊎ (c ≡ d) → may_lack allowed job.roots d ≡ true
    may d gone (inl i) = knows.may d i gone
    may d gone (inr same) = ap (may_lack allowed job.roots) (sym same) ∙ is.0

  -- whichever it is
  pub knows-noted : (more : Skips) → IsNoted allowed job.roots sections c skips more true → KnowsSkips (suc n) job allowed sections more
  knows-noted more noted = by (lacks_block sections c) refl noted where
    by : (b : Bool) → lacks_block sections c ≡ b → MatchBool b (IsNotedMissing allowed job.roots c skips more true) (IsNotedThere sections c skips more) → KnowsSkips (suc n) job allowed sections more
    by true lacks is = knows-missing more lacks is
    by false there is = knows-there more there is

-- how many visits are of missing blocks, and of CIDs that aren't read
pub few-absent : (n : ℕ) (job : JobMeaning) (allowed : AllowMissing) (sections : Blocks) (skips : Skips) (links : List PendingLink) (expanded : Going) → IsTraversed n job sections expanded links
    → KnowsSkips n job allowed sections skips → skips.absent ≤ n
few-absent n job allowed sections skips links expanded is knows =
    let least = count_by-le-length (lacks_block sections) (visited n job sections) in let k = knows.count in let l = is.counted in omega (arith, least, k, l)

pub few-unread : (n : ℕ) (job : JobMeaning) (allowed : AllowMissing) (sections : Blocks) (skips : Skips) (links : List PendingLink) (expanded : Going) → IsTraversed n job sections expanded links
    → KnowsSkips n job allowed sections skips → skips.unread ≤ n
few-unread n job allowed sections skips links expanded is knows =
    let least = count_by-le-length (is_unread sections) (visited n job sections) in let k = knows.unread in let l = is.counted in omega (arith, least, k, l)

-- ---- links

-- the roots stay behind the links
pub put-links : (selector : Pattern) (inside old new : List PendingLink) (roots : List (List ℕ)) → reverse new ≡ inside ++ reverse old → all_waiting selector new roots ≡ inside ++ all_waiting selector old roots
put-links selector inside old new roots put = ap (λ l. l ++ map (root_link selector) roots) put ∙ append_assoc inside (reverse old) (map (root_link selector) roots)

-- a link is passed
pub passes : (job : JobMeaning) (allowed : AllowMissing) (sections : Blocks) (f : PendingLink) (old new : Traversal) → IsBefore job allowed sections f old
    → IsNoted allowed job.roots sections f.cid old.skips new.skips true
    → Expands sections f old.expanded (map as_pending old.links.items) new.expanded (map as_pending new.links.items) → new.roots.now ≡ old.roots.now → new.visits ≡ old.visits + 1
    → IsPassed job allowed sections f old new
passes job allowed sections f old new before noted expands roots counted =
    let links = links_of job.selector old in
    let one : old.visits + 1 ≡ suc old.visits = omega arith in
    let count : new.visits ≡ suc old.visits = counted ∙ one in
    let last = visits-one old.visits job sections (expanded_by old.expanded) f links before.traversed in
    let inside = links_inside f.residual (f.depth + 1) (data_inside sections (Some (expanded_by old.expanded)) f) in
    let put : links_of job.selector new ≡ inside ++ links =
    ap (λ rs. all_waiting job.selector (map as_pending new.links.items) rs) roots ∙ put-links job.selector inside (map as_pending old.links.items) (map as_pending new.links.items) old.roots.now expands.links in
    let traversed = steps old.visits job sections (expanded_by old.expanded) f links before.traversed (expanded_by new.expanded) (links_of job.selector new) before.within expands.expanded put in
    let knows = knows-noted old.visits job allowed sections old.skips before.skips f.cid last new.skips noted in
    record {
      one = counted;
      passing = record {
        sound = before.sound;
        traversed = subst (λ k. IsTraversed k job sections (expanded_by new.expanded) (links_of job.selector new)) (sym count) traversed;
        skips = subst (λ k. KnowsSkips k job allowed sections new.skips) (sym count) knows;
      };
      last = ap (λ k. visited k job sections) count ∙ last;
    }

-- a link isn't passed, since its block may not be missing
pub stops : (job : JobMeaning) (allowed : AllowMissing) (sections : Blocks) (f : PendingLink) (t : Traversal) → IsBefore job allowed sections f t → (lacks_block sections f.cid ≡ true) × (may_lack allowed job.roots f.cid ≡ false)
    → IsStopped job allowed sections f t f.cid
stops job allowed sections f t before not = record {
  named = refl;
  needed = record {
    within = before.within;
    next = visits-one t.visits job sections (expanded_by t.expanded) f (links_of job.selector t) before.traversed;
    lacks = not.0;
    needed = not.1;
    first = before.skips.may;
  };
}
