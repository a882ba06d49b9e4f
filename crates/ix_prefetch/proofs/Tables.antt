-- What a table keeps, when something is added to it.
use Rattle.std.proofs.Common.{◌≡◌, ℕ, suc, ◌+◌, ◌-◌, ◌<◌, ◌≤◌, Bool, true, false, List, [], ◌∷◌, ◌++◌, length, map, get_or, take, drop, refl, sym, ◌∙◌, ap, subst, arith, length-append, length-drop, append-nil}
use Rattle.std.specs.Prelude.{Some, bytes_eq, if◌then◌else◌, slice_get, slice_range, All, option_map}
use Rattle.std.specs.Bool.{OnTrue}
use Rattle.std.proofs.Math.ListN.{get_or-append}
use Rattle.std.proofs.Math.Seq.{get_or-append_seam}
use Rattle.std.proofs.lemmas.List.{map-append, take-append-le, drop-append-le}
use Rattle.std.proofs.lemmas.List.Elements.{All-append, All-cons, All-nil, All-head, All-tail}
use Rattle.std.proofs.lemmas.Option.{same_Some, slice_get-get_or, get_or_from_slice_get, slice_get_within, slice_get-map}
use Rattle.std.proofs.lemmas.Slice.Eq.{bytes_eq-Decides}
use Rattle.ix_selector.specs.Pattern.{Pattern, IsSelector}
use Rattle.ix_selector.specs.Residual.{Place}
use Rattle.ix_selector.specs.Behind.{residual_of, residual_at, same_residual}
use Rattle.ix_selector.proofs.Onward.{all_same, at-rest, left-entered}
use Rattle.ix_store.specs.Store.{Blocks, position_after, position_of, value_of}
use Rattle.ix_store.proofs.Blocks.{some_after}
use Rattle.ix_walk.specs.declared.subtree.PendingLink.{PendingLink}
use Rattle.ix_walk.specs.JobMeaning.{JobMeaning}
use Rattle.ix_walk.specs.Walking.{waiting, links_inside}
use Rattle.ix_walk.proofs.Starts.{followed}
use Rattle.ix_prefetch.specs.declared.link.Link.{Link}
use Rattle.ix_prefetch.specs.declared.link.Link.TheVariants.{Stored, Written}
use Rattle.ix_prefetch.specs.declared.link.Pair.{Pair}
use Rattle.ix_prefetch.specs.Link.{cid_at, pending_of, IsLink}
use Rattle.ix_prefetch.specs.Expansions.{ExpansionTable, IsMet, HasNumber, IsPair, table_of, AreExpansions}
use Rattle.ix_prefetch.specs.Growing.{Adds}

-- ---- CIDs by place

-- the CID at the position of a CID is that CID
named_after : (n place : ℕ) (store : Blocks) (c : List ℕ) → Some place ≡ position_after n store c → (get_or store (place - n) ([], [])).0 ≡ c
named_after n place [] c e = absurd cc
named_after n place (x ∷ xs) c e = by (bytes_eq x.0 c) refl e (named_after (n + 1) place xs c) where
  by : (b : Bool) → bytes_eq x.0 c ≡ b → Some place ≡ (if b then Some n else position_after (n + 1) xs c) → (Some place ≡ position_after (n + 1) xs c → (get_or xs (place - (n + 1)) ([], [])).0 ≡ c)
      → (get_or (x ∷ xs) (place - n) ([], [])).0 ≡ c
  by true same h more =
      let p : place ≡ n = same_Some place n h in
      let z : place - n ≡ 0 = omega arith in
      ap (λ (k : ℕ). (get_or (x ∷ xs) k ([], [])).0) z ∙ (bytes_eq-Decides x.0 c).0 same
  by false apart h more =
      let low = (some_after (n + 1) place xs c h).0 in
      let s : place - n ≡ suc (place - (n + 1)) = omega arith in
      ap (λ (k : ℕ). (get_or (x ∷ xs) k ([], [])).0) s ∙ more h

pub named : (store : Blocks) (c : List ℕ) (place : ℕ) → Some place ≡ position_of store c → cid_at store place ≡ c
named store c place e = let z : place - 0 ≡ place = omega arith in ap (λ (k : ℕ). (get_or store k ([], [])).0) (sym z) ∙ named_after 0 place store c e

-- ---- residuals

-- residuals of one selector that compare as equal are one
pub one_residual : (s : Pattern) (x y : List Place) → IsSelector s → IsMet s x → IsMet s y → same_residual x y ≡ true → x ≡ y
one_residual s x y is a b same =
    let at : same_residual (residual_at s a.0) (residual_at s b.0) ≡ true = (λ i. same_residual (sym a.1 i) (sym b.1 i)) ∙ same in
    a.1 ∙ all_same s (residual_at s a.0) (residual_at s b.0) (at-rest s is.edges a.0).0.each (at-rest s is.edges b.0).0.each at ∙ sym b.1

-- ---- links

-- a link stands for the same with more residuals and CIDs
pub link_stays : (store : Blocks) (rs more : List (List Place)) (cs others : List (List ℕ)) (l : Link) → IsLink store rs cs l → pending_of store (rs ++ more) (cs ++ others) l ≡ pending_of store rs cs l
link_stays store rs more cs others (Stored residual place pair) is = ap (λ (r : List Place). waiting r 0 (cid_at store place)) (get_or-append rs more [] residual is.0)
link_stays store rs more cs others (Written residual cid) is =
    ap (λ (r : List Place). waiting r 0 (get_or (cs ++ others) cid [])) (get_or-append rs more [] residual is.0)
    ∙ ap (λ (c : List ℕ). waiting (get_or rs residual []) 0 c) (get_or-append cs others [] cid is.1)

-- and is one
pub is_link_still : (store : Blocks) (rs more : List (List Place)) (cs others : List (List ℕ)) (l : Link) → IsLink store rs cs l → IsLink store (rs ++ more) (cs ++ others) l
is_link_still store rs more cs others (Stored residual place pair) is = let h = is.0 in (omega (arith, h, length-append rs more), is.1)
is_link_still store rs more cs others (Written residual cid) is = let h = is.0 in let k = is.1 in (omega (arith, h, length-append rs more), omega (arith, k, length-append cs others))

-- so do all
pub links_stay : (store : Blocks) (rs more : List (List Place)) (cs others : List (List ℕ)) (ls : List Link) → All (IsLink store rs cs) ls → map (pending_of store (rs ++ more) (cs ++ others)) ls ≡ map (pending_of store rs cs) ls
links_stay store rs more cs others [] is = refl
links_stay store rs more cs others (l ∷ ls) is =
    ap (λ (f : PendingLink). f ∷ map (pending_of store (rs ++ more) (cs ++ others)) ls) (link_stays store rs more cs others l (All-head (IsLink store rs cs) l ls is))
    ∙ ap (λ (fs : List PendingLink). pending_of store rs cs l ∷ fs) (links_stay store rs more cs others ls (All-tail (IsLink store rs cs) l ls is))

-- ---- tables

-- a table to which something was added
abbrev pub added_to : ExpansionTable → List (List Place) → List PendingLink → ExpansionTable
added_to t more links = record { store = t.store; job = t.job; residuals = t.residuals ++ more; links = t.links ++ links }

pub added_is : (old new : ExpansionTable) (links : List PendingLink) → (adds : Adds old new links) → new ≡ added_to old adds.residuals links
added_is old new links adds = λ i. record { store = adds.store i; job = adds.job i; residuals = adds.more i; links = adds.added i }

-- a part of a list is in any longer one
range_stays : {X : Type 0} (xs ys : List X) (from to : ℕ) → from ≤ to → to ≤ length xs → slice_range (xs ++ ys) from to ≡ slice_range xs from to
range_stays xs ys from to le within =
    ap (take (to - from)) (drop-append-le from xs ys (omega (arith, le, within)))
    ∙ take-append-le (to - from) (drop from xs) ys (let h = length-drop from xs in omega (arith, h, le, within))

-- what was a pair is one
pub pair_stays : (t : ExpansionTable) (more : List (List Place)) (links : List PendingLink) (p : Pair) → IsPair t p → IsPair (added_to t more links) p
pair_stays t more links p is =
    let r = is.residual in
    let w = is.within in
    record {
      residual = omega (arith, r, length-append t.residuals more);
      ordered = is.ordered;
      within = omega (arith, w, length-append t.links links);
      links = λ b.
          range_stays t.links links p.from p.to is.ordered is.within ∙ is.links b
          ∙ ap (λ (x : List Place). links_inside x 0 (value_of t.store (cid_at t.store p.place))) (sym (get_or-append t.residuals more [] p.residual is.residual));
      malformed = is.malformed;
      barren = is.barren;
    }

-- the same by what was added
pub pair_kept : (old new : ExpansionTable) (links : List PendingLink) (p : Pair) → Adds old new links → IsPair old p → IsPair new p
pair_kept old new links p adds is = subst (λ (t : ExpansionTable). IsPair t p) (sym (added_is old new links adds)) (pair_stays old adds.residuals links p is)

-- ---- what is kept, with more residuals, CIDs and links

module _ (store : Blocks) (job : JobMeaning) (rs rs' more : List (List Place)) (cs cs' others : List (List ℕ)) (ls ls' new : List Link) (ps : List Pair)
    (residuals : rs' ≡ rs ++ more) (cids : cs' ≡ cs ++ others) (links : ls' ≡ ls ++ new) (is : AreExpansions store job rs cs ls ps) where
  -- the links of the table before stand for the same
  pub kept : map (pending_of store rs' cs') ls ≡ map (pending_of store rs cs) ls
  kept = (λ i. map (pending_of store (residuals i) (cids i)) ls) ∙ links_stay store rs more cs others ls is.linked

  -- the table has the links added
  pub adds : Adds (table_of store job rs cs ls) (table_of store job rs' cs' ls') (map (pending_of store rs' cs') new)
  adds = record {
    residuals = more;
    store = refl;
    job = refl;
    more = residuals;
    added =
        ap (map (pending_of store rs' cs')) links ∙ map-append (pending_of store rs' cs') ls new
        ∙ ap (λ (fs : List PendingLink). fs ++ map (pending_of store rs' cs') new) kept;
  }

  -- and what is kept of it is true
  pub more_kept : All (IsMet job.selector) more → All (IsLink store rs' cs') new → AreExpansions store job rs' cs' ls' ps
  more_kept met linked = record {
    selector = is.selector;
    root = root;
    met = subst (All (IsMet job.selector)) (sym residuals) (All-append (IsMet job.selector) rs more is.met met);
    linked = subst (All (IsLink store rs' cs')) (sym links) (All-append (IsLink store rs' cs') ls new old linked);
    paired = λ k d lt. pair_kept (table_of store job rs cs ls) (table_of store job rs' cs' ls') (map (pending_of store rs' cs') new) (get_or ps k d) adds (is.paired k d lt);
  } where
    root : slice_get rs' 0 ≡ Some (residual_of job.selector)
    root =
        let first = slice_get_within rs 0 (residual_of job.selector) is.root in
        ap (λ (l : List (List Place)). slice_get l 0) residuals
        ∙ slice_get-get_or (rs ++ more) 0 [] (omega (arith, first, length-append rs more))
        ∙ ap (λ (r : List Place). Some r) (get_or-append rs more [] 0 first ∙ get_or_from_slice_get rs 0 (residual_of job.selector) [] is.root)

    old : All (IsLink store rs' cs') ls
    old k d lt =
        subst (λ (z : List (List Place)). IsLink store z cs' (get_or ls k d)) (sym residuals)
        (subst (λ (z : List (List ℕ)). IsLink store (rs ++ more) z (get_or ls k d)) (sym cids) (is_link_still store rs more cs others (get_or ls k d) (is.linked k d lt)))

-- one more pair
pub pair_more : (store : Blocks) (job : JobMeaning) (rs : List (List Place)) (cs : List (List ℕ)) (ls : List Link) (ps ps' : List Pair) (p : Pair) → ps' ≡ ps ++ p ∷ [] → AreExpansions store job rs cs ls ps → IsPair (table_of store job rs cs ls) p
    → AreExpansions store job rs cs ls ps'
pair_more store job rs cs ls ps ps' p added is pair =
    let P : Pair → Type 0 = IsPair (table_of store job rs cs ls) in
    record {
      selector = is.selector;
      root = is.root;
      met = is.met;
      linked = is.linked;
      paired = subst (All P) (sym added) (All-append P ps (p ∷ []) is.paired (All-cons P p [] pair (All-nil P)));
    }

-- ---- a table with nothing in it

-- the residual of a root is the selector's
pub root_met : (s : Pattern) → IsSelector s → IsMet s (residual_of s)
root_met s is = ([], sym (followed s (λ p. left-entered s is p)).starts)

-- what is kept at first is true
pub empty_kept : (store : Blocks) (job : JobMeaning) (rs : List (List Place)) (cs : List (List ℕ)) (ls : List Link) (ps : List Pair) (r : List Place) → IsSelector job.selector → rs ≡ r ∷ [] → r ≡ residual_of job.selector → cs ≡ [] → ls ≡ [] → ps ≡ []
    → AreExpansions store job rs cs ls ps
empty_kept store job rs cs ls ps r is one root cids links pairs = record {
  selector = is;
  root = ap (λ (l : List (List Place)). slice_get l 0) one ∙ ap (λ (x : List Place). Some x) root;
  met = subst (All (IsMet job.selector)) (sym one) (All-cons (IsMet job.selector) r [] (subst (IsMet job.selector) (sym root) (root_met job.selector is)) (All-nil (IsMet job.selector)));
  linked = subst (All (IsLink store rs cs)) (sym links) (All-nil (IsLink store rs cs));
  paired = subst (All (IsPair (table_of store job rs cs ls))) (sym pairs) (All-nil (IsPair (table_of store job rs cs ls)));
}

-- ---- numbers

-- the last of a list has the number of those before it
pub last_numbered : {X : Type 0} (xs ys : List X) (x : X) (n : ℕ) → ys ≡ xs ++ x ∷ [] → n ≡ length xs → slice_get ys n ≡ Some x
last_numbered {X = X} xs ys x n added is =
    ap (λ (l : List X). slice_get l n) added ∙ ap (slice_get (xs ++ x ∷ [])) is
    ∙ slice_get-get_or (xs ++ x ∷ []) (length xs) x (omega (arith, length-append xs (x ∷ [])))
    ∙ ap (λ (y : X). Some y) (get_or-append_seam xs x [] x)

-- ---- one thing more

-- one more residual
pub residual_more : (store : Blocks) (job : JobMeaning) (rs rs' : List (List Place)) (cs : List (List ℕ)) (ls : List Link) (ps : List Pair) (r : List Place) → rs' ≡ rs ++ r ∷ [] → IsMet job.selector r → AreExpansions store job rs cs ls ps
    → AreExpansions store job rs' cs ls ps × Adds (table_of store job rs cs ls) (table_of store job rs' cs ls) []
residual_more store job rs rs' cs ls ps r added met is =
    let none = sym (append-nil cs) in
    let no_link = sym (append-nil ls) in (
      more_kept store job rs rs' (r ∷ []) cs cs [] ls ls [] ps added none no_link is (All-cons (IsMet job.selector) r [] met (All-nil (IsMet job.selector))) (All-nil (IsLink store rs' cs)),
      adds store job rs rs' (r ∷ []) cs cs [] ls ls [] ps added none no_link is,
    )

-- one more link
pub link_more : (store : Blocks) (job : JobMeaning) (rs : List (List Place)) (cs : List (List ℕ)) (ls ls' : List Link) (ps : List Pair) (l : Link) → ls' ≡ ls ++ l ∷ [] → IsLink store rs cs l → AreExpansions store job rs cs ls ps
    → AreExpansions store job rs cs ls' ps × Adds (table_of store job rs cs ls) (table_of store job rs cs ls') (pending_of store rs cs l ∷ [])
link_more store job rs cs ls ls' ps l added valid is =
    let none = sym (append-nil cs) in
    let no_residual = sym (append-nil rs) in (
      more_kept store job rs rs [] cs cs [] ls ls' (l ∷ []) ps no_residual none added is (All-nil (IsMet job.selector)) (All-cons (IsLink store rs cs) l [] valid (All-nil (IsLink store rs cs))),
      adds store job rs rs [] cs cs [] ls ls' (l ∷ []) ps no_residual none added is,
    )

-- one more CID, which changes nothing
pub cid_more : (store : Blocks) (job : JobMeaning) (rs : List (List Place)) (cs cs' : List (List ℕ)) (ls : List Link) (ps : List Pair) (c : List ℕ) → cs' ≡ cs ++ c ∷ [] → AreExpansions store job rs cs ls ps
    → AreExpansions store job rs cs' ls ps × (table_of store job rs cs' ls ≡ table_of store job rs cs ls)
cid_more store job rs cs cs' ls ps c added is =
    let no_residual = sym (append-nil rs) in
    let no_link = sym (append-nil ls) in (
      more_kept store job rs rs [] cs cs' (c ∷ []) ls ls [] ps no_residual added no_link is (All-nil (IsMet job.selector)) (All-nil (IsLink store rs cs')),
      ap (λ (fs : List PendingLink). let t : ExpansionTable = record { store = store; job = job; residuals = rs; links = fs } in t) (kept store job rs rs [] cs cs' (c ∷ []) ls ls [] ps no_residual added no_link is),
    )

-- a link to it
pub written_more : (store : Blocks) (job : JobMeaning) (rs : List (List Place)) (cs cs' : List (List ℕ)) (ls ls' : List Link) (ps : List Pair) (residual number : ℕ) (c : List ℕ) → cs' ≡ cs ++ c ∷ [] → number ≡ length cs → ls' ≡ ls ++ Written residual number ∷ []
    → residual < length rs → AreExpansions store job rs cs ls ps
    → AreExpansions store job rs cs' ls' ps × Adds (table_of store job rs cs ls) (table_of store job rs cs' ls') (waiting (get_or rs residual []) 0 c ∷ [])
written_more store job rs cs cs' ls ls' ps residual number c added last linked lt is =
    let first = cid_more store job rs cs cs' ls ps c added is in
    let within : number < length cs' = let n = ap length added in omega (arith, last, n, length-append cs (c ∷ [])) in
    let more = link_more store job rs cs' ls ls' ps (Written residual number) linked (lt, within) first.0 in
    let named : get_or cs' number [] ≡ c = (λ i. get_or (added i) (last i) []) ∙ get_or-append_seam cs c [] [] in (
      more.0,
      subst (λ (t : ExpansionTable). Adds t (table_of store job rs cs' ls') (waiting (get_or rs residual []) 0 c ∷ [])) first.1
          (subst (λ (x : List ℕ). Adds (table_of store job rs cs' ls) (table_of store job rs cs' ls') (waiting (get_or rs residual []) 0 x ∷ [])) named more.1),
    )

-- ---- tests

-- a residual has the number of one that compares as equal
pub numbered_if : (t : ExpansionTable) (x y : List Place) (n : ℕ) (b : Bool) → IsSelector t.job.selector → slice_get t.residuals n ≡ Some x → IsMet t.job.selector x → IsMet t.job.selector y → b ≡ same_residual x y → OnTrue b (HasNumber t y n)
numbered_if t x y n true is at a b same = at ∙ ap (λ (r : List Place). Some r) (one_residual t.job.selector x y is a b (sym same))
numbered_if t x y n false is at a b same = tt

-- the CID at a place
pub cid_is : (store : Blocks) (place : ℕ) (c : List ℕ) → place < length store → slice_get (map (λ e. e.0) store) place ≡ Some c → c ≡ cid_at store place
cid_is store place c lt at =
    let p : List ℕ × List ℕ = get_or store place ([], []) in
    let there : slice_get store place ≡ Some p = slice_get-get_or store place ([], []) lt in
    sym (same_Some p.0 c (ap (option_map (λ (e : List ℕ × List ℕ). e.0)) (sym there) ∙ sym (slice_get-map (λ (e : List ℕ × List ℕ). e.0) store place) ∙ at))

-- a list of no length
pub no_items : {X : Type 0} (xs : List X) → length xs ≡ 0 → xs ≡ []
no_items [] e = refl
no_items (x ∷ xs) e = absurd (omega (arith, e))
