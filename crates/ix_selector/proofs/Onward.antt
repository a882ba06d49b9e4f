-- What is left of a selector after each step of a path in turn.
use Rattle.std.proofs.Common.{◌≡◌, ℕ, ◌-◌, ◌<◌, ◌⊎◌, inl, inr, ⊎_elim, Bool, true, false, true≢false, nat_eq, ◌&&◌, List, [], ◌∷◌, ◌++◌, refl, sym, ◌∙◌, ap, subst, append-nil}
use Rattle.std.specs.Prelude.{◌↔◌, Option, Some, None, nat_le, if◌then◌else◌}
use Rattle.std.specs.Option.{option_eq}
use Rattle.std.specs.Cmp.Lexicographic.{pointwise}
use Rattle.std.proofs.lemmas.Bool.{leb-true, le-leb, eqb-true, and_parts}
use Rattle.std.specs.Cmp.{both_ways}
use Rattle.ix_selector.specs.Pattern.{Pattern, matcher, all, fields, index, range, recursive, union, edge, outside, unguarded, IsGuarded, IsSelector}
use Rattle.ix_selector.specs.Enters.{Step, Path, Enters, at_edge, at_edge_within}
use Rattle.ix_selector.specs.IsEntered.{is_entered}
use Rattle.ix_selector.specs.Residual.{Place, IsAmong, here, there, ResidualEnters, residual_enters}
use Rattle.ix_selector.specs.States.{deeper, Stands}
use Rattle.ix_selector.specs.Behind.{leads, before, leads_from, all_lead, is_edge, standing, again, started, restarted, innermost, deeper_around, both, put, merged, leads_after, leads_after_from, all_lead_after, residual_of, residual_after, residual_along, residual_at, depths, same_place, same_residual}
use Rattle.ix_selector.proofs.Decides.{FramesGuarded, is_entered-decides}
use Rattle.ix_selector.proofs.Entering.{stands-enters, edge-inside, edge-inside_within, edge-nowhere, deeper-left, deeper-right, deeper-either}
use Rattle.ix_selector.proofs.Inside.{guarded-later}
use Rattle.ix_selector.proofs.Tested.{around_of, ArePlaces, residual_sound, residual_complete}
use Rattle.ix_selector.proofs.Merged.{put-below, put-above, put-beside, less-same-greater}
use Rattle.ix_selector.proofs.Same.{depth-equal}
use Rattle.ix_selector.proofs.Within.{Inner, itself, one-place}
use Rattle.ix_selector.proofs.Rests.{Enter, iff_twice, iff_same, iff_back, either_iff, either-never, either-grouped, enter-append, enter_by, Each, each-append, leads-enter, IsLead, leads-lead, standing-each, standing-stands, leads-no_edge, no_edges, behind-enter, behind-lead, frames_in, number_in, around_in, Home, IsIn, leads-in, behind-in, before_is}

-- ---- the sequences that edges enter again

-- a re-entered sequence enters what its edge enters
limit_enter : (s : Pattern) (n : ℕ) (d : Option ℕ) (p : Path) → (Enter (restarted s n d) p ↔ Enters edge (record { sequence = s; depth = d } ∷ []) p)
limit_enter s n None p = iff_twice either-never (λ h. at_edge h, λ h. edge-inside h)
limit_enter s n (Some d) p = by (nat_le 2 d) refl where
  by : (b : Bool) → nat_le 2 d ≡ b → (Enter (if b then started s n (Some (d - 1)) else []) p ↔ Enters edge (record { sequence = s; depth = Some d } ∷ []) p)
  by true is = iff_twice either-never (λ h. at_edge_within (leb-true 2 d is) h, λ h. (edge-inside_within h).1)
  by false is = (λ h. absurd h, λ h. true≢false (sym (le-leb 2 d (edge-inside_within h).0) ∙ is))

-- the same by whether there is a recursion
edge_enter : (q : Inner) (d : Option ℕ) (p : Path) → (Enter (innermost (frames_in q d) (number_in q)) p ↔ Enters edge (frames_in q d) p)
edge_enter None d p = (λ h. absurd h, λ h. absurd (edge-nowhere h))
edge_enter (Some c) d p = limit_enter c.1 c.0 d p

-- the test finds edges alone
is_an_edge : (s : Pattern) → is_edge s ≡ true → s ≡ edge
is_an_edge matcher h = absurd (true≢false (sym h))
is_an_edge (all s) h = absurd (true≢false (sym h))
is_an_edge (fields fs) h = absurd (true≢false (sym h))
is_an_edge (index i s) h = absurd (true≢false (sym h))
is_an_edge (range i j s) h = absurd (true≢false (sym h))
is_an_edge (recursive d s) h = absurd (true≢false (sym h))
is_an_edge (union ss) h = absurd (true≢false (sym h))
is_an_edge edge h = refl

-- what starts anew: each of its edges is after a step
abbrev IsStart : Place → Type 0
IsStart x = IsGuarded unguarded x.selector

module _ (whole : Pattern) where
  -- the same of a place that is an edge
  place_enter : (x : Place) (is : IsIn whole x) → is_edge x.selector ≡ true → (p : Path) → (Enter (innermost x.around x.sequence) p ↔ Enters x.selector x.around p)
  place_enter x is edge_is p =
      let listed : innermost x.around x.sequence ≡ innermost (frames_in is.inner is.depth) (number_in is.inner) = λ i. innermost (is.around i) (is.sequence i) in
      iff_twice (enter_by (innermost x.around x.sequence) (innermost (frames_in is.inner is.depth) (number_in is.inner)) p listed)
      (iff_twice (edge_enter is.inner is.depth p) (
        λ h. subst (λ s. Enters s x.around p) (sym (is_an_edge x.selector edge_is)) (subst (λ e. Enters edge e p) (sym is.around) h),
        λ h. subst (λ e. Enters edge e p) is.around (subst (λ s. Enters s x.around p) (is_an_edge x.selector edge_is) h),
      ))

  -- the first two of three cases may change places
  swapped : {A B C : Type 0} → ((A ⊎ (B ⊎ C)) ↔ (B ⊎ (A ⊎ C)))
  swapped {A} {B} {C} = (
    λ h. ⊎_elim (λ (a : A). inr (inl a)) (λ (r : B ⊎ C). ⊎_elim (λ (b : B). inl b) (λ (c : C). inr (inr c)) r) h,
    λ h. ⊎_elim (λ (b : B). inr (inl b)) (λ (r : A ⊎ C). ⊎_elim (λ (a : A). inl a) (λ (c : C). inr (inr c)) r) h,
  )

  -- all is entered by matchers and explorers, and by what edges re-enter
  parts-enter : (xs : List Place) → Each (IsIn whole) xs → (p : Path) → (Enter xs p ↔ (Enter (standing xs) p ⊎ Enter (again xs) p))
  parts-enter [] h p = (λ n. absurd n, λ n. ⊎_elim (λ (a : ⊥). a) (λ (b : ⊥). b) n)
  parts-enter (x ∷ xs) h p = by (is_edge x.selector) refl (parts-enter xs h.1 p) where
    by : (b : Bool) → is_edge x.selector ≡ b → (Enter xs p ↔ (Enter (standing xs) p ⊎ Enter (again xs) p))
        → (Enter (x ∷ xs) p ↔ (Enter (if b then standing xs else x ∷ standing xs) p ⊎ Enter (if b then innermost x.around x.sequence ++ again xs else again xs) p))
    by true is rest =
        iff_twice (either_iff (iff_back (place_enter x h.0 is p)) rest)
        (iff_twice swapped (either_iff iff_same (iff_back (enter-append (innermost x.around x.sequence) (again xs) p))))
    by false is rest = iff_twice (either_iff iff_same rest) either-grouped

  -- a sequence at its start is a place of the whole
  start_in : (c : ℕ × Pattern) (d : Option ℕ) → Home whole (Some c) → Each (λ x. IsIn whole x × IsStart x) (started c.1 c.0 d)
  start_in c d home = (
    (record { first = home.0; inner = Some c; depth = d; up = home.2; home = home; guard = guarded-later c.1 home.3; number = home.1; around = refl; sequence = refl }, home.3),
    tt,
  )

  -- and so is one that is re-entered
  limit_in : (c : ℕ × Pattern) (d : Option ℕ) → Home whole (Some c) → Each (λ x. IsIn whole x × IsStart x) (restarted c.1 c.0 d)
  limit_in c None home = start_in c None home
  limit_in c (Some d) home = by (nat_le 2 d) where
    by : (b : Bool) → Each (λ x. IsIn whole x × IsStart x) (if b then started c.1 c.0 (Some (d - 1)) else [])
    by true = start_in c (Some (d - 1)) home
    by false = tt

  -- the same by whether there is a recursion
  inner_in : (q : Inner) (d : Option ℕ) → Home whole q → Each (λ x. IsIn whole x × IsStart x) (innermost (frames_in q d) (number_in q))
  inner_in None d home = tt
  inner_in (Some c) d home = limit_in c d home

  -- place by place
  again-in : (xs : List Place) → Each (IsIn whole) xs → Each (λ x. IsIn whole x × IsStart x) (again xs)
  again-in [] h = tt
  again-in (x ∷ xs) h = by (is_edge x.selector) (again-in xs h.1) where
    by : (b : Bool) → Each (λ x. IsIn whole x × IsStart x) (again xs) → Each (λ x. IsIn whole x × IsStart x) (if b then innermost x.around x.sequence ++ again xs else again xs)
    by true rest =
        let is = h.0 in
        let listed : innermost (frames_in is.inner is.depth) (number_in is.inner) ≡ innermost x.around x.sequence = λ i. innermost (sym is.around i) (sym is.sequence i) in
        each-append (λ x. IsIn whole x × IsStart x) (innermost x.around x.sequence) (again xs) (subst (Each (λ x. IsIn whole x × IsStart x)) listed (inner_in is.inner is.depth is.home)) rest
    by false rest = rest

  -- ---- one for all ways to a place

  -- joining recursions joins their depths
  around_both : (q : Inner) (d e : Option ℕ) → deeper_around (frames_in q d) (frames_in q e) ≡ frames_in q (deeper d e)
  around_both None d e = refl
  around_both (Some c) d e = refl

  -- a selector with the greater depth enters what it enters with either
  deeper_enter : (s : Pattern) (q : Inner) (d e : Option ℕ) (p : Path) → (Enters s (frames_in q (deeper d e)) p ↔ (Enters s (frames_in q d) p ⊎ Enters s (frames_in q e) p))
  deeper_enter s None d e p = (λ h. inl h, λ h. ⊎_elim (λ (a : Enters s [] p). a) (λ (b : Enters s [] p). b) h)
  deeper_enter s (Some c) d e p = (
    λ h. deeper-either d e [] h,
    λ h.
        ⊎_elim
        (λ (a : Enters s (record { sequence = c.1; depth = d } ∷ []) p). deeper-left d e [] a)
        (λ (b : Enters s (record { sequence = c.1; depth = e } ∷ []) p). deeper-right d e [] b)
        h,
  )

  record Joined (y x : Place) : Type 0 where
    is : IsIn whole (both y x)
    enters : (p : Path) → (Enters y.selector (deeper_around y.around x.around) p ↔ (Enters y.selector y.around p ⊎ Enters x.selector x.around p))

  -- two places with one number are one place, since the numbers inside the whole are distinct
  join : (y x : Place) → IsIn whole y → IsIn whole x → x.number ≡ y.number → Joined y x
  join y x b a same =
      let one = one-place y.selector x.selector b.first a.first b.inner a.inner (b.up y.selector b.first b.inner itself) (a.up x.selector a.first a.inner itself) (sym b.number ∙ sym same ∙ a.number) in
      let others : x.around ≡ frames_in b.inner a.depth = a.around ∙ ap (λ q. frames_in q a.depth) (sym one.2) in
      let joint : deeper_around y.around x.around ≡ frames_in b.inner (deeper b.depth a.depth) = (λ i. deeper_around (b.around i) (others i)) ∙ around_both b.inner b.depth a.depth in
      record {
        is = record { first = b.first; inner = b.inner; depth = deeper b.depth a.depth; up = b.up; home = b.home; guard = b.guard; number = b.number; around = joint; sequence = b.sequence };
        enters = λ p.
            iff_twice (λ h. subst (λ e. Enters y.selector e p) joint h, λ h. subst (λ e. Enters y.selector e p) (sym joint) h)
            (iff_twice (deeper_enter y.selector b.inner b.depth a.depth p)
            (either_iff
            (λ h. subst (λ e. Enters y.selector e p) (sym b.around) h, λ h. subst (λ e. Enters y.selector e p) b.around h)
            (λ h. subst (λ s. Enters s x.around p) one.0 (subst (λ e. Enters y.selector e p) (sym others) h), λ h. subst (λ e. Enters y.selector e p) others (subst (λ s. Enters s x.around p) (sym one.0) h))));
      }

  record Put (P : Pattern → Type 0) (x : Place) (ys : List Place) : Type 0 where
    each : Each (IsIn whole) (put x ys)
    such : Each (λ y. P y.selector) (put x ys)
    enters : (p : Path) → (Enter (put x ys) p ↔ (Enters x.selector x.around p ⊎ Enter ys p))

  -- putting a place among others keeps what it is, and what they enter
  put-in : (P : Pattern → Type 0) (x : Place) (ys : List Place) → IsIn whole x → P x.selector → Each (IsIn whole) ys → Each (λ y. P y.selector) ys → Put P x ys
  put-in P x [] a pa ys ps = record { each = (a, tt); such = (pa, tt); enters = λ p. iff_same }
  put-in P x (y ∷ ys) a pa bs ps =
      let rest = put-in P x ys a pa bs.1 ps.1 in
      ⊎_elim
      (λ (l : x.number < y.number). by (x ∷ y ∷ ys) (put-below x y ys l) (a, bs) (pa, ps) (λ p. iff_same))
      (λ (r : (x.number ≡ y.number) ⊎ (y.number < x.number)).
      ⊎_elim
      (λ (e : x.number ≡ y.number).
      let joint = join y x bs.0 a e in
      by (both y x ∷ ys) (put-beside x y ys e) (joint.is, bs.1) ps (λ p. iff_twice (either_iff (joint.enters p) iff_same) turned))
      (λ (g : y.number < x.number). by (y ∷ put x ys) (put-above x y ys g) (bs.0, rest.each) (ps.0, rest.such) (λ p. iff_twice (either_iff iff_same (rest.enters p)) swapped))
      r)
      (less-same-greater x.number y.number) where
        by : (zs : List Place) → put x (y ∷ ys) ≡ zs → Each (IsIn whole) zs → Each (λ y. P y.selector) zs → ((p : Path) → (Enter zs p ↔ (Enters x.selector x.around p ⊎ Enter (y ∷ ys) p))) → Put P x (y ∷ ys)
        by zs same each such enters = record {
          each = subst (Each (IsIn whole)) (sym same) each;
          such = subst (Each (λ y. P y.selector)) (sym same) such;
          enters = λ p. iff_twice (enter_by (put x (y ∷ ys)) zs p same) (enters p);
        }

        turned : {A B C : Type 0} → (((A ⊎ B) ⊎ C) ↔ (B ⊎ (A ⊎ C)))
        turned {A} {B} {C} = (
          λ h. ⊎_elim (λ (l : A ⊎ B). ⊎_elim (λ (u : A). inr (inl u)) (λ (v : B). inl v) l) (λ (w : C). inr (inr w)) h,
          λ h. ⊎_elim (λ (v : B). inl (inr v)) (λ (r : A ⊎ C). ⊎_elim (λ (u : A). inl (inl u)) (λ (w : C). inr w) r) h,
        )

  record Merges (P : Pattern → Type 0) (xs : List Place) : Type 0 where
    each : Each (IsIn whole) (merged xs)
    such : Each (λ y. P y.selector) (merged xs)
    enters : (p : Path) → (Enter (merged xs) p ↔ Enter xs p)

  -- place by place
  merged-in : (P : Pattern → Type 0) (xs : List Place) → Each (IsIn whole) xs → Each (λ y. P y.selector) xs → Merges P xs
  merged-in P [] h ps = record { each = tt; such = tt; enters = λ p. iff_same }
  merged-in P (x ∷ xs) h ps =
      let rest = merged-in P xs h.1 ps.1 in
      let more = put-in P x (merged xs) h.0 ps.0 rest.each rest.such in
      record { each = more.each; such = more.such; enters = λ p. iff_twice (more.enters p) (either_iff iff_same (rest.enters p)) }

  -- ---- where places lead

  -- where a place leads, by what it is in the whole
  leads_from_is : (x : Place) (is : IsIn whole x) → leads_from x ≡ leads x.selector is.first (frames_in is.inner is.depth) (number_in is.inner)
  leads_from_is x is = λ i. leads x.selector (before_is whole x is i) (is.around i) (is.sequence i)

  record Leading (starts : List Place) : Type 0 where
    each : Each (IsIn whole) (all_lead starts)
    lead : Each IsLead (all_lead starts)
    no_edge : standing (all_lead starts) ≡ all_lead starts
    enters : (p : Path) → (Enter (all_lead starts) p ↔ Enter starts p)

  -- where starts lead are places of the whole, and enter the same
  lead-on : (xs : List Place) → Each (IsIn whole) xs → Each IsStart xs → Leading xs
  lead-on [] h g = record { each = tt; lead = tt; no_edge = refl; enters = λ p. iff_same }
  lead-on (x ∷ xs) h g =
      let rest = lead-on xs h.1 g.1 in
      let is = h.0 in record {
        each = each-append (IsIn whole) (leads_from x) (all_lead xs) (subst (Each (IsIn whole)) (sym (leads_from_is x is)) (leads-in whole x.selector is.first is.inner is.depth is.up is.home is.guard)) rest.each;
        lead = each-append IsLead (leads_from x) (all_lead xs) (leads-lead x.selector (before x) x.around x.sequence) rest.lead;
        no_edge = no_edges (leads_from x) (all_lead xs) (leads-no_edge unguarded x.selector (before x) x.around x.sequence (λ m. m) g.0) rest.no_edge;
        enters = λ p. iff_twice (enter-append (leads_from x) (all_lead xs) p) (either_iff (leads-enter x.selector (before x) x.around x.sequence p) (rest.enters p));
      }

  record Stepping (xs : List Place) (t : Step) : Type 0 where
    each : Each (IsIn whole) (all_lead_after xs t)
    lead : Each IsLead (all_lead_after xs t)
    enters : (p : Path) → (Enter (all_lead_after xs t) p ↔ Enter xs (t ∷ p))

  -- where places lead after a step are places of the whole, and enter what those enter after it
  step-on : (xs : List Place) (t : Step) → Each (IsIn whole) xs → Each (λ x. Stands x.selector) xs → Stepping xs t
  step-on [] t h g = record { each = tt; lead = tt; enters = λ p. iff_same }
  step-on (x ∷ xs) t h g =
      let rest = step-on xs t h.1 g.1 in
      let is = h.0 in record {
        each =
            each-append (IsIn whole) (leads_after_from x t) (all_lead_after xs t)
            (subst (λ m. Each (IsIn whole) (leads_after x.selector t m x.around x.sequence)) (sym (before_is whole x is))
            (subst (λ e. Each (IsIn whole) (leads_after x.selector t is.first e x.sequence)) (sym is.around)
            (subst (λ q. Each (IsIn whole) (leads_after x.selector t is.first (frames_in is.inner is.depth) q)) (sym is.sequence)
            (behind-in whole x.selector t is.first is.inner is.depth is.up is.home is.guard)))) rest.each;
        lead = each-append IsLead (leads_after_from x t) (all_lead_after xs t) (behind-lead x.selector t (before x) x.around x.sequence) rest.lead;
        enters = λ p.
            iff_twice (enter-append (leads_after_from x t) (all_lead_after xs t) p) (either_iff (behind-enter x.selector g.0 t (before x) x.around x.sequence p) (rest.enters p));
      }

  -- ---- residuals

  -- places of the whole that are matchers and explorers
  pub record IsRest (xs : List Place) : Type 0 where
    pub each : Each (IsIn whole) xs
    pub stands : Each (λ x. Stands x.selector) xs

  pub record IsNext (xs ys : List Place) (t : Step) : Type 0 where
    pub rest : IsRest ys
    pub enters : (p : Path) → (Enter ys p ↔ Enter xs (t ∷ p))

  -- so the residual after a step is as it should be
  pub behind-rest : (xs : List Place) (t : Step) → IsRest xs → IsNext xs (residual_after xs t) t
  unfolding residual_after
  behind-rest xs t r =
      let found = all_lead_after xs t in
      let steps = step-on xs t r.each r.stands in
      let anew = again-in found steps.each in
      let starts = merged-in (IsGuarded unguarded) (again found) (firsts (again found) anew) (seconds (again found) anew) in
      let leading = lead-on (merged (again found)) starts.each starts.such in
      let later = all_lead (merged (again found)) in
      let total = standing found ++ standing later in
      let whole_of = merged-in Stands total
      (each-append (IsIn whole) (standing found) (standing later) (standing-each (IsIn whole) found steps.each) (standing-each (IsIn whole) later leading.each))
      (each-append (λ x. Stands x.selector) (standing found) (standing later) (standing-stands found steps.lead) (standing-stands later leading.lead)) in record {
        rest = record { each = whole_of.each; stands = whole_of.such };
        enters = λ p.
            iff_twice (whole_of.enters p)
            (iff_twice (enter-append (standing found) (standing later) p)
            (iff_twice (either_iff iff_same (iff_twice (enter_by (standing later) later p leading.no_edge) (iff_twice (leading.enters p) (starts.enters p))))
            (iff_twice (iff_back (parts-enter found steps.each p)) (steps.enters p))));
      } where
        firsts : (xs : List Place) → Each (λ x. IsIn whole x × IsStart x) xs → Each (IsIn whole) xs
        firsts [] h = tt
        firsts (x ∷ xs) h = (h.0.0, firsts xs h.1)

        seconds : (xs : List Place) → Each (λ x. IsIn whole x × IsStart x) xs → Each IsStart xs
        seconds [] h = tt
        seconds (x ∷ xs) h = (h.0.1, seconds xs h.1)

  pub record IsStartOf (s : Pattern) (ys : List Place) : Type 0 where
    pub rest : IsRest ys
    pub enters : (p : Path) → (Enter ys p ↔ Enters s [] p)

  -- and so is that at the root
  pub start-rest : IsGuarded outside whole → IsStartOf whole (residual_of whole)
  unfolding residual_of
  start-rest g =
      let found = leads whole 0 [] None in
      let inside = leads-in whole whole 0 None None (λ t l v h. h) tt g in
      let all_of = merged-in Stands (standing found) (standing-each (IsIn whole) found inside) (standing-stands found (leads-lead whole 0 [] None)) in record {
        rest = record { each = all_of.each; stands = all_of.such };
        enters = λ p. iff_twice (all_of.enters p) (iff_twice (enter_by (standing found) found p (leads-no_edge outside whole 0 [] None (λ m. m) g)) (leads-enter whole 0 [] None p));
      }

  pub record IsAlong (xs ys : List Place) (p : Path) : Type 0 where
    pub rest : IsRest ys
    pub enters : (q : Path) → (Enter ys q ↔ Enter xs (p ++ q))

  -- step by step along a path
  pub along-rest : (xs : List Place) (p : Path) → IsRest xs → IsAlong xs (residual_along xs p) p
  along-rest xs [] r = record { rest = r; enters = λ q. iff_same }
  along-rest xs (t ∷ p) r =
      let one = behind-rest xs t r in
      let more = along-rest (residual_after xs t) p one.rest in
      record { rest = more.rest; enters = λ q. iff_twice (more.enters q) (one.enters (p ++ q)) }

  -- so the residual at a path enters what the selector enters from there
  pub at-rest : IsGuarded outside whole → (p : Path) → IsRest (residual_at whole p) × ((q : Path) → (Enter (residual_at whole p) q ↔ Enters whole [] (p ++ q)))
  unfolding residual_at
  at-rest g p =
      let start = start-rest g in
      let along = along-rest (residual_of whole) p start.rest in
      (along.rest, λ q. iff_twice (along.enters q) (start.enters (p ++ q)))

  -- ---- by the tests

  -- the two ways to say that one of some places enters
  enter_among : (xs : List Place) (p : Path) → (Enter xs p ↔ ResidualEnters xs p)
  enter_among xs p = (into xs, λ h. out xs h.among h.enters) where
    into : (xs : List Place) → Enter xs p → ResidualEnters xs p
    into [] h = absurd h
    into (x ∷ xs) h =
        ⊎_elim
        (λ (a : Enters x.selector x.around p). record { place = x; among = here; enters = a })
        (λ (b : Enter xs p). let rest = into xs b in record { place = rest.place; among = there rest.among; enters = rest.enters })
        h

    out : (xs : List Place) {x : Place} → IsAmong x xs → Enters x.selector x.around p → Enter xs p
    out [] n h = elim n [ ]
    out (x ∷ xs) here h = inl h
    out (x ∷ xs) (there n) h = inr (out xs n h)

  -- places of the whole are guarded, as the test of residuals asks
  are_places : (xs : List Place) → Each (IsIn whole) xs → ArePlaces xs
  are_places [] h = tt
  are_places (x ∷ xs) h = (place h.0, are_places xs h.1) where
    by : (s : Pattern) (q : Inner) (d : Option ℕ) → IsGuarded (around_in q) s → Home whole q → IsGuarded (around_of (frames_in q d)) s × FramesGuarded (frames_in q d)
    by s None d g home = (g, tt)
    by s (Some c) d g home = (g, (home.3, tt))

    place : IsIn whole x → IsGuarded (around_of x.around) x.selector × FramesGuarded x.around
    place is = subst (λ e. IsGuarded (around_of e) x.selector × FramesGuarded e) (sym is.around) (by x.selector is.inner is.depth is.guard is.home)

  -- the same by the test: the law `LeavesTheRest`
  pub rest-tested : IsSelector whole → (p q : Path) → residual_enters (residual_at whole p) q ≡ is_entered whole (p ++ q)
  rest-tested selector p q =
      let r = at-rest selector.edges p in
      let meant = iff_twice (iff_back (enter_among (residual_at whole p) q)) (r.1 q) in
      let test = is_entered-decides whole (p ++ q) selector in
      both_ways _ _ (λ h. test.1 (meant.0 (residual_sound (residual_at whole p) q h))) (λ h. residual_complete (residual_at whole p) q (are_places (residual_at whole p) r.0.each) (meant.1 (test.0 h)))

  -- ---- the same rest

  -- recursions with equal depths are equal
  same_depth : (q : Inner) (d e : Option ℕ) → pointwise (option_eq nat_eq) (depths (frames_in q d)) (depths (frames_in q e)) ≡ true → frames_in q d ≡ frames_in q e
  same_depth None d e h = refl
  same_depth (Some c) d e h = ap (λ n. record { sequence = c.1; depth = n } ∷ []) (depth-equal d e (and_parts (option_eq nat_eq d e) true h).0)

  -- places of the whole that compare as equal are equal
  one_same : (x y : Place) → IsIn whole x → IsIn whole y → same_place x y ≡ true → x ≡ y
  one_same x y a b h =
      let parts = and_parts (nat_eq x.number y.number) (option_eq nat_eq x.sequence y.sequence && pointwise (option_eq nat_eq) (depths x.around) (depths y.around)) h in
      let left = (and_parts (option_eq nat_eq x.sequence y.sequence) (pointwise (option_eq nat_eq) (depths x.around) (depths y.around)) parts.1).1 in
      let number : x.number ≡ y.number = eqb-true x.number y.number parts.0 in
      let one = one-place x.selector y.selector a.first b.first a.inner b.inner (a.up x.selector a.first a.inner itself) (b.up y.selector b.first b.inner itself) (sym a.number ∙ number ∙ b.number) in
      let others : y.around ≡ frames_in a.inner b.depth = b.around ∙ ap (λ q. frames_in q b.depth) (sym one.2) in
      let tested : pointwise (option_eq nat_eq) (depths (frames_in a.inner a.depth)) (depths (frames_in a.inner b.depth)) ≡ true = (λ i. pointwise (option_eq nat_eq) (depths (sym a.around i)) (depths (sym others i))) ∙ left in
      let around : x.around ≡ y.around = a.around ∙ same_depth a.inner a.depth b.depth tested ∙ sym others in
      let sequence : x.sequence ≡ y.sequence = a.sequence ∙ ap number_in one.2 ∙ sym b.sequence in
      λ i. record { selector = one.0 i; around = around i; number = number i; sequence = sequence i }

  -- place by place
  pub all_same : (xs ys : List Place) → Each (IsIn whole) xs → Each (IsIn whole) ys → same_residual xs ys ≡ true → xs ≡ ys
  unfolding same_residual
  all_same [] [] a b h = refl
  all_same [] (y ∷ ys) a b h = absurd (true≢false (sym h))
  all_same (x ∷ xs) [] a b h = absurd (true≢false (sym h))
  all_same (x ∷ xs) (y ∷ ys) a b h =
      let parts = and_parts (same_place x y) (same_residual xs ys) h in
      let first : x ≡ y = one_same x y a.0 b.0 parts.0 in
      let others : xs ≡ ys = all_same xs ys a.1 b.1 parts.1 in
      λ i. first i ∷ others i

  -- so equal residuals enter the same: the law `SameEntersTheSame`
  pub same-rest : IsSelector whole → (p q : Path) → same_residual (residual_at whole p) (residual_at whole q) ≡ true → (r : Path) → is_entered whole (p ++ r) ≡ is_entered whole (q ++ r)
  same-rest selector p q h r =
      let same : residual_at whole p ≡ residual_at whole q = all_same (residual_at whole p) (residual_at whole q) (at-rest selector.edges p).0.each (at-rest selector.edges q).0.each h in
      sym (rest-tested selector p r) ∙ ap (λ l. residual_enters l r) same ∙ rest-tested selector q r

  -- ---- whether anything is left

  -- if no place is entered, there is none
  none_left : (xs : List Place) → Each (λ x. Stands x.selector) xs → (Enter xs [] → ⊥) → xs ≡ []
  none_left [] h none = refl
  none_left (x ∷ xs) h none = absurd (none (inl (stands-enters x.selector x.around h.0)))

  -- nothing is left exactly if the path isn't entered: the law `NothingIsLeft`
  pub left-entered : IsSelector whole → (p : Path) → (is_entered whole p ≡ false ↔ residual_at whole p ≡ [])
  left-entered selector p =
      let r = at-rest selector.edges p in
      let test = is_entered-decides whole p selector in
      let here : p ++ [] ≡ p = append-nil p in (
        λ out. none_left (residual_at whole p) r.0.stands (λ h. true≢false (sym (test.1 (subst (Enters whole []) here ((r.1 []).0 h))) ∙ out)),
        λ empty. by (is_entered whole p) refl (λ h. subst (λ l. Enter l []) empty ((r.1 []).1 (subst (Enters whole []) (sym here) (test.0 h)))),
      ) where
        by : (b : Bool) → is_entered whole p ≡ b → (is_entered whole p ≡ true → ⊥) → is_entered whole p ≡ false
        by true is none = absurd (none is)
        by false is none = is
