-- The residual of a selector at its root and after a step: which selectors, in which recursions.
use Rattle.std.specs.Prelude.{◌≡◌, ℕ, ◌+◌, ◌-◌, nat_eq, nat_lt, nat_le, Bool, true, false, if◌then◌else◌, bytes_eq, List, [], ◌∷◌, ◌++◌, map, Option, Some, None}
use Rattle.std.specs.Option.{option_eq, option_cmp}
use Rattle.std.specs.declared.cmp.Ordering.{Ordering}
use Rattle.std.specs.Ordering.{nat_cmp, on, then_cmp, eq_of_both}
use Rattle.std.specs.Cmp.Lexicographic.{pointwise, slice_cmp}
use Rattle.ix_selector.specs.Pattern.{Pattern, Fields, Members, matcher, all, fields, index, range, recursive, union, edge, no_fields, field, no_members, member}
use Rattle.ix_selector.specs.Enters.{Step, key, Path, Frame}
use Rattle.ix_selector.specs.Steps.{is_at, is_within}
use Rattle.ix_selector.specs.Residual.{Place}
use Rattle.ix_selector.specs.States.{deeper}

abbrev mutual
  -- how many places are inside a selector
  pub inside_of : Pattern → ℕ
  inside_of matcher = 0
  inside_of (all s) = inside_of s + 1
  inside_of (fields fs) = fields_size fs
  inside_of (index i s) = inside_of s + 1
  inside_of (range i j s) = inside_of s + 1
  inside_of (recursive limit s) = inside_of s + 1
  inside_of (union ss) = members_size ss
  inside_of edge = 0

  pub fields_size : Fields → ℕ
  fields_size no_fields = 0
  fields_size (field k s fs) = inside_of s + 1 + fields_size fs

  pub members_size : Members → ℕ
  members_size no_members = 0
  members_size (member s ss) = inside_of s + 1 + members_size ss

-- ---- without a step

abbrev mutual
  -- Where a selector leads without a step: through unions and recursions to matchers, explorers and edges. The first of the
  -- places in it has the number n; around it are the recursions e, and the sequence of the innermost one has the number q.
  pub leads : Pattern → ℕ → List Frame → Option ℕ → List Place
  leads (recursive limit s) n e q = leads s n (record { sequence = s; depth = limit } ∷ []) (Some (n + inside_of s))
  leads (union ss) n e q = each_leads ss n e q
  leads s n e q = record { selector = s; around = e; number = n + inside_of s; sequence = q } ∷ []

  pub each_leads : Members → ℕ → List Frame → Option ℕ → List Place
  each_leads no_members n e q = []
  each_leads (member s ss) n e q = leads s n e q ++ each_leads ss (n + (inside_of s + 1)) e q

-- the number of the first of the places in a place
abbrev pub before : Place → ℕ
before x = x.number - inside_of x.selector

-- where a place leads
abbrev pub leads_from : Place → List Place
leads_from x = leads x.selector (before x) x.around x.sequence

-- where places lead, one after another
abbrev pub all_lead : List Place → List Place
all_lead [] = []
all_lead (x ∷ xs) = leads_from x ++ all_lead xs

-- whether the selector is an edge
abbrev pub is_edge : Pattern → Bool
is_edge edge = true
is_edge s = false

-- those that are no edges
abbrev pub standing : List Place → List Place
standing [] = []
standing (x ∷ xs) = if is_edge x.selector then standing xs else x ∷ standing xs

-- a sequence at its start, with this depth left
abbrev pub started : Pattern → ℕ → Option ℕ → List Place
started s n depth = record { selector = s; around = record { sequence = s; depth = depth } ∷ []; number = n; sequence = Some n } ∷ []

-- the sequence that an edge re-enters, with a depth of one less, or none if less than 2 is left
abbrev pub restarted : Pattern → ℕ → Option ℕ → List Place
restarted s n None = started s n None
restarted s n (Some d) = if nat_le 2 d then started s n (Some (d - 1)) else []

-- the sequence that an edge inside these recursions re-enters
abbrev pub innermost : List Frame → Option ℕ → List Place
innermost [] q = []
innermost (f ∷ e) None = []
innermost (f ∷ e) (Some n) = restarted f.sequence n f.depth

-- the sequences that the edges among them re-enter
abbrev pub again : List Place → List Place
again [] = []
again (x ∷ xs) = if is_edge x.selector then innermost x.around x.sequence ++ again xs else again xs

-- ---- one for all ways to a place

-- the recursions, with the greater depth left of the innermost one
abbrev pub deeper_around : List Frame → List Frame → List Frame
deeper_around [] d = []
deeper_around (f ∷ e) [] = f ∷ e
deeper_around (f ∷ e) (g ∷ d) = record { sequence = f.sequence; depth = deeper f.depth g.depth } ∷ e

-- one place for two that have one number
abbrev pub both : Place → Place → Place
both x y = record { selector = x.selector; around = deeper_around x.around y.around; number = x.number; sequence = x.sequence }

-- inserts a place into places that are ordered by number
abbrev pub put : Place → List Place → List Place
put x [] = x ∷ []
put x (y ∷ ys) = if nat_lt x.number y.number then x ∷ y ∷ ys else (if nat_lt y.number x.number then y ∷ put x ys else both y x ∷ ys)

-- ordered by number, with one place for each number
abbrev pub merged : List Place → List Place
merged [] = []
merged (x ∷ xs) = put x (merged xs)

-- ---- after a step

-- where the selectors of a key lead
abbrev pub named_lead : Fields → List ℕ → ℕ → List Frame → Option ℕ → List Place
named_lead no_fields k n e q = []
named_lead (field l s fs) k n e q = (if bytes_eq l k then leads s n e q else []) ++ named_lead fs k (n + (inside_of s + 1)) e q

-- where a selector leads after a step
abbrev pub leads_after : Pattern → Step → ℕ → List Frame → Option ℕ → List Place
leads_after (all s) t n e q = leads s n e q
leads_after (fields fs) (key k) n e q = named_lead fs k n e q
leads_after (index i s) t n e q = if is_at i t then leads s n e q else []
leads_after (range i j s) t n e q = if is_within i j t then leads s n e q else []
leads_after s t n e q = []

-- where a place leads after a step
abbrev pub leads_after_from : Place → Step → List Place
leads_after_from x t = leads_after x.selector t (before x) x.around x.sequence

-- where places lead after a step, one after another
abbrev pub all_lead_after : List Place → Step → List Place
all_lead_after [] t = []
all_lead_after (x ∷ xs) t = leads_after_from x t ++ all_lead_after xs t

-- the matchers and explorers, and those that the re-entered sequences lead to
abbrev pub entering : List Place → List Place → List Place
entering stand starts = merged (stand ++ standing (all_lead (merged starts)))

-- ---- what is left of a selector

-- the residual at its root
unfoldable pub residual_of : Pattern → List Place
residual_of s = merged (standing (leads s 0 [] None))

-- the residual after a step: empty if the child isn't entered
unfoldable pub residual_after : List Place → Step → List Place
residual_after places t = let found = all_lead_after places t in entering (standing found) (again found)

-- r is the residual after a step
abbrev pub IsLeftAfter : List Place → Step → List Place → Type 0
IsLeftAfter places t r = r ≡ residual_after places t

-- the residual after the step is empty
abbrev pub NothingIsLeftAfter : List Place → Step → Type 0
NothingIsLeftAfter places t = residual_after places t ≡ []

-- the residual after each step of a path in turn
abbrev pub residual_along : List Place → Path → List Place
residual_along places [] = places
residual_along places (t ∷ p) = residual_along (residual_after places t) p

-- the residual of a selector at a path
unfoldable pub residual_at : Pattern → Path → List Place
residual_at s p = residual_along (residual_of s) p

-- ---- the same rest

-- the depths left
abbrev pub depths : List Frame → List (Option ℕ)
depths e = map (λ f. f.depth) e

-- one place, in one recursion with one depth left
abbrev pub same_place : Place → Place → Bool
same_place = eq_of_both (on (λ x. x.number) nat_eq) (eq_of_both (on (λ x. x.sequence) (option_eq nat_eq)) (on (λ x. depths x.around) (pointwise (option_eq nat_eq))))

-- the residuals are equal: the same places with the same depths, in order
unfoldable pub same_residual : List Place → List Place → Bool
same_residual = pointwise same_place

-- by the place, then by the recursion, then by the depth left, of which none is the least
abbrev pub place_order : Place → Place → Ordering
place_order = then_cmp (on (λ x. x.number) nat_cmp) (then_cmp (on (λ x. x.sequence) (option_cmp nat_cmp)) (on (λ x. depths x.around) (slice_cmp (option_cmp nat_cmp))))

-- place by place; residuals that differ are never equal in it
unfoldable pub residual_order : List Place → List Place → Ordering
residual_order = slice_cmp place_order
