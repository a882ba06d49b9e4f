-- What a selector enters inside recursions, of which only the innermost one matters.
use Rattle.std.proofs.Common.{◌≡◌, ℕ, ◌-◌, ◌≤◌, ◌⊎◌, inl, inr, ⊎_elim, max, Bool, true, false, List, [], ◌∷◌, refl, sym, ap, subst, arith}
use Rattle.std.specs.Prelude.{Option, Some, None, nat_le}
use Rattle.std.proofs.lemmas.Bool.{leb-true, le-leb}
use Rattle.ix_selector.specs.Pattern.{Pattern, matcher, all, fields, index, range, recursive, union, edge}
use Rattle.ix_selector.specs.Enters.{Path, Frame, Enters, at_matcher, at_all, at_fields, at_index, at_range, below_all, below_fields, below_index, below_range, in_union, in_recursion, at_edge, at_edge_within}
use Rattle.ix_selector.specs.States.{deeper, Stands}

-- a matcher or explorer enters its own place
pub stands-enters : (s : Pattern) (e : List Frame) → Stands s → Enters s e []
stands-enters matcher e h = at_matcher
stands-enters (all s) e h = at_all
stands-enters (fields fs) e h = at_fields
stands-enters (index i s) e h = at_index
stands-enters (range i j s) e h = at_range
stands-enters (recursive d s) e h = absurd h
stands-enters (union ss) e h = absurd h
stands-enters edge e h = absurd h

-- an edge leads into the innermost recursion
pub edge-inside : {s : Pattern} {p : Path} → Enters edge (record { sequence = s; depth = None } ∷ []) p → Enters s (record { sequence = s; depth = None } ∷ []) p
edge-inside (at_edge h) = h

-- the same with a limit, of which one is used
pub edge-inside_within : {s : Pattern} {d : ℕ} {p : Path} → Enters edge (record { sequence = s; depth = Some d } ∷ []) p → (2 ≤ d) × Enters s (record { sequence = s; depth = Some (d - 1) } ∷ []) p
edge-inside_within (at_edge_within deep h) = (deep, h)

-- and in none nowhere
pub edge-nowhere : {p : Path} → Enters edge [] p → ⊥
edge-nowhere h = elim h [ ]

-- the depth is at least the other; none is above all
abbrev pub Covers : Option ℕ → Option ℕ → Type 0
Covers d None = Unit {0}
Covers None (Some e) = ⊥
Covers (Some d) (Some e) = d ≤ e

-- each depth covers itself
pub covers-itself : (d : Option ℕ) → Covers d d
covers-itself None = tt
covers-itself (Some d) = omega arith

-- the innermost recursions are over one sequence, the second with the greater depth
abbrev pub Wider : List Frame → List Frame → Type 0
Wider [] e = Unit {0}
Wider (f ∷ d) [] = ⊥
Wider (f ∷ d) (g ∷ e) = (f.sequence ≡ g.sequence) × Covers f.depth g.depth

-- an edge is entered in the wider recursion where it is in the other
again_unlimited : (s : Pattern) (d : Option ℕ) (e : List Frame) (p : Path) → Covers None d → ((g : Frame) → g.sequence ≡ s → g.depth ≡ None → Enters s (g ∷ e) p) → Enters edge (record { sequence = s; depth = d } ∷ e) p
again_unlimited s None e p c h = at_edge (h _ refl refl)
again_unlimited s (Some d) e p c h = absurd c

-- the same with a limit
again_within : (s : Pattern) (d : ℕ) (b : Option ℕ) (e : List Frame) (p : Path) → 2 ≤ d → Covers (Some d) b
    → ((g : Frame) → s ≡ g.sequence → Covers (Some (d - 1)) g.depth → Enters s (g ∷ e) p) → Enters edge (record { sequence = s; depth = b } ∷ e) p
again_within s d None e p deep c h = at_edge (h (record { sequence = s; depth = None }) refl tt)
again_within s d (Some b) e p deep c h = at_edge_within (omega arith) (h (record { sequence = s; depth = Some (b - 1) }) refl (omega arith))

-- in a wider recursion all is entered that is entered in the other
pub enters-wider : {s : Pattern} {d : List Frame} {p : Path} → Enters s d p → (e : List Frame) → Wider d e → Enters s e p
enters-wider at_matcher e w = at_matcher
enters-wider at_all e w = at_all
enters-wider at_fields e w = at_fields
enters-wider at_index e w = at_index
enters-wider at_range e w = at_range
enters-wider (below_all h) e w = below_all (enters-wider h e w)
enters-wider (below_fields named h) e w = below_fields named (enters-wider h e w)
enters-wider (below_index h) e w = below_index (enters-wider h e w)
enters-wider (below_range low high h) e w = below_range low high (enters-wider h e w)
enters-wider (in_union is h) e w = in_union is (enters-wider h e w)
enters-wider (in_recursion {s = s} {d = depth} h) e w = in_recursion (enters-wider h (record { sequence = s; depth = depth } ∷ e) (refl, covers-itself depth))
enters-wider (at_edge h) [] w = absurd w
enters-wider (at_edge {s = s} {p = p} h) (g ∷ e) w =
    subst (λ r. Enters edge (record { sequence = r; depth = g.depth } ∷ e) p) w.0
    (again_unlimited s g.depth e p w.1 (λ f same none. enters-wider h (f ∷ e) (sym same, subst (Covers None) (sym none) tt)))
enters-wider (at_edge_within deep h) [] w = absurd w
enters-wider (at_edge_within {s = s} {d = d} {p = p} deep h) (g ∷ e) w =
    subst (λ r. Enters edge (record { sequence = r; depth = g.depth } ∷ e) p) w.0
    (again_within s d g.depth e p deep w.1 (λ f same c. enters-wider h (f ∷ e) (same, c)))

-- the recursions outside the innermost one don't matter
pub inner_only : {s : Pattern} {p : Path} (f : Frame) (d e : List Frame) → Enters s (f ∷ d) p → Enters s (f ∷ e) p
inner_only f d e h = enters-wider h (f ∷ e) (refl, covers-itself f.depth)

-- with the greater of two depths is entered what either enters
deeper_covers_left : (a b : Option ℕ) → Covers a (deeper a b)
deeper_covers_left None b = tt
deeper_covers_left (Some a) None = tt
deeper_covers_left (Some a) (Some b) = omega arith

-- the greater depth covers the second
deeper_covers_right : (a b : Option ℕ) → Covers b (deeper a b)
deeper_covers_right None b = tt
deeper_covers_right (Some a) None = tt
deeper_covers_right (Some a) (Some b) = omega arith

-- so it enters what the first enters
pub deeper-left : {s t : Pattern} {p : Path} (a b : Option ℕ) (e : List Frame) → Enters s (record { sequence = t; depth = a } ∷ e) p → Enters s (record { sequence = t; depth = deeper a b } ∷ e) p
deeper-left a b e h = enters-wider h _ (refl, deeper_covers_left a b)

-- and what the second enters
pub deeper-right : {s t : Pattern} {p : Path} (a b : Option ℕ) (e : List Frame) → Enters s (record { sequence = t; depth = b } ∷ e) p → Enters s (record { sequence = t; depth = deeper a b } ∷ e) p
deeper-right a b e h = enters-wider h _ (refl, deeper_covers_right a b)

-- and one of the two depths is the greater
deeper_is : (a b : Option ℕ) → (deeper a b ≡ a) ⊎ (deeper a b ≡ b)
deeper_is None b = inl refl
deeper_is (Some a) None = inr refl
deeper_is (Some a) (Some b) = by (nat_le a b) refl where
  by : (t : Bool) → nat_le a b ≡ t → (Some (max a b) ≡ Some a) ⊎ (Some (max a b) ≡ Some b)
  by true is = inr (ap Some (let le = leb-true a b is in omega arith))
  by false is = inl (ap Some (grind (arith, le-leb a b)))

-- and nothing else
pub deeper-either : {s t : Pattern} {p : Path} (a b : Option ℕ) (e : List Frame) → Enters s (record { sequence = t; depth = deeper a b } ∷ e) p
    → Enters s (record { sequence = t; depth = a } ∷ e) p ⊎ Enters s (record { sequence = t; depth = b } ∷ e) p
deeper-either {s = s} {t = t} {p = p} a b e h =
    ⊎_elim
    (λ (is : deeper a b ≡ a). inl (subst (λ d. Enters s (record { sequence = t; depth = d } ∷ e) p) is h))
    (λ (is : deeper a b ≡ b). inr (subst (λ d. Enters s (record { sequence = t; depth = d } ∷ e) p) is h))
    (deeper_is a b)
