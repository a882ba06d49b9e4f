-- Which places the selector along a path enters (IPLD Selectors specification).
use Rattle.std.specs.Prelude.{◌≡◌, ◌↔◌, ◌⊎◌, [], ◌∷◌, ◌++◌, Ok}
use Rattle.ix_cbor.specs.Data.{Data}
use Rattle.ix_selector.specs.Pattern.{Pattern, matcher, everything}
use Rattle.ix_selector.specs.Enters.{Step, Path, Enters}
use Rattle.ix_selector.specs.Reading.{selector_of}
use Rattle.ix_path.specs.declared.end.PathEnd.{PathEnd}
use Rattle.ix_path.specs.declared.end.PathEnd.TheVariants.{Selector}
use Rattle.ix_path.specs.Along.{pattern_along}
use Rattle.ix_path.specs.End.{selector_at_end}

-- the place is on the path, before its end
pub record IsBeforeEnd (p place : Path) : Type 0 where
  pub next : Step
  pub rest : Path
  pub path : p ≡ place ++ next ∷ rest

-- the place is the end of the path or below it, and the selector at the end enters it from there
pub record IsEnteredFromEnd (p : Path) (s : Pattern) (place : Path) : Type 0 where
  pub rest : Path
  pub place_is : place ≡ p ++ rest
  pub entered : Enters s [] rest

-- the place is on the path, or its end
pub record IsOn (p place : Path) : Type 0 where
  pub rest : Path
  pub path : p ≡ place ++ rest

-- the place is the end of the path or below it
pub record IsBelow (p place : Path) : Type 0 where
  pub rest : Path
  pub place_is : place ≡ p ++ rest

-- entered are the places on the path before its end, those that the selector at the end enters from there, no others
abbrev pub EntersAlong : Type 0
EntersAlong =
    (p : Path) (s : Pattern) (place : Path)
    → (Enters (pattern_along p s) [] place ↔ (IsBeforeEnd p place ⊎ IsEnteredFromEnd p s place))

-- with a matcher at the end, those on the path
abbrev pub EntersThePath : Type 0
EntersThePath = (p place : Path) → (Enters (pattern_along p matcher) [] place ↔ IsOn p place)

-- with everything at the end, those on the path and each below its end
abbrev pub EntersAllBelow : Type 0
EntersAllBelow = (p place : Path) → (Enters (pattern_along p everything) [] place ↔ (IsOn p place ⊎ IsBelow p place))

-- whatever is given for the end, entered are all places on the path, its end too
abbrev pub EntersItsEnd : Type 0
EntersItsEnd =
    (end : PathEnd) (s : Pattern) (p place : Path)
    → selector_at_end end ≡ Ok s → IsOn p place → Enters (pattern_along p s) [] place

-- a selector that is given for the end, and enters any place, is the one at the end
abbrev pub KeepsWhatEnters : Type 0
KeepsWhatEnters =
    (d : Data) (s : Pattern) (place : Path)
    → selector_of d ≡ Ok s → Enters s [] place → selector_at_end (Selector d) ≡ Ok s
