-- What the laws say of selectors and their residuals.
use Rattle.std.specs.Prelude.{◌≡◌, ◌↔◌, [], ◌++◌, true, false, Ok}
use Rattle.ix_cbor.specs.Data.{Data}
use Rattle.ix_selector.specs.Pattern.{Pattern, IsSelector}
use Rattle.ix_selector.specs.Reading.{selector_of}
use Rattle.ix_selector.specs.Spelled.{SpellsSelector}
use Rattle.ix_selector.specs.Enters.{Enters, Path}
use Rattle.ix_selector.specs.IsEntered.{is_entered}
use Rattle.ix_selector.specs.Residual.{residual_enters}
use Rattle.ix_selector.specs.Behind.{residual_at, same_residual}

-- a path that passes the test is entered
abbrev pub EntersWhatIsTested : Type 0
EntersWhatIsTested = (s : Pattern) (p : Path) → IsSelector s → is_entered s p ≡ true → Enters s [] p

-- and one that is entered passes it
abbrev pub TestsWhatIsEntered : Type 0
TestsWhatIsEntered = (s : Pattern) (p : Path) → IsSelector s → Enters s [] p → is_entered s p ≡ true

-- a selector is read exactly if the data spell it
abbrev pub ReadsWhatIsSpelled : Type 0
ReadsWhatIsSpelled = (d : Data) (s : Pattern) → (selector_of d ≡ Ok s ↔ (SpellsSelector d s × IsSelector s))

-- each selector has data that spell it
abbrev pub HasSpelling : Type 0
HasSpelling = (s : Pattern) → (d : Data) × SpellsSelector d s

-- data spell at most one
abbrev pub SpellsNoOther : Type 0
SpellsNoOther =
    (d : Data) (s t : Pattern) → IsSelector s → IsSelector t → SpellsSelector d s → SpellsSelector d t → s ≡ t

-- the residual is empty exactly at the places that aren't entered
abbrev pub NothingIsLeft : Type 0
NothingIsLeft = (s : Pattern) (p : Path) → IsSelector s → (is_entered s p ≡ false ↔ residual_at s p ≡ [])

-- the residual at a place enters what the selector enters from there
abbrev pub LeavesTheRest : Type 0
LeavesTheRest = (s : Pattern) (p q : Path) → IsSelector s → residual_enters (residual_at s p) q ≡ is_entered s (p ++ q)

-- if the residuals at two places are equal, the same is entered from both
abbrev pub SameEntersTheSame : Type 0
SameEntersTheSame =
    (s : Pattern) (p q : Path) → IsSelector s → same_residual (residual_at s p) (residual_at s q) ≡ true
    → (r : Path) → is_entered s (p ++ r) ≡ is_entered s (q ++ r)
