use Rattle.std.proofs.Common.{subst, sym}
use Rattle.std.specs.Prelude.{Result, Ok, Err, IfOk}
use Rattle.ix_cbor.specs.Data.{Data, data_of}
use Rattle.ix_cbor.specs.Spelling.{IsCanonical}
use Rattle.ix_selector.specs.declared.fault.SelFault.{SelFault}
use Rattle.ix_selector.specs.declared.sel.Sel.{Sel}
use Rattle.ix_selector.specs.Pattern.{pattern_of}
use Rattle.ix_selector.specs.Reading.{selector_of}
use Rattle.ix_selector.specs.Gives.{Gives}
use Rattle.ix_selector.specs.Laid.{IsSound}
use Rattle.ix_selector.proofs.Guarded.{reads_selector}
use Rattle.ix_selector.proofs.Ordered.{reads_ordered}
use Rattle.ix_selector.proofs.selector.sel_of.Goals as goal

-- what is read of data that has a spelling is sound
is_sound : (d : Data) → IsCanonical d → (r : Result Sel SelFault) → Gives pattern_of r (selector_of d) → IfOk r (λ sel. IsSound (pattern_of sel))
is_sound d is (Ok sel) h = record { selector = reads_selector d (pattern_of sel) h; ordered = reads_ordered d (pattern_of sel) is h }
is_sound d is (Err e) h = tt

pub returns-clause-sound : goal.returns-clause-sound
returns-clause-sound c =
    is_sound (data_of c.root.result.now) (subst IsCanonical (sym c.root.ensures.root) c.root.ensures.canonical) c.selector_of.result c.selector_of.ensures
