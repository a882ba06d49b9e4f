-- What files of a receiver make known.
use Rattle.std.proofs.Common.{◌≡◌, ◌<◌, ℕ, List, [], ◌∷◌, length, refl, sym, ◌∙◌, ap, subst, arith}
use Rattle.std.specs.Prelude.{Option, Some, Result, Ok, Err, OnOk}
use Rattle.std.specs.Arc.{arc_value}
use Rattle.std.specs.Borrow.{Bor}
use Rattle.std.specs.Global.{Vec}
use Rattle.ix_store.specs.Store.{Blocks}
use Rattle.ix_store.specs.declared.places.PlaceSet.{PlaceSet}
use Rattle.ix_sections.specs.declared.files.store.Reading.{Reading}
use Rattle.ix_known.specs.Files.{IsKnownByFiles}
use Rattle.ix_cli_io.specs.declared.fault.Failure.{Failure}
use Rattle.ix_load.specs.declared.blocks.LoadedBlocks.{LoadedBlocks}
use Rattle.ix_load.specs.Receiver.{KnowsFiles, KnowsListed, KnowsList, AddsFiles, AddsSomeList, AddsKnown}

-- some files, and what they have
pub knows-files : (reading : Reading) (store : Blocks) (files : List (Vec ℕ)) (before : Option PlaceSet) (places : PlaceSet) → 0 < length files → IsKnownByFiles reading store files places
    → KnowsFiles reading store files before (Some places)
knows-files reading store [] before places some is = absurd (omega (arith, some))
knows-files reading store (file ∷ files) before places some is = (places, refl, is)

-- what files and then a list make known
pub adds-both : (reading : Reading) (list : Option (Bor (List ℕ))) (path : Bor (List ℕ)) (files : List (Vec ℕ)) (old between new : LoadedBlocks) (r : Result (Unit {0}) Failure)
    → list ≡ Some path → AddsFiles reading files old between → OnOk r (AddsSomeList between new) → OnOk r (AddsKnown reading list files old new)
adds-both reading list path files old between new (Ok done) is first h =
    let more = subst (λ (store : Blocks). KnowsListed store h.0 between.known new.known) (ap arc_value first.same) h.1.more in
    record {
      same = h.1.same ∙ first.same;
      by_files = between.known;
      of_files = first.more;
      listed = subst (λ (l : Option (Bor (List ℕ))). KnowsList l (arc_value old.store) between.known new.known) (sym is) (h.0, more);
    }
adds-both reading list path files old between new (Err e) is first h = tt
