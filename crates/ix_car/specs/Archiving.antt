-- What an archive keeps besides its deliveries, and what one delivery does to it.
use Rattle.std.specs.Prelude.{◌≡◌, ℕ, ◌+◌, Bool, false, ◌&&◌, List, [], ◌∷◌, ◌++◌, length, Option, Some, None, Result, Ok, Err, if◌then◌else◌, bytes_eq}
use Rattle.std.specs.List.{list_any}
use Rattle.std.specs.Io.KnownBytes.{Appends}
use Rattle.ix_check.specs.Verdict.{passes}
use Rattle.ix_store.specs.Store.{Blocks, position_of}
use Rattle.ix_store.specs.declared.places.PlaceSet.{PlaceSet}
use Rattle.ix_store.specs.PlaceSet.{contains_place}
use Rattle.ix_car.specs.declared.sink.Delivery.{Delivery}
use Rattle.ix_car.specs.declared.sink.End.{End}
use Rattle.ix_car.specs.declared.fault.SinkFault.{SinkFault}
use Rattle.ix_car.specs.declared.fault.SinkFault.TheVariants.{Write, Memory}
use Rattle.ix_car.specs.declared.archive.Skip.{Skip}
use Rattle.ix_car.specs.declared.archive.Counts.{Counts}
use Rattle.ix_car.specs.Kept.{is_below, cut_after, kept}
use Rattle.ix_car.specs.Archive.{Known, new_section}
use Rattle.ix_verdict.specs.Verdict.{is_sound}
use Rattle.ix_car.specs.ArchiveMeaning.{ArchiveMeaning, known_in, IsProperPrefix}
use Rattle.ix_car.specs.Report.{skips_of, at_most, counts_of}

-- where deliveries are cut after all of these
abbrev pub cut_behind : List Delivery → Option ℕ
cut_behind = cut_after (λ d. d.visit.depth) (λ d. passes d.verdict) None

-- whether a delivery at this depth is cut off after these
abbrev pub is_cut_off : List Delivery → ℕ → Bool
is_cut_off ds depth = is_below (cut_behind ds) depth

-- whether a sound delivery of this CID is among these
abbrev pub is_told : List Delivery → List ℕ → Bool
is_told ds c = list_any (λ d. is_sound d.verdict && bytes_eq d.visit.cid c) ds

-- the position of the block of the section that a kept delivery writes after these kept ones
abbrev pub unwritten_block : Blocks → List Delivery → Delivery → Option ℕ
unwritten_block store ks d = if is_sound d.verdict then (if is_told ks d.visit.cid then None else position_of store d.visit.cid) else None

-- what a kept delivery writes after these kept ones, without the sections of known CIDs
abbrev pub text_after : Known → Blocks → List Delivery → Delivery → List ℕ
text_after known store ks d = if is_sound d.verdict then (if is_told ks d.visit.cid then [] else new_section known store d) else []

-- what a delivery writes after these, without the sections of known CIDs
abbrev pub text_due : Known → Blocks → List Delivery → Delivery → List ℕ
text_due known store ds d = if is_cut_off ds d.visit.depth then [] else text_after known store (kept ds) d

-- what an archive keeps, besides these deliveries, those at which a write failed, and the close
pub record IsTally (known : Known) (store : Blocks) (ds failed : List Delivery) (closed : List End) (cut : Option ℕ) (counts : Counts) (written : PlaceSet) (skips : List Skip) : Type 0 where
  pub cut_is : cut ≡ cut_behind ds
  pub counts_are : counts ≡ counts_of known store ds counts.bytes
  pub skips_is : skips ≡ skips_of ds
  -- while nothing failed and nothing was closed, the place of a CID is in the set where a kept sound delivery has that CID
  pub written_is : failed ≡ [] → closed ≡ [] → (c : List ℕ) (place : ℕ) → position_of store c ≡ Some place → contains_place written place ≡ is_told (kept ds) c

-- the writer took this text, its bytes were counted, and known CIDs, store, roots and close are as they were
pub record HasTaken {W : Type 0} (told : W → Option (List ℕ)) (before after : ArchiveMeaning W) (text : List ℕ) : Type 0 where
  pub same_known : known_in after ≡ known_in before
  pub same_store : after.store ≡ before.store
  pub same_roots : after.roots ≡ before.roots
  pub same_close : after.closed ≡ before.closed
  pub grown : Appends (told before.writer) (told after.writer) text
  pub counted : after.taken ≡ at_most 64 (before.taken + length text)

-- a delivery was accepted, and its text written
pub record IsAdded {W : Type 0} (told : W → Option (List ℕ)) (d : Delivery) (text : List ℕ) (before after : ArchiveMeaning W) : Type 0 where
  pub wrote : HasTaken told before after text
  pub deliveries : after.deliveries ≡ before.deliveries ++ d ∷ []
  pub failed : after.failed ≡ []

-- a delivery was rejected, and a proper part of its text written
pub record IsFailed {W : Type 0} (told : W → Option (List ℕ)) (d : Delivery) (text : List ℕ) (before after : ArchiveMeaning W) : Type 0 where
  pub part : List ℕ
  pub proper : IsProperPrefix part text
  pub wrote : HasTaken told before after part
  pub deliveries : after.deliveries ≡ before.deliveries
  pub failed : after.failed ≡ d ∷ []

-- a delivery was rejected with this error
abbrev pub IsRefused : {W : Type 0} → (W → Option (List ℕ)) → Delivery → List ℕ → ArchiveMeaning W → SinkFault → ArchiveMeaning W → Type 0
IsRefused told d text before Write after = IsFailed told d text before after
IsRefused told d text before Memory after = after ≡ before

-- what a delivery with this text does to an archive, by its result
abbrev pub IsDelivered : {W T : Type 0} → (W → Option (List ℕ)) → Delivery → List ℕ → ArchiveMeaning W → Result T SinkFault → ArchiveMeaning W → Type 0
IsDelivered told d text before (Ok done) after = IsAdded told d text before after
IsDelivered told d text before (Err fault) after = IsRefused told d text before fault after

-- what a delivery with the text that is due does to it
abbrev pub IsDeliveredDue : {W T : Type 0} → (W → Option (List ℕ)) → Delivery → ArchiveMeaning W → Result T SinkFault → ArchiveMeaning W → Type 0
IsDeliveredDue told d before result after = IsDelivered told d (text_due (known_in before) before.store before.deliveries d) before result after

-- an archive at which nothing failed keeps a delivery at this depth: it isn't cut off
abbrev pub KeepsAt : {W : Type 0} → ArchiveMeaning W → ℕ → Type 0
KeepsAt a depth = (a.failed ≡ []) × (is_cut_off a.deliveries depth ≡ false)

-- the position of the block of the section that a kept delivery writes into an archive
abbrev pub section_due : {W : Type 0} → ArchiveMeaning W → Delivery → Option ℕ
section_due a d = unwritten_block a.store (kept a.deliveries) d

-- what an archive has counted
abbrev pub counts_in : {W : Type 0} → ArchiveMeaning W → Counts
counts_in a = counts_of (known_in a) a.store a.deliveries a.taken
