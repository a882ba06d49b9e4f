-- What isn't accepted isn't its own.
use Rattle.std.proofs.Common.{◌≡◌, ℕ, zero, suc, ◌<◌, ◌^◌, false, List, [], ◌∷◌, ◌++◌, length, get_or, refl, sym, ap, subst, arith, length-append}
use Rattle.std.specs.Prelude.{Err}
use Rattle.std.specs.List.{AllByRecursion}
use Rattle.ix_cid.specs.Cid.{IsCid}
use Rattle.ix_store.specs.Store.{Blocks}
use Rattle.ix_walk.specs.JobMeaning.{JobMeaning}
use Rattle.ix_car.specs.Laws.{once}
use Rattle.ix_walk.proofs.Links.{all-append}
use Rattle.ix_sections.specs.Writing.{header_of}
use Rattle.ix_sections.specs.Reading.{Fault, section_at}
use Rattle.ix_verdict.specs.declared.allow_missing.AllowMissing.{AllowMissing}
use Rattle.ix_receive.specs.declared.fault.ReceiveFault.{ReceiveFault}
use Rattle.ix_receive.specs.declared.fault.ReceiveFault.TheVariants as received
use Rattle.ix_receive.specs.Own.{archive_bytes, AreTheirOwnWith, IsItsOwnWith}
use Rattle.ix_receive.specs.Receiving.{OwnAreReceived}
use Rattle.ix_receive.specs.Reception.{Reception, reception_with, nothing_received_with, IsRefused, IsRightlyRefused, BeginsNoOwn, IsUnfinished}
use Rattle.ix_own_archive.specs.declared.fault.ArchiveReason.{ArchiveReason}
use Rattle.ix_own_archive.specs.declared.fault.ArchiveReason.TheVariants.{Header, OtherHeader, Section, Refused, Unfinished, Memory}
use Rattle.ix_own_archive.specs.Checking.{IsReceivedUpTo, IsNobodysOwn, LacksHeader, IsHeaderReason, HasReceived, IsRefusedAt, IsSectionReason, leaves_open, IsRightlyNotWith}
use Rattle.ix_verify.proofs.PairsAgain.{HasCid}
use Rattle.ix_own_archive.proofs.Receiving.{texts_of, begins, receives-next}
use Rattle.ix_own_archive.proofs.Unique.{IsOwnBehind, own-left, left-read, left-next, left-none}

-- an archive without the header of the job's roots
pub header-not : (base : Blocks) (job : JobMeaning) (archive : List ℕ) (reason : ArchiveReason) → LacksHeader job archive → IsHeaderReason archive reason → IsRightlyNotWith base job archive reason
header-not base job archive (Header kind) lacks found = λ number own. lacks (texts_of own.0) own.1
header-not base job archive OtherHeader lacks found = λ number own. lacks (texts_of own.0) own.1
header-not base job archive (Section kind) lacks found = absurd found
header-not base job archive (Refused c fault) lacks found = absurd found
header-not base job archive (Unfinished fault) lacks found = absurd found
header-not base job archive Memory lacks found = tt

-- with a section that is refused, but for a block that is missing or want of memory
begins-none : (r : Reception) (p : List ℕ × List ℕ) (fault : ReceiveFault) → r.ended ≡ false → IsRefused r p fault → IsRightlyRefused r p fault → leaves_open fault ≡ false → BeginsNoOwn r p
begins-none r p (received.Unsound v) going refused rightly told = rightly.own
begins-none r p received.InBase going refused rightly told = rightly.own
begins-none r p received.Repeated going refused rightly told = rightly.own
begins-none r p received.OutOfOrder going refused rightly told = rightly.own
begins-none r p received.NotAskedFor going refused rightly told = rightly.own
begins-none r p (received.Missing c) going refused rightly told = absurd (cc told)
begins-none r p (received.Root c v) going refused rightly told = absurd refused
begins-none r p received.Limit going refused rightly told = rightly.own
begins-none r p received.Ended going refused rightly told = absurd (cc (going, refused))
begins-none r p received.Memory going refused rightly told = absurd (cc told)

-- sections that are their own have an end
ends-none : (number : ℕ) (r : Reception) (fault : ReceiveFault) → r.ended ≡ false → IsUnfinished r fault → leaves_open fault ≡ false → AreTheirOwnWith r.base number (once r.job) r.sections → ⊥
ends-none number r (received.Unsound v) going found told own = found
ends-none number r received.InBase going found told own = found
ends-none number r received.Repeated going found told own = found
ends-none number r received.OutOfOrder going found told own = found
ends-none number r received.NotAskedFor going found told own = found
ends-none number r (received.Missing c) going found told own = absurd (cc told)
ends-none number r (received.Root c v) going found told own = absurd (cc told)
ends-none number r received.Limit going found told own = absurd (cc (own.within, found))
ends-none number r received.Ended going found told own = absurd (cc (going, found))
ends-none number r received.Memory going found told own = absurd (cc told)

-- elements that are CIDs at each index
pub all-cids : (cs : List (List ℕ)) → ((k : ℕ) → k < length cs → IsCid (get_or cs k [])) → AllByRecursion IsCid cs
all-cids [] h = tt
all-cids (c ∷ cs) h = (h 0 (omega arith), all-cids cs (λ k l. h (suc k) (omega (arith, l))))

-- the element at an index is a CID
pub cid-at : (cs : List (List ℕ)) (i : ℕ) (c : List ℕ) → i < length cs → c ≡ get_or cs i c → IsCid c → IsCid (get_or cs i [])
cid-at [] i c h e is = absurd (omega (arith, h))
cid-at (x ∷ cs) zero c h e is = subst IsCid e is
cid-at (x ∷ cs) (suc i) c h e is = cid-at cs i c (omega (arith, h)) e is

module _ (base : Blocks) (job : JobMeaning) (allowed : AllowMissing) (archive : List ℕ) where
  -- so far an archive was received, and each section is of a CID
  pub record IsSoFar (rest : List ℕ) (last : Reception) : Type 0 where
    pub up : IsReceivedUpTo base job allowed archive rest last
    pub cids : AllByRecursion HasCid last.sections

  -- before the first section
  pub none-so-far : (rest : List ℕ) (r : Reception) → archive ≡ header_of job.roots ++ rest → r ≡ nothing_received_with base job allowed → IsSoFar rest r
  none-so-far rest r written is = record {
    up = begins base job allowed archive rest r written is;
    cids = subst (λ (x : Reception). AllByRecursion HasCid x.sections) (sym is) tt;
  }

  -- with one section more
  pub one-more-so-far : (rest after : List ℕ) (old new : Reception) → IsSoFar rest old → HasReceived rest after old new → IsSoFar after new
  one-more-so-far rest after old new far has = record {
    up = receives-next base job allowed archive rest after old new far.up has;
    cids = subst (λ (x : Reception). AllByRecursion HasCid x.sections) (sym has.receives.after) (all-append HasCid old.sections (has.section ∷ []) far.cids (has.cid, tt));
  }

module _ (base : Blocks) (job : JobMeaning) (allowed : AllowMissing) (archive : List ℕ) (each : OwnAreReceived base) (roots : AllByRecursion IsCid job.roots) (small : length archive < 2 ^ 63) where
  -- what is left of it, if it is its own
  own-rest : (rest : List ℕ) (last : Reception) → IsSoFar base job allowed archive rest last → (number : ℕ) → IsItsOwnWith base number (once job) archive → IsOwnBehind base number job last.sections rest
  own-rest rest last far number own = own-left base number job archive rest last.sections each roots small far.up.bytes far.cids own

  short-rest : (rest : List ℕ) (last : Reception) → IsSoFar base job allowed archive rest last → length rest < 2 ^ 63
  short-rest rest last far = omega (arith, small, ap length far.up.bytes, length-append (archive_bytes job.roots last.sections) rest)

  -- where no section can be read
  unread-not : (rest : List ℕ) (last : Reception) (f : Fault) → IsSoFar base job allowed archive rest last → 0 < length rest → section_at rest ≡ Err f → IsNobodysOwn base job archive
  unread-not rest last f far some h number own = left-read base number job last.sections rest f (short-rest rest last far) some (own-rest rest last far number own) h

  -- where one is refused
  refused-not : (rest c : List ℕ) (last : Reception) (fault : ReceiveFault) → IsSoFar base job allowed archive rest last → IsRefusedAt last rest c fault → leaves_open fault ≡ false → IsNobodysOwn base job archive
  refused-not rest c last fault far h told number own =
      let at = subst (λ (r : Reception). IsRefusedAt r rest c fault) far.up.same h in
      let next = left-next base number job last.sections rest at.rest (c, at.block) (short-rest rest last far) at.written at.cid (own-rest rest last far number own) in
      begins-none (reception_with base job allowed last.sections last.visits false) (c, at.block) fault refl at.refused at.rightly told number next.0 next.1

  -- why a section isn't received
  pub section-not : (rest : List ℕ) (last : Reception) (reason : ArchiveReason) → IsSoFar base job allowed archive rest last → 0 < length rest → IsSectionReason last rest reason → IsRightlyNotWith base job archive reason
  section-not rest last (Header kind) far some found = absurd found
  section-not rest last OtherHeader far some found = absurd found
  section-not rest last (Section kind) far some found = unread-not rest last (record { kind = kind; left = found.0 }) far some found.1
  section-not rest last (Refused c fault) far some found = refused-not rest c last fault far found
  section-not rest last (Unfinished fault) far some found = absurd found
  section-not rest last Memory far some found = tt

  -- why the end is refused
  pub end-not : (rest : List ℕ) (last : Reception) (fault : ReceiveFault) → IsSoFar base job allowed archive rest last → rest ≡ [] → IsUnfinished last fault → leaves_open fault ≡ false → IsNobodysOwn base job archive
  end-not rest last fault far none found told number own =
      ends-none number (reception_with base job allowed last.sections last.visits false) fault refl (subst (λ (r : Reception). IsUnfinished r fault) far.up.same found) told
      (left-none base number job last.sections rest none (own-rest rest last far number own))
