-- Refused sections begin no archive that is its own.
use Rattle.std.proofs.Common.{◌≡◌, ◌⊎◌, inl, inr, ℕ, suc, ◌≤◌, Bool, true, false, List, [], ◌∷◌, ◌++◌, sym, ◌∙◌, ap, subst, arith}
use Rattle.std.specs.List.{Contains}
use Rattle.std.proofs.lemmas.List.{map-append}
use Rattle.std.proofs.lemmas.List.Elements.{Contains-push}
use Rattle.ix_store.specs.Store.{Blocks}
use Rattle.ix_walk.specs.JobMeaning.{JobMeaning}
use Rattle.ix_walk.specs.Once.{cids_of}
use Rattle.ix_walk.proofs.Links.{cid_of}
use Rattle.ix_walk.proofs.Reaches.{contains-in}
use Rattle.ix_verdict.specs.Verdict.{is_sound}
use Rattle.ix_verdict.specs.declared.allow_missing.AllowMissing.{AllowMissing}
use Rattle.ix_receive.specs.declared.fault.ReceiveFault.{ReceiveFault}
use Rattle.ix_receive.specs.declared.fault.ReceiveFault.TheVariants.{Unsound, InBase, Repeated, OutOfOrder, NotAskedFor, Missing, Root, Limit, Ended, Memory}
use Rattle.ix_receive.specs.Receiving.{first_visits, AreReceived, IsNextSection}
use Rattle.ix_receive.specs.Traversal.{visited}
use Rattle.ix_receive.specs.Passing.{IsNeeded, IsNotFound, IsNotAtEnd}
use Rattle.ix_receive.specs.Reception.{reception_with, IsNowhereNext, CantGoOn, IsRefused, IsRightlyRefused, IsUnfinished}
use Rattle.ix_known.proofs.Lists.{has-block}
use Rattle.ix_receive.proofs.Received.{stored-visited, received-stay, own-received}
use Rattle.ix_receive.proofs.Receptions.{le_or, visited-more}

-- the next section's CID is that of a visit
next-in : (base : Blocks) (n : ℕ) (job : JobMeaning) (sections : Blocks) (p : List ℕ × List ℕ) → IsNextSection base n job sections p → Contains (visited (suc n) job (base ++ sections)) p.0
next-in base n job sections p next =
    let store = base ++ sections in
    let all : visited (suc n) job store ≡ visited n job store ++ p.0 ∷ [] = ap cids_of next.next ∙ map-append cid_of (first_visits n job store) (next.visit ∷ []) ∙ ap (λ c. visited n job store ++ c ∷ []) next.named in
    subst (λ l. Contains l p.0) (sym all) (Contains-push (visited n job store) p.0)

module _ (base : Blocks) (job : JobMeaning) (allowed : AllowMissing) (sections : Blocks) (visits : ℕ) (p : List ℕ × List ℕ) (received : AreReceived base visits job sections) (least : (m : ℕ) → AreReceived base m job sections → visits ≤ m) where
  abbrev store : Blocks
  store = base ++ sections

  -- where a section is next nowhere, the archive can't go on with it
  cant : ((n : ℕ) → suc n ≤ job.limit → AreReceived base n job sections → IsNextSection base n job sections p → ⊥) → (ended : Bool) → CantGoOn (reception_with base job allowed sections visits ended) p
  cant none ended = record {
    next = λ n may. (let low = may.within in none n (omega arith) (received-stay base job sections visits received n may.later) may.next);
    own = λ number after own. (let r = own-received base number job sections after p own in none r.0 r.1 r.2 r.3);
  }

  -- a block before it is missing, and may not be
  nowhere : (n : ℕ) (c : List ℕ) → IsNeeded n job allowed store c → (Contains (visited (suc n) job store) p.0 → ⊥) → (ended : Bool) → IsNowhereNext (reception_with base job allowed sections visits ended) p
  nowhere n c is new ended m may = by (le_or m n) where
    by : (m ≤ n) ⊎ (suc n ≤ m) → ⊥
    by (inl low) = new (visited-more job store (suc m) (suc n) p.0 (omega (arith, low)) (next-in base m job sections p may.next))
    by (inr high) =
        let here : Contains (visited (suc n) job store) c = subst (λ l. Contains l c) (sym is.next) (Contains-push (visited n job store) c) in
        let bad : false ≡ true = sym is.needed ∙ may.may c (visited-more job store (suc n) m c high here) is.lacks in cc bad

  pub rightly : (ended : Bool) (fault : ReceiveFault) → IsRefused (reception_with base job allowed sections visits ended) p fault → IsRightlyRefused (reception_with base job allowed sections visits ended) p fault
  rightly ended (Unsound v) h = cant (λ n low is next. let bad : false ≡ true = sym h.1 ∙ ap is_sound h.0 ∙ next.sound in cc bad) ended
  rightly ended InBase h = cant (λ n low is next. let bad : true ≡ false = sym h ∙ next.outside in cc bad) ended
  rightly ended Repeated h =
      cant (λ n low is next. next.first (contains-in p.0 (visited n job store) (stored-visited base job sections n is p.0 (has-block sections p.0 ∙ h)))) ended
  rightly ended OutOfOrder h = cant (λ n low is next. next.first (visited-more job store visits n p.0 (least n is) h.1)) ended
  rightly ended NotAskedFor h = cant (λ n low is next. h.1 (visited-more job store (suc n) (suc job.limit) p.0 (omega (arith, low)) (next-in base n job sections p next))) ended
  rightly ended (Missing c) h = nowhere h.0 c h.1 h.2 ended
  rightly ended (Root c v) h = absurd h
  rightly ended Limit h = cant (λ n low is next. h.1 (visited-more job store (suc n) job.limit p.0 low (next-in base n job sections p next))) ended
  rightly ended Ended h = tt
  rightly ended Memory h = tt

  -- the same where the first visit of its CID isn't found
  pub rightly-not-found : (fault : ReceiveFault) → IsNotFound job allowed store p.0 fault → IsRightlyRefused (reception_with base job allowed sections visits false) p fault
  rightly-not-found (Unsound v) h = absurd h
  rightly-not-found InBase h = absurd h
  rightly-not-found Repeated h = absurd h
  rightly-not-found OutOfOrder h = absurd h
  rightly-not-found NotAskedFor h = rightly false NotAskedFor h
  rightly-not-found (Missing c) h = rightly false (Missing c) h
  rightly-not-found (Root c v) h = absurd h
  rightly-not-found Limit h = rightly false Limit h
  rightly-not-found Ended h = absurd h
  rightly-not-found Memory h = tt

-- ---- a receiver

-- it is refused, whether or not the receiver has ended
pub refused : (base : Blocks) (job : JobMeaning) (allowed : AllowMissing) (sections : Blocks) (visits : ℕ) (ended : Bool) (p : List ℕ × List ℕ) (fault : ReceiveFault) → IsRefused (reception_with base job allowed sections visits false) p fault → IsRefused (reception_with base job allowed sections visits ended) p fault
refused base job allowed sections visits ended p (Unsound v) h = h
refused base job allowed sections visits ended p InBase h = h
refused base job allowed sections visits ended p Repeated h = h
refused base job allowed sections visits ended p OutOfOrder h = h
refused base job allowed sections visits ended p NotAskedFor h = h
refused base job allowed sections visits ended p (Missing c) h = h
refused base job allowed sections visits ended p (Root c v) h = absurd h
refused base job allowed sections visits ended p Limit h = h
refused base job allowed sections visits ended p Ended h = absurd (cc h)
refused base job allowed sections visits ended p Memory h = h

-- the end is refused
pub unfinished : (base : Blocks) (job : JobMeaning) (allowed : AllowMissing) (sections : Blocks) (visits : ℕ) (ended : Bool) (fault : ReceiveFault) → IsNotAtEnd job allowed (base ++ sections) fault → IsUnfinished (reception_with base job allowed sections visits ended) fault
unfinished base job allowed sections visits ended (Unsound v) h = h
unfinished base job allowed sections visits ended InBase h = h
unfinished base job allowed sections visits ended Repeated h = h
unfinished base job allowed sections visits ended OutOfOrder h = h
unfinished base job allowed sections visits ended NotAskedFor h = h
unfinished base job allowed sections visits ended (Missing c) h = h
unfinished base job allowed sections visits ended (Root c v) h = absurd h
unfinished base job allowed sections visits ended Limit h = h
unfinished base job allowed sections visits ended Ended h = absurd h
unfinished base job allowed sections visits ended Memory h = h
