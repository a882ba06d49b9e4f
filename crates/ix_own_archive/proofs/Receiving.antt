-- What is received of an archive, section by section.
use Rattle.std.proofs.Common.{◌≡◌, ℕ, suc, false, List, [], ◌∷◌, ◌++◌, refl, sym, ◌∙◌, ap, subst, append_assoc, append-nil}
use Rattle.std.specs.Prelude.{Some, flat_map}
use Rattle.ix_store.specs.Store.{Blocks}
use Rattle.ix_walk.specs.JobMeaning.{JobMeaning}
use Rattle.ix_sections.specs.Writing.{header_of, section_with}
use Rattle.ix_verdict.specs.declared.allow_missing.AllowMissing.{AllowMissing}
use Rattle.ix_receive.specs.declared.counts.Counts.{Counts}
use Rattle.ix_receive.specs.Own.{archive_bytes}
use Rattle.ix_receive.specs.Receiving.{AreReceived}
use Rattle.ix_receive.specs.Reception.{Reception, reception_with, nothing_received_with, IsWhole}
use Rattle.ix_receive.proofs.Received.{none-at-first}
use Rattle.ix_own_archive.specs.Checking.{IsReceivedUpTo, IsJobsOwnWith, HasReceived}

-- the bytes of sections
abbrev pub texts_of : Blocks → List ℕ
texts_of sections = flat_map (λ p. section_with p.0 (Some p.1)) sections

-- one section more
pub texts-more : (sections : Blocks) (p : List ℕ × List ℕ) → texts_of (sections ++ p ∷ []) ≡ texts_of sections ++ section_with p.0 (Some p.1)
texts-more [] p = append-nil (section_with p.0 (Some p.1))
texts-more (q ∷ qs) p = ap (λ (l : List ℕ). section_with q.0 (Some q.1) ++ l) (texts-more qs p) ∙ sym (append_assoc (section_with q.0 (Some q.1)) (texts_of qs) (section_with p.0 (Some p.1)))

-- before the first section
pub begins : (base : Blocks) (job : JobMeaning) (allowed : AllowMissing) (archive rest : List ℕ) (r : Reception) → archive ≡ header_of job.roots ++ rest → r ≡ nothing_received_with base job allowed → IsReceivedUpTo base job allowed archive rest r
begins base job allowed archive rest r written is =
    subst (λ (x : Reception). IsReceivedUpTo base job allowed archive rest x) (sym is)
    (record {
      bytes = written ∙ ap (λ (l : List ℕ). l ++ rest) (sym (append-nil (header_of job.roots)));
      same = refl;
      received = none-at-first base job;
    })

-- with one section more
one-more : (base : Blocks) (job : JobMeaning) (allowed : AllowMissing) (archive rest after : List ℕ) (sections : Blocks) (n : ℕ) (p : List ℕ × List ℕ) (new : Reception)
    → archive ≡ archive_bytes job.roots sections ++ rest → rest ≡ section_with p.0 (Some p.1) ++ after
    → AreReceived base n job (sections ++ p ∷ []) → new ≡ reception_with base job allowed (sections ++ p ∷ []) n false → IsReceivedUpTo base job allowed archive after new
one-more base job allowed archive rest after sections n p new all written received is =
    let h = header_of job.roots in
    let t = section_with p.0 (Some p.1) in
    let of_texts : List ℕ → List ℕ = λ l. (h ++ l) ++ after in
    subst (λ (x : Reception). IsReceivedUpTo base job allowed archive after x) (sym is)
    (record {
      bytes = all ∙ ap (λ (l : List ℕ). archive_bytes job.roots sections ++ l) written
          ∙ sym (append_assoc (h ++ texts_of sections) t after)
          ∙ ap (λ (l : List ℕ). l ++ after) (append_assoc h (texts_of sections) t)
          ∙ ap of_texts (sym (texts-more sections p));
      same = refl;
      received = received;
    })

-- a receiver that has received the next section
pub receives-next : (base : Blocks) (job : JobMeaning) (allowed : AllowMissing) (archive rest after : List ℕ) (old new : Reception) → IsReceivedUpTo base job allowed archive rest old → HasReceived rest after old new → IsReceivedUpTo base job allowed archive after new
receives-next base job allowed archive rest after old new up has =
    let at = subst (λ (r : Reception). HasReceived rest after r new) up.same has in
    one-more base job allowed archive rest after old.sections (suc at.receives.place) at.section new up.bytes at.written at.receives.received at.receives.after

-- at the end the archive is its own
pub is-own : (base : Blocks) (job : JobMeaning) (allowed : AllowMissing) (archive rest : List ℕ) (last : Reception) (counts : Counts) → IsReceivedUpTo base job allowed archive rest last → rest ≡ [] → IsWhole last counts → IsJobsOwnWith base job archive
is-own base job allowed archive rest last counts up none whole number =
    let own = subst (λ (r : Reception). IsWhole r counts) up.same whole in
    (last.sections, up.bytes ∙ ap (λ (l : List ℕ). archive_bytes job.roots last.sections ++ l) none ∙ append-nil (archive_bytes job.roots last.sections), own.own number)
