-- Whether an archive begins with a header.
use Rattle.std.proofs.Common.{◌≡◌, ℕ, true, false, List, ◌++◌, length, take, drop, refl, sym, ◌∙◌, ap, take-append-drop}
use Rattle.std.specs.Prelude.{nat_eq}
use Rattle.std.specs.Cmp.Lexicographic.{pointwise, same_text, other_text}
use Rattle.std.proofs.Math.Seq.{take-append_seam}
use Rattle.ix_store.specs.Store.{Blocks}
use Rattle.ix_walk.specs.JobMeaning.{JobMeaning}
use Rattle.ix_verdict.specs.declared.allow_missing.AllowMissing.{AllowMissing}
use Rattle.ix_own_archive.specs.declared.fault.ArchiveReason.{ArchiveReason}
use Rattle.ix_own_archive.specs.declared.fault.ArchiveReason.TheVariants.{Header, OtherHeader, Section, Refused, Unfinished, Memory}
use Rattle.ix_own_archive.specs.Checking.{LacksHeader, IsHeaderReason, IsFaultAtWith}

-- it does, if its front is that
pub begins-with : (archive front rest header : List ℕ) → front ≡ header → pointwise nat_eq (take (length front) archive) front ≡ true → rest ≡ drop (length front) archive → archive ≡ header ++ rest
begins-with archive front rest header is same after =
    let n = length front in
    let begun : take n archive ≡ header = same_text (take n archive) front (sym same) ∙ is in
    sym (take-append-drop n archive) ∙ ap (λ (l : List ℕ). l ++ drop n archive) begun ∙ ap (λ (l : List ℕ). header ++ l) (sym after)

-- and not, if it isn't
pub lacks-header : (archive front header : List ℕ) → front ≡ header → pointwise nat_eq (take (length front) archive) front ≡ false → (rest : List ℕ) → archive ≡ header ++ rest → ⊥
lacks-header archive front header is other rest begins =
    let n = length front in
    let begun : take n archive ≡ front = ap (take n) begins ∙ ap (λ (l : List ℕ). take n (l ++ rest)) (sym is) ∙ take-append_seam front rest in
    other_text (take n archive) front (sym other) begun

-- what is found of a header that isn't the job's
pub header-fault : (base : Blocks) (job : JobMeaning) (allowed : AllowMissing) (archive : List ℕ) (reason : ArchiveReason) → LacksHeader job archive → IsHeaderReason archive reason → IsFaultAtWith base job allowed archive 0 reason
header-fault base job allowed archive (Header kind) lacks found = (refl, lacks, found)
header-fault base job allowed archive OtherHeader lacks found = (refl, lacks, found)
header-fault base job allowed archive (Section kind) lacks found = absurd found
header-fault base job allowed archive (Refused c fault) lacks found = absurd found
header-fault base job allowed archive (Unfinished fault) lacks found = absurd found
header-fault base job allowed archive Memory lacks found = tt
