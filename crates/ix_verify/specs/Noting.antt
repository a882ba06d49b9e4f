-- What is counted, of which the first are kept.
use Rattle.std.specs.Prelude.{◌≡◌, ℕ, ◌+◌, ◌≤◌, List, ◌++◌, length, map, take}
use Rattle.ix_verdict.specs.declared.verdict.Verdict.{Verdict}
use Rattle.ix_verify.specs.declared.noted.Noted.{Noted}
use Rattle.ix_verify.specs.Outcome.{worst_of}

-- all of a list are counted, this many of its first are kept at most, and the worst of their verdicts counts
pub record IsNoted {T : Type 0} (verdict : T → Verdict) (most : ℕ) (all : List T) (n : Noted T) : Type 0 where
  pub count : n.count ≡ length all
  pub first : n.first.items ≡ take most all
  pub worst : n.worst ≡ worst_of (map verdict all)

-- these are noted after whatever was noted before
pub record NotesMore {T : Type 0} (verdict : T → Verdict) (most : ℕ) (more : List T) (old new : Noted T) : Type 0 where
  pub noted : (before : List T) → IsNoted verdict most before old → IsNoted verdict most (before ++ more) new
  pub few : new.count ≤ old.count + length more
