-- What a call answers that can't read a file into a handle.
use Rattle.std.proofs.Common.{List, ℕ, sym, ap, ◌∙◌, inl, inr}
use Rattle.std.specs.Prelude.{Option, Some, Err}
use Rattle.ix_api.specs.declared.failure.Failure.{Failure}
use Rattle.ix_api.specs.declared.failure.Failure.TheVariants as failures
use Rattle.ix_api.specs.declared.object.Object.{Object}
use Rattle.ix_api.specs.declared.object.Object.TheVariants as held
use Rattle.ix_capi.specs.declared.status.Status.{Status}
use Rattle.ix_capi.specs.declared.status.Status.TheVariants.{Done, Memory, Refused, Handle, Known, NoCid, Range}
use Rattle.ix_capi.specs.Answers.{IsRefused, HasRead, IsAddedFrom}

-- it was rejected, or memory ran out
pub read_failed : (file : List ℕ) (before now : Object) (failure : Failure) (after : Option Object) (status : Status) → IsAddedFrom file before now (Some (Err failure)) → IsRefused failure (Some now) after status → HasRead file (Some before) after status
read_failed file before now (failures.Refused line) after Done told made = absurd made
read_failed file before now (failures.Refused line) after Memory (old, new, was, is, fails, left) made = inl (made ∙ ap (λ h. Some h) (is ∙ ap (λ b. held.Open b) left ∙ sym was))
read_failed file before now (failures.Refused line) after Refused (old, new, was, is, fails, left) made = (line, made, fails)
read_failed file before now (failures.Refused line) after Handle told made = absurd made
read_failed file before now (failures.Refused line) after Known told made = absurd made
read_failed file before now (failures.Refused line) after NoCid told made = absurd made
read_failed file before now (failures.Refused line) after Range told made = absurd made
read_failed file before now failures.Memory after Done told made = absurd made
read_failed file before now failures.Memory after Memory (old, new, was, is, fails, left) made = inr (old, new, ap (λ h. Some h) was, made ∙ ap (λ h. Some h) is, left)
read_failed file before now failures.Memory after Refused told made = absurd made
read_failed file before now failures.Memory after Handle told made = absurd made
read_failed file before now failures.Memory after Known told made = absurd made
read_failed file before now failures.Memory after NoCid told made = absurd made
read_failed file before now failures.Memory after Range told made = absurd made
