use Rattle.std.proofs.Common.{sym, subst}
use Rattle.ix_own_archive.specs.Streaming.{Asked, IsWaiting}
use Rattle.ix_own_archive.proofs.Cutting.{one-way}
use Rattle.ix_own_archive.proofs.law.stream_is_of_its_bytes.Goals as goal

pub returns : goal.returns
returns c = λ s t h k asked small same.
    one-way s.asked s.checked t.checked s.rest t.rest s.sections t.sections h.waits (subst (λ (a : Asked). IsWaiting a t.checked t.rest t.sections) (sym asked) k.waits) small same
