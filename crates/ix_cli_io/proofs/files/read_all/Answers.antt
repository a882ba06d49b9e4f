use Rattle.std.proofs.Common.{◌≡◌, ◌<◌, sym, subst, length, arith}
use Rattle.std.specs.Prelude.{IfSome}
use Rattle.ix_cli_io.proofs.Inputs.{whole_read}
use Rattle.ix_cli_io.proofs.files.read_all.Goals as goal

pub returns-in-Ok-2 : goal.returns-in-Ok-2
returns-in-Ok-2 g c =
    let read = c.read_to_end.new.buf in
    let known = g.R.Read.remaining in
    let below : length read.items < c.take.result.limit = subst (λ n. length read.items < n) (sym c.take.ensures.limit) (omega (arith, read.ok, c.len.ensures, c.if-len-most.false, c.saturating_add.ensures)) in
    let whole = subst (λ r. IfSome (known r) (λ bytes. read.items ≡ bytes)) c.take.ensures.inner
    (whole_read c.take.result.limit (known c.take.result.inner) c.in_ok-input.input.items read.items c.in_ok-input.ensures.items c.in-Ok-2.ensures.bytes below) in
    record { whole = whole; read = omega (arith, c.len.ensures, c.if-len-most.false) }
