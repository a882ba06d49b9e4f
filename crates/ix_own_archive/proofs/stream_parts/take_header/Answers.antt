use Rattle.std.proofs.Common.{sym, ◌∙◌, ap, subst, List, ℕ}
use Rattle.ix_own_archive.specs.Fronts.{is_whole}
use Rattle.ix_own_archive.specs.Requests.{asked_of}
use Rattle.ix_own_archive.specs.Taking.{StaysWrong}
use Rattle.ix_own_archive.proofs.StreamHeaders.{header-stops, header-long}
use Rattle.ix_own_archive.proofs.stream_parts.take_header.Goals as goal

pub returns-in-Err-header_length-clause-stops : goal.returns-in-Err-header_length-clause-stops
returns-in-Err-header_length-clause-stops c =
    let asked = asked_of c.args.request.now in
    let reason = c.in-Err-header_length.reason in
    header-stops asked c.args.bytes.now reason c.requires.checked c.requires.first (subst (λ (l : List ℕ). StaysWrong asked l reason) c.rest-rest.ensures c.in-Err-header_length.ensures.wrong)

pub returns-in-Err-clause-stops : goal.returns-in-Err-clause-stops
returns-in-Err-clause-stops c =
    header-long (asked_of c.args.request.now) c.args.bytes.now c.in-Err.length c.requires.checked c.requires.first
    (ap (is_whole c.args.request.now.limits.header) (sym c.rest-rest.ensures) ∙ sym c.in-Err.ensures)
