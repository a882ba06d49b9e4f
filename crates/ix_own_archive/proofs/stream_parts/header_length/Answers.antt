use Rattle.std.proofs.Common.{◌≡◌, ◌<◌, ◌^◌, length, ◌∙◌, subst, arith, rules}
use Rattle.std.proofs.lemmas.Result.{IfOk-weaker, IfErr-weaker}
use Rattle.ix_sections.specs.Writing.{header_of}
use Rattle.ix_own_archive.specs.Requests.{asked_of}
use Rattle.ix_own_archive.proofs.Written.{are-bytes}
use Rattle.ix_own_archive.proofs.Headers.{begins-with, lacks-header}
use Rattle.ix_own_archive.proofs.StreamHeaders.{jobs-header, jobs-wrong, any-header, any-wrong}
use Rattle.ix_own_archive.proofs.stream_parts.header_length.Goals as goal

pub returns-in-Some-clause-length : goal.returns-in-Some-clause-length
returns-in-Some-clause-length c =
    let roots = c.args.request.now.job.now.roots in
    let header : c.as_slice.result.now ≡ header_of roots = c.as_slice.ensures.value ∙ c.args.request.now.header_is in
    let small : length c.args.bytes.now < 2 ^ 63 = search rules in
    jobs-header (asked_of c.args.request.now) c.args.bytes.now c.in-Some.rest.now _ c.in-OfJob.is small c.requires
    (begins-with c.args.bytes.now c.as_slice.result.now c.in-Some.rest.now (header_of roots) header c.in-Some.ensures.cases.0 c.in-Some.ensures.cases.1)
    (omega (arith, c.in-Some.ensures.cases.2))

pub returns-in-None-clause-wrong : goal.returns-in-None-clause-wrong
returns-in-None-clause-wrong c =
    let roots = c.args.request.now.job.now.roots in
    let header : c.as_slice.result.now ≡ header_of roots = c.as_slice.ensures.value ∙ c.args.request.now.header_is in
    let small : length c.as_slice.result.now < 2 ^ 63 = search rules in
    let short : length (header_of roots) < 2 ^ 63 = subst (λ l. length l < 2 ^ 63) header small in
    jobs-wrong (asked_of c.args.request.now) c.args.bytes.now c.header_reason.result c.in-OfJob.is (are-bytes c.args.bytes.now (λ i. omega (arith, c.type_inv.bytes i))) short c.requires
    (lacks-header c.args.bytes.now c.as_slice.result.now (header_of roots) header c.in-None.ensures.cases) c.header_reason.ensures

pub returns-in-Any-clause-length : goal.returns-in-Any-clause-length
returns-in-Any-clause-length c =
    let small : length c.args.bytes.now < 2 ^ 63 = search rules in
    IfOk-weaker c.any_header_length.result _ _
    (λ n told. any-header (asked_of c.args.request.now) c.args.bytes.now told.rest n c.in-Any.is (are-bytes c.args.bytes.now (λ i. omega (arith, c.type_inv.bytes i))) small c.requires told.read told.size)
    c.any_header_length.ensures.length

pub returns-in-Any-clause-wrong : goal.returns-in-Any-clause-wrong
returns-in-Any-clause-wrong c =
    IfErr-weaker c.any_header_length.result _ _
    (λ reason told. any-wrong (asked_of c.args.request.now) c.args.bytes.now reason c.in-Any.is c.requires told)
    c.any_header_length.ensures.wrong
