use Rattle.std.proofs.Common.{◌<◌, length, ◌∙◌, arith, length-set}
use Rattle.ix_cid.proofs.Groups.{spelled_more, spelled_end, appended, few_groups, fewer_bits}
use Rattle.ix_cid.proofs.varint.push_varint.Goals as goal

pub loop-rest-preserved : goal.loop-rest-preserved
loop-rest-preserved c =
    let kept = c.loop-rest.invariant in
    let last = c.loop-rest.last in
    let rest = c.loop-rest.rest in
    let few : last < 8 = few_groups last rest kept.few kept.fits c.loop-rest-test.true in
    let within : last < length c.loop-rest.spelled = omega (arith, kept.room) in
    record {
      few = omega arith;
      room = length-set c.loop-rest.spelled last _ ∙ kept.room;
      spelled = spelled_more _ c.loop-rest.spelled last rest few within c.loop-rest-test.true kept.spelled;
      fits = fewer_bits last rest few kept.fits;
    }

pub returns-clause-ok : goal.returns-clause-ok
returns-clause-ok c =
    let kept = c.loop-rest.invariant in
    let spelled = spelled_end _ c.loop-rest.spelled c.loop-rest.last c.loop-rest.rest (omega (arith, kept.room)) c.loop-rest-test.false kept.spelled in
    appended _ _ _ _ _ c.extend_from_slice.ensures.items spelled
