use Rattle.std.proofs.Common.{rules, ◌≡◌, true, false, refl, sym, ap, ◌∙◌, arith}
use Rattle.ix_cbor.specs.Fronts.{own_of_front}
use Rattle.ix_cbor.specs.Reading.{item_at, items_at}
use Rattle.ix_sections.specs.Standing.{own_is_link}
use Rattle.ix_sections.specs.Reading.{are_links}
use Rattle.ix_sections.proofs.HeaderParts.{member_headed, other_found, link_passed, no_member}
use Rattle.ix_sections.proofs.reader.header.are_links.Goals as goal

pub loop-init : goal.loop-init
loop-init c = λ ds h. (ds, h.0, ap (λ n. items_at (item_at 510) n c.args.members.now) (omega arith) ∙ h.1, refl)

pub returns-in_default : goal.returns-in_default
returns-in_default c = λ ds h.
    let so_far = c.loop.invariant ds h in
    absurd (member_headed c.args.count c.loop.counter c.loop.rest.now so_far.0 so_far.1 c.loop-test.true so_far.2 _ c.in_default.ensures.exact.1)

pub returns-then-not-is_link : goal.returns-then-not-is_link
returns-then-not-is_link c = λ ds h.
    let so_far = c.loop.invariant ds h in
    let other : own_is_link (own_of_front c.in-Ok.front) ≡ false = search rules in
    sym (so_far.3 ∙ other_found c.args.count c.loop.counter c.loop.rest.now so_far.0 so_far.1 c.loop-test.true so_far.2 (own_of_front c.in-Ok.front) c.in-Ok.next.now c.in-Ok.ensures.exact other)

pub loop-preserved : goal.loop-preserved
loop-preserved c = λ ds h.
    let so_far = c.loop.invariant ds h in
    let is : own_is_link (own_of_front c.in-Ok.front) ≡ true = search rules in
    let past = link_passed c.args.count c.loop.counter c.loop.rest.now so_far.0 so_far.1 c.loop-test.true so_far.2 (own_of_front c.in-Ok.front) c.in-Ok.next.now c.in-Ok.ensures.exact is in
    (past.0, so_far.1, past.1, so_far.3 ∙ past.2)

pub returns : goal.returns
returns c = λ ds h.
    let so_far = c.loop.invariant ds h in
    sym (so_far.3 ∙ ap are_links (no_member c.args.count c.loop.counter c.loop.rest.now so_far.0 so_far.1 c.loop-test.false so_far.2))
