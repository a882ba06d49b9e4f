use Rattle.std.proofs.Common.{◌++◌, List, sym, ap, ◌∙◌, append-nil, append_assoc, arith}
use Rattle.ix_cbor.specs.Fronts.{own_of_front}
use Rattle.ix_cbor.specs.Reading.{item_at, items_at}
use Rattle.ix_sections.specs.Standing.{own_links}
use Rattle.ix_sections.specs.Sections.{links_in}
use Rattle.ix_sections.proofs.HeaderParts.{member_headed, member_skipped, member_passed, no_member}
use Rattle.ix_sections.proofs.reader.header.links_in.Goals as goal

pub loop-init : goal.loop-init
loop-init c = λ ds h. (
  ds,
  h.0,
  ap (λ n. items_at (item_at 510) n c.args.members.now) (omega arith) ∙ h.1,
  ap (λ (l : List _). l ++ links_in ds) (sym c.new-links.ensures.items),
)

pub returns-in_default : goal.returns-in_default
returns-in_default c = λ ds h.
    let so_far = c.loop.invariant ds h in
    absurd (member_headed c.args.count c.loop.counter c.loop.rest.now so_far.0 so_far.1 c.loop-test.true so_far.2 _ c.in_default.ensures.exact.1)

pub returns-in_default-skip_item : goal.returns-in_default-skip_item
returns-in_default-skip_item c = λ ds h.
    let so_far = c.loop.invariant ds h in
    absurd (member_skipped c.args.count c.loop.counter c.loop.rest.now so_far.0 so_far.1 c.loop-test.true so_far.2 _ c.in_default-skip_item.ensures.1)

pub loop-preserved : goal.loop-preserved
loop-preserved c = λ ds h.
    let so_far = c.loop.invariant ds h in
    let own = own_of_front c.in-Ok.front in
    let past = member_passed c.args.count c.loop.counter c.loop.rest.now so_far.0 so_far.1 c.loop-test.true so_far.2 own _ c.in-Ok.ensures.exact c.in-Ok-skip_item.next.now c.in-Ok-skip_item.ensures in (
      past.0,
      so_far.1,
      past.1,
      so_far.3 ∙ ap (λ l. c.loop.links.items ++ l) past.2 ∙ sym (append_assoc c.loop.links.items (own_links own) (links_in past.0))
          ∙ ap (λ l. l ++ links_in past.0) (sym c.in_ok-push_link.ensures),
    )

pub returns : goal.returns
returns c = λ ds h.
    let so_far = c.loop.invariant ds h in
    sym (so_far.3 ∙ ap (λ l. c.loop.links.items ++ links_in l) (no_member c.args.count c.loop.counter c.loop.rest.now so_far.0 so_far.1 c.loop-test.false so_far.2) ∙ append-nil c.loop.links.items)
