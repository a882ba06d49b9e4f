use Rattle.std.proofs.Common.{◌∙◌, ◌<◌, ◌^◌, ap}
use Rattle.std.specs.Int.{w64, from_be_bytes}
use Rattle.std.specs.Ordering.{nat_cmp}
use Rattle.std.proofs.lemmas.List.Elements.{All-from_get_or}
use Rattle.ix_cid.proofs.Words.{order_of_eight}
use Rattle.ix_cid.proofs.cid.order_of_words.Goals as goal

pub returns : goal.returns
returns c =
    let left = c.args.left.now in
    let right = c.args.right.now in
    c.cmp.ensures ∙ ap (λ n. nat_cmp n c.from_be_bytes-2.result) c.from_be_bytes.ensures ∙ ap (nat_cmp (from_be_bytes w64 left)) c.from_be_bytes-2.ensures
    ∙ order_of_eight left right c.told-left c.told-right (All-from_get_or (λ x. x < 2 ^ 8) left 0 (λ i h. c.fits-left i)) (All-from_get_or (λ x. x < 2 ^ 8) right 0 (λ i h. c.fits-right i))
