use Rattle.std.proofs.Common.{◌≡◌, slice_get, Some, arith}
use Rattle.std.proofs.lemmas.Option.{slice_get_within}
use Rattle.ix_store.proofs.Marking.{told_is}
use Rattle.ix_store.proofs.memo.Memo.is_malformed.Goals as goal

pub returns-in-Some : goal.returns-in-Some
returns-in-Some c =
    let at : slice_get c.self.inside.row.shared.key.pairs c.args.place ≡ Some (c.args.cid.now, c.args.block.now) = rw c.self.view_is c.requires in
    told_is _ _ _ (c.look-word.ensures.told (c.args.cid.now, c.args.block.now) at).is_malformed_told c.in-Some.ensures.some.0 c.in-Some.ensures.some.1

pub note-requires-clause-place : goal.note-requires-clause-place
note-requires-clause-place c =
    let at : slice_get c.self.inside.row.shared.key.pairs c.args.place ≡ Some (c.args.cid.now, c.args.block.now) = rw c.self.view_is c.requires in
    let in_pairs = slice_get_within c.self.inside.row.shared.key.pairs c.args.place _ at in
    let words = c.self.invariant in
    omega (arith, in_pairs, words)
