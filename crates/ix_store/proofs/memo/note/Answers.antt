use Rattle.ix_store.proofs.Marking.{exchanges}
use Rattle.ix_store.proofs.memo.note.Goals as goal

pub compare_exchange-requires : goal.compare_exchange-requires
compare_exchange-requires c = (c.requires.seat, c.requires.place, exchanges _ _ _ _ _ _ _ c.requires.word)
