use Rattle.ix_cbor.specs.declared.node.Node.TheFolds.{the_lemmas}
use Rattle.std.proofs.lemmas.Grind.{common_steps}
use Rattle.std.proofs.Common.{rules, arith}
use Rattle.ix_cbor.proofs.Fitting.{list-tested, map-tested}
use Rattle.ix_cbor.proofs.canonical.+fits.Goals as goal

pub fits-returns-then-levels-ne0 : goal.fits-returns-then-levels-ne0
fits-returns-then-levels-ne0 t c =
    list-tested c.args.levels c.args.node.now c.in-List.members c.deref.result.now c.members_fit.result c.in-List.is c.deref.ensures.value (omega arith) (omega arith) c.members_fit.ensures

pub fits-returns-then-levels-ne0-2 : goal.fits-returns-then-levels-ne0-2
fits-returns-then-levels-ne0-2 t c =
    map-tested c.args.levels c.args.node.now c.in-Map.entries c.deref-then-levels-ne0-2.result.now c.entries_fit.result c.in-Map.is c.deref-then-levels-ne0-2.ensures.value (omega arith) (omega arith) c.entries_fit.ensures

pub members_fit-loop-member-preserved : goal.members_fit-loop-member-preserved
members_fit-loop-member-preserved t c = grind (arith, common_steps)

pub entries_fit-returns-then-is_some_and : goal.entries_fit-returns-then-is_some_and
entries_fit-returns-then-is_some_and t c = grind (arith, common_steps)

pub entries_fit-returns-then-not-fits : goal.entries_fit-returns-then-not-fits
entries_fit-returns-then-not-fits t c = grind (arith, common_steps)

pub entries_fit-loop-key-preserved : goal.entries_fit-loop-key-preserved
entries_fit-loop-key-preserved t c = grind (arith, common_steps)

pub entries_fit-returns : goal.entries_fit-returns
entries_fit-returns t c = grind (arith, common_steps)

pub members_fit-returns-then-not-fits : goal.members_fit-returns-then-not-fits
members_fit-returns-then-not-fits t c = grind (arith, common_steps)

pub members_fit-returns : goal.members_fit-returns
members_fit-returns t c = grind (arith, common_steps)

pub entries_fit-fits-requires : goal.entries_fit-fits-requires
entries_fit-fits-requires t c = search (rules, the_lemmas)

pub fits-members_fit-requires : goal.fits-members_fit-requires
fits-members_fit-requires t c = search (rules, the_lemmas)

pub fits-entries_fit-requires : goal.fits-entries_fit-requires
fits-entries_fit-requires t c = search (rules, the_lemmas)

pub fits-returns-in-Int : goal.fits-returns-in-Int
fits-returns-in-Int t c = search (rules, the_lemmas)

pub fits-returns-in-Bits64 : goal.fits-returns-in-Bits64
fits-returns-in-Bits64 t c = search (rules, the_lemmas)

pub fits-returns-else-levels-ne0 : goal.fits-returns-else-levels-ne0
fits-returns-else-levels-ne0 t c = search (rules, the_lemmas)

pub fits-returns-else-levels-ne0-2 : goal.fits-returns-else-levels-ne0-2
fits-returns-else-levels-ne0-2 t c = search (rules, the_lemmas)

pub fits-returns-in-Link : goal.fits-returns-in-Link
fits-returns-in-Link t c = search (rules, the_lemmas)

pub fits-returns-in-Null : goal.fits-returns-in-Null
fits-returns-in-Null t c = search (rules, the_lemmas)

pub fits-returns-in-Bytes : goal.fits-returns-in-Bytes
fits-returns-in-Bytes t c = search (rules, the_lemmas)

pub members_fit-fits-requires : goal.members_fit-fits-requires
members_fit-fits-requires t c = search (rules, the_lemmas)
