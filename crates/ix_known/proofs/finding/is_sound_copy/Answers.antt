use Rattle.std.proofs.Common.{sym, ap, ◌∙◌}
use Rattle.ix_verdict.specs.Verdict.{is_sound}
use Rattle.ix_store.proofs.Blocks.{place_within}
use Rattle.ix_known.proofs.Copies.{known-copy}
use Rattle.ix_known.proofs.finding.is_sound_copy.Goals as goal

pub bytes-requires : goal.bytes-requires
bytes-requires c = place_within _ _ _ (sym c.requires)

pub returns-then-eq : goal.returns-then-eq
returns-then-eq c =
    c.is_sound.ensures ∙ ap is_sound c.verdict_at.ensures ∙ known-copy c.args.store.now c.args.place c.args.cid.now c.bytes.result.now c.args.block.now c.requires c.bytes.ensures (sym c.eq.ensures ∙ c.if-eq.true)

pub verdict_at-requires : goal.verdict_at-requires
verdict_at-requires c = sym c.requires
