use Rattle.std.proofs.Common.{◌≤◌, ◌+◌, length, take, ap, subst, arith}
use Rattle.std.specs.Io.KnownBytes.{Appends}
use Rattle.std.proofs.lemmas.List.{length-drop, take_rest}
use Rattle.ix_sections.proofs.Growth.{appends-turn}
use Rattle.ix_sections.proofs.writer.write_text.Goals as goal

pub loop-taken-preserved : goal.loop-taken-preserved
loop-taken-preserved g c =
    let text = c.args.text.now in
    let taken = c.loop-taken.taken in
    let rest = take_rest text taken in
    let within : taken + c.in-Ok.count ≤ length text = omega (arith, c.in-Ok.ensures.bound, ap length rest, length-drop taken text, c.loop-taken-test.true) in (
      within,
      appends-turn (g.W.Write.contents c.args.writer.now) (g.W.Write.contents c.loop-taken.writer) (g.W.Write.contents c.write.new.self) taken c.in-Ok.count text c.loop-taken.invariant.1
          (subst (λ l. Appends (g.W.Write.contents c.loop-taken.writer) (g.W.Write.contents c.write.new.self) (take c.in-Ok.count l)) rest c.in-Ok.ensures.bytes),
    )
