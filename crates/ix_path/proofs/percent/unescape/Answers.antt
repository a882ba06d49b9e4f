use Rattle.std.proofs.Common.{◌≡◌, ◌+◌, ◌-◌, ℕ, List, length, sym, ◌∙◌, ap, arith}
use Rattle.std.specs.Prelude.{Some}
use Rattle.ix_path.specs.Path.{front_byte, unescaped}
use Rattle.ix_path.proofs.Escapes.{after_front, after_front-none, after_front-one, front_read, with_one}
use Rattle.ix_path.proofs.percent.unescape.Goals as goal

pub loop-rest-init : goal.loop-rest-init
loop-rest-init c =
    let text = c.args.text.now in
    let place = c.args.place in
    let z : place + (length text - length text) ≡ place = omega arith in
    record {
      within = omega arith;
      goes_on = ap (λ (l : List ℕ). after_front l (unescaped (place + (length text - length text)) text)) c.new-bytes.ensures.items
          ∙ after_front-none (unescaped (place + (length text - length text)) text) ∙ ap (λ (k : ℕ). unescaped k text) z;
    }

pub loop-rest-preserved : goal.loop-rest-preserved
loop-rest-preserved c =
    let text = c.args.text.now in
    let rest = c.loop-rest.rest.now in
    let after = c.in-Some.after.now in
    let byte = c.in-Some.byte in
    let bytes = c.loop-rest.bytes.items in
    let place : ℕ = c.args.place + (length text - length rest) in
    let front : front_byte rest ≡ Some (byte, after) = sym c.in-Some.ensures in
    let r = front_read place byte after rest front in
    let within = c.loop-rest.invariant.within in
    let next : c.args.place + (length text - length after) ≡ place + r.0 = omega (arith, r.1) in
    record {
      within = omega (arith, r.1);
      goes_on = ap (λ (l : List ℕ). after_front l (unescaped (c.args.place + (length text - length after)) after)) c.in_ok-push.ensures.items
          ∙ after_front-one bytes byte (unescaped (c.args.place + (length text - length after)) after)
          ∙ ap (λ (k : ℕ). after_front bytes (with_one byte (unescaped k after))) next
          ∙ ap (after_front bytes) (sym r.2)
          ∙ c.loop-rest.invariant.goes_on;
    }
