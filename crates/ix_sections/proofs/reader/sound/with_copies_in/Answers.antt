use Rattle.std.proofs.Common.{◌≡◌, ◌<◌, ◌≤◌, ◌∙◌, List, ℕ, length, drop, length-drop, ap, sym, subst, arith, rules}
use Rattle.std.specs.Prelude.{Ok}
use Rattle.std.specs.Arc.{arc_value}
use Rattle.ix_sections.specs.declared.fault.CarFault.{CarFault}
use Rattle.ix_sections.specs.Reading.{header_at}
use Rattle.ix_sections.proofs.CopyLists.{copies-listed, rest-from, fails-from_front}
use Rattle.ix_sections.proofs.reader.sound.with_copies_in.Goals as goal

pub fault_in-requires-in-Err-with_copies_of : goal.fault_in-requires-in-Err-with_copies_of
fault_in-requires-in-Err-with_copies_of c =
    let file = (arc_value c.args.file.now).items in
    let slice : c.as_slice.result.now ≡ file = search rules in
    let same : c.as_slice-in-Err-with_copies_of.result.now ≡ file = search rules in
    let shorter : length c.in-Ok.sections.now < length (drop c.args.start file) = subst (λ (l : List ℕ). length c.in-Ok.sections.now < length l) (rest-from c.args.start c.as_slice.result.now file slice) c.in-Ok.ensures.shorter in
    omega (arith, ap length same, shorter, length-drop c.args.start file, (c.in-Err-with_copies_of.ensures 0).1)

pub returns-in-Ok-with_copies_of-clause-gives : goal.returns-in-Ok-with_copies_of-clause-gives
returns-in-Ok-with_copies_of-clause-gives c =
    let file = (arc_value c.args.file.now).items in
    let slice : c.as_slice.result.now ≡ file = search rules in
    let b = drop c.args.start file in
    let read : header_at b ≡ Ok c.in-Ok.sections.now = subst (λ (l : List ℕ). header_at l ≡ Ok c.in-Ok.sections.now) (rest-from c.args.start c.as_slice.result.now file slice) c.in-Ok.ensures.reads.0 in
    copies-listed c.args.builder.pairs b c.in-Ok.sections.now read ∙ (c.in-Ok-with_copies_of.ensures (length b)).0

pub returns-in-Err-with_copies_of-clause-gives : goal.returns-in-Err-with_copies_of-clause-gives
returns-in-Err-with_copies_of-clause-gives c =
    let file = (arc_value c.args.file.now).items in
    let slice : c.as_slice.result.now ≡ file = search rules in
    let same : c.as_slice-in-Err-with_copies_of.result.now ≡ file = search rules in
    let b = drop c.args.start file in
    let read : header_at b ≡ Ok c.in-Ok.sections.now = subst (λ (l : List ℕ). header_at l ≡ Ok c.in-Ok.sections.now) (rest-from c.args.start c.as_slice.result.now file slice) c.in-Ok.ensures.reads.0 in
    let shorter : length c.in-Ok.sections.now < length b = subst (λ (l : List ℕ). length c.in-Ok.sections.now < length l) (rest-from c.args.start c.as_slice.result.now file slice) c.in-Ok.ensures.shorter in
    let failed = c.in-Err-with_copies_of.ensures (length b) in
    let within : c.in-Err-with_copies_of.fault.left ≤ length file = omega (arith, shorter, length-drop c.args.start file, failed.1) in
    fails-from_front c.fault_in-in-Err-with_copies_of.result c.in-Err-with_copies_of.fault.kind c.in-Err-with_copies_of.fault.left c.as_slice-in-Err-with_copies_of.result.now file _ _
    c.fault_in-in-Err-with_copies_of.ensures same within (sym (copies-listed c.args.builder.pairs b c.in-Ok.sections.now read)) failed.0

pub returns-in-Err-with_copies_of-clause-from : goal.returns-in-Err-with_copies_of-clause-from
returns-in-Err-with_copies_of-clause-from c =
    let file = (arc_value c.args.file.now).items in
    let slice : c.as_slice.result.now ≡ file = search rules in
    let same : c.as_slice-in-Err-with_copies_of.result.now ≡ file = search rules in
    let b = drop c.args.start file in
    let shorter : length c.in-Ok.sections.now < length b = subst (λ (l : List ℕ). length c.in-Ok.sections.now < length l) (rest-from c.args.start c.as_slice.result.now file slice) c.in-Ok.ensures.shorter in
    let place = ap (λ (e : CarFault). e.place) c.fault_in-in-Err-with_copies_of.ensures in
    omega (arith, place, ap length same, shorter, length-drop c.args.start file, (c.in-Err-with_copies_of.ensures 0).1)
