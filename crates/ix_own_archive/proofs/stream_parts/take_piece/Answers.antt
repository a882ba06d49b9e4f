use Rattle.std.proofs.Common.{◌≡◌, ◌<◌, Bool, sym, ◌∙◌, ap, subst, arith}
use Rattle.std.proofs.lemmas.Result.{on_ok_weaker, IfErr-weaker}
use Rattle.ix_own_archive.specs.Requests.{asked_of}
use Rattle.ix_own_archive.specs.Taking.{TakenBytes, with_piece, MovesOn, IsHeadTaken, HasChecked, IsKept, TakesPiece}
use Rattle.ix_own_archive.proofs.Streams.{not-moved, moves-on}
use Rattle.ix_own_archive.proofs.StreamPieces.{kept-within, piece-lost, piece-stops, piece-waits, piece-headed}
use Rattle.ix_own_archive.proofs.stream_parts.take_piece.Goals as goal

pub returns-in_default-clause-stops : goal.returns-in_default-clause-stops
returns-in_default-clause-stops g c =
    piece-lost (asked_of c.args.request.now) c.args.bytes.now c.args.receiver.now c.args.piece.now c.push.new.self c.requires.kept c.in_default.ensures.same

pub take_sections-requires-clause-checked : goal.take_sections-requires-clause-checked
take_sections-requires-clause-checked g c =
    let asked = asked_of c.args.request.now in
    let b = c.args.bytes.now in
    let r = c.args.receiver.now in
    let is : c.push.new.self ≡ with_piece c.args.piece.now b = c.in-Ok.ensures.taken in
    let parts : 0 < b.parts = omega (arith, c.if-parts-gt0.true, c.parts.ensures, ap (λ (b : TakenBytes). b.parts) is) in
    let has = kept-within asked b r parts c.requires.kept in
    subst (λ (x : TakenBytes). HasChecked asked x r) (sym is) (record { parts = has.0.parts; bytes = has.0.bytes })

pub returns-then-parts-gt0-clause-taken : goal.returns-then-parts-gt0-clause-taken
returns-then-parts-gt0-clause-taken g c =
    let asked = asked_of c.args.request.now in
    let is : c.push.new.self ≡ with_piece c.args.piece.now c.args.bytes.now = c.in-Ok.ensures.taken in
    let new = c.take_sections.new.bytes in
    let s = c.take_sections.new.receiver in
    let moved = subst (λ (b : TakenBytes). MovesOn b new) is c.take_sections.ensures.moved in
    on_ok_weaker {P = IsKept asked new s} {Q = TakesPiece asked c.args.bytes.now c.args.piece.now new s} c.take_sections.result (λ kept. record { moved = moved; kept = kept }) c.take_sections.ensures.kept

pub returns-then-parts-gt0-clause-stops : goal.returns-then-parts-gt0-clause-stops
returns-then-parts-gt0-clause-stops g c =
    let is : c.push.new.self ≡ with_piece c.args.piece.now c.args.bytes.now = c.in-Ok.ensures.taken in
    let new = c.take_sections.new.bytes in
    let moved = subst (λ (b : TakenBytes). MovesOn b new) is c.take_sections.ensures.moved in
    IfErr-weaker c.take_sections.result _ _
    (λ reason here. piece-stops (asked_of c.args.request.now) c.args.bytes.now c.args.piece.now new reason moved here)
    c.take_sections.ensures.stops

pub take_sections-requires-in-Ok-true-clause-checked : goal.take_sections-requires-in-Ok-true-clause-checked
take_sections-requires-in-Ok-true-clause-checked g c =
    let is : c.push.new.self ≡ with_piece c.args.piece.now c.args.bytes.now = c.in-Ok.ensures.taken in
    let asked = asked_of c.args.request.now in
    let one = c.push.new.self in
    let two = c.take_header.new.bytes in
    let first : c.args.bytes.now.parts ≡ 0 = omega (arith, c.if-parts-gt0.false, c.parts.ensures, ap (λ (b : TakenBytes). b.parts) is) in
    let head = subst (λ (t : Bool). IsHeadTaken asked one two t) c.in-Ok-true.field-0-test c.in-Ok-true.ensures.found in
    (piece-headed asked c.args.bytes.now c.args.piece.now one two c.args.receiver.now is first c.requires.kept head).0

pub returns-in-Ok-true-clause-taken : goal.returns-in-Ok-true-clause-taken
returns-in-Ok-true-clause-taken g c =
    let is : c.push.new.self ≡ with_piece c.args.piece.now c.args.bytes.now = c.in-Ok.ensures.taken in
    let asked = asked_of c.args.request.now in
    let one = c.push.new.self in
    let two = c.take_header.new.bytes in
    let new = c.take_sections-in-Ok-true.new.bytes in
    let s = c.take_sections-in-Ok-true.new.receiver in
    let first : c.args.bytes.now.parts ≡ 0 = omega (arith, c.if-parts-gt0.false, c.parts.ensures, ap (λ (b : TakenBytes). b.parts) is) in
    let head = subst (λ (t : Bool). IsHeadTaken asked one two t) c.in-Ok-true.field-0-test c.in-Ok-true.ensures.found in
    let headed = piece-headed asked c.args.bytes.now c.args.piece.now one two c.args.receiver.now is first c.requires.kept head in
    let moved = moves-on (with_piece c.args.piece.now c.args.bytes.now) two new headed.1 c.take_sections-in-Ok-true.ensures.moved in
    on_ok_weaker {P = IsKept asked new s} {Q = TakesPiece asked c.args.bytes.now c.args.piece.now new s} c.take_sections-in-Ok-true.result (λ kept. record { moved = moved; kept = kept }) c.take_sections-in-Ok-true.ensures.kept

pub returns-in-Ok-true-clause-stops : goal.returns-in-Ok-true-clause-stops
returns-in-Ok-true-clause-stops g c =
    let is : c.push.new.self ≡ with_piece c.args.piece.now c.args.bytes.now = c.in-Ok.ensures.taken in
    let asked = asked_of c.args.request.now in
    let one = c.push.new.self in
    let two = c.take_header.new.bytes in
    let new = c.take_sections-in-Ok-true.new.bytes in
    let first : c.args.bytes.now.parts ≡ 0 = omega (arith, c.if-parts-gt0.false, c.parts.ensures, ap (λ (b : TakenBytes). b.parts) is) in
    let head = subst (λ (t : Bool). IsHeadTaken asked one two t) c.in-Ok-true.field-0-test c.in-Ok-true.ensures.found in
    let headed = piece-headed asked c.args.bytes.now c.args.piece.now one two c.args.receiver.now is first c.requires.kept head in
    let moved = moves-on (with_piece c.args.piece.now c.args.bytes.now) two new headed.1 c.take_sections-in-Ok-true.ensures.moved in
    IfErr-weaker c.take_sections-in-Ok-true.result _ _
    (λ reason here. piece-stops asked c.args.bytes.now c.args.piece.now new reason moved here)
    c.take_sections-in-Ok-true.ensures.stops

pub returns-in-Ok-false-clause-taken : goal.returns-in-Ok-false-clause-taken
returns-in-Ok-false-clause-taken g c =
    let is : c.push.new.self ≡ with_piece c.args.piece.now c.args.bytes.now = c.in-Ok.ensures.taken in
    let asked = asked_of c.args.request.now in
    let one = c.push.new.self in
    let new = c.take_header.new.bytes in
    let first : c.args.bytes.now.parts ≡ 0 = omega (arith, c.if-parts-gt0.false, c.parts.ensures, ap (λ (b : TakenBytes). b.parts) is) in
    let head = subst (λ (t : Bool). IsHeadTaken asked one new t) c.in-Ok-false.field-0-test c.in-Ok-false.ensures.found in
    piece-waits asked c.args.bytes.now c.args.piece.now one new c.args.receiver.now is first c.requires.kept head

pub returns-in-Err-clause-stops : goal.returns-in-Err-clause-stops
returns-in-Err-clause-stops g c =
    let is : c.push.new.self ≡ with_piece c.args.piece.now c.args.bytes.now = c.in-Ok.ensures.taken in
    let all = with_piece c.args.piece.now c.args.bytes.now in
    let moved = subst (MovesOn all) (sym (c.in-Err.ensures.same ∙ is)) (not-moved all) in
    piece-stops (asked_of c.args.request.now) c.args.bytes.now c.args.piece.now c.take_header.new.bytes c.in-Err.reason moved c.in-Err.ensures.stops
