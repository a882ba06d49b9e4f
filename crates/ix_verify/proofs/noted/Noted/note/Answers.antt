use Rattle.std.proofs.Common.{sym, ◌∙◌, ap}
use Rattle.ix_verify.specs.Outcome.{worse}
use Rattle.ix_verify.proofs.Notes.{note-then, note-else}
use Rattle.ix_verify.proofs.noted.Noted.note.Goals as goal
use Rattle.ix_verify.proofs.noted.Noted.note.Goals.{then-has_room+in_ok-push, else-has_room}

pub returns : goal.returns
returns g c of is =
    let worst = c.worse-self.ensures ∙ ap (worse c.if-has_room.self.worst) c.on.ensures in
    elim c.if-has_room.branch [
      | then-has_room+in_ok-push w ↦
          note-then of c.args.most c.args.item c.args.self.now c.if-has_room.self c.worse-self.result c.args.verdict is worst w.push.new.self w.self-is w.in_ok-push.ensures.items (sym c.has_room.ensures ∙ w.if-has_room.true)
      | else-has_room w ↦
          note-else of c.args.most c.args.item c.args.self.now c.if-has_room.self c.worse-self.result c.args.verdict is worst w.self-is (sym c.has_room.ensures ∙ w.if-has_room.false)
    ]
