use Rattle.qc_serve.specs.Going.{next_who}
use Rattle.qc_serve.specs.Notes.{noted}
use Rattle.qc_serve.proofs.Meeting.{event_gives, noted_of}
use Rattle.qc_serve.proofs.session.Session.log_ok.Goals as goal

pub returns-clause-gives : goal.returns-clause-gives
returns-clause-gives g c =
    let old = c.args.self.now in
    let n = c.log_note in
    let who = next_who old in
    let note = c.args.note in
    event_gives c.args.turn.now old n.new.self c.in_ok-reply.reply (noted note who) c.in_ok-log_note.ensures.logs (noted_of note who) c.requires.rest n.ensures.state (rw c.status.ensures at c.in_ok-reply.ensures)
