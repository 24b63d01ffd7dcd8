use Rattle.qc_serve.proofs.Meeting.{other_gives}
use Rattle.qc_model.specs.Machine.{refused}
use Rattle.qc_serve.proofs.session.Session.log_error.Goals as goal

pub returns-clause-gives : goal.returns-clause-gives
returns-clause-gives g c =
    let old = c.args.self.now in
    let n = c.log_note in
    other_gives c.args.turn.now old n.new.self c.in_ok-reply.reply (refused c.args.error.now) c.in_ok-log_note.ensures.logs c.requires.rest.rest n.ensures.state c.in_ok-reply.ensures
