use Rattle.qc_model.specs.Machine.{used}
use Rattle.qc_serve.specs.Going.{IsGivenBy, next_who}
use Rattle.qc_serve.proofs.Resting.{or_err, stops_without}
use Rattle.qc_serve.proofs.Using.{choice_session, kept_session, use_fits, use_give, use_refuse, use_stops}
use Rattle.qc_serve.proofs.session.Session.use_db.Goals as goal

pub error_reply-requires : goal.error_reply-requires
error_reply-requires g c =
    let d = c.in_ok-database in
    use_fits c.args.turn.now c.args.self.now c.log_sharing.new.self d.database c.args.name.now c.in-Err-Other.error c.requires.rest d.ensures.logs c.log_sharing.ensures.state (rw c.in-Err-Other.field-0-is at c.in-Err-Other.ensures.gives)

pub returns-in-Ok-clause-gives : goal.returns-in-Ok-clause-gives
returns-in-Ok-clause-gives g c =
    let d = c.in_ok-database in
    use_give c.args.turn.now c.args.self.now c.log_sharing.new.self d.database c.args.name.now c.use_db.new.state c.ok_reply.result c.requires.rest d.ensures.logs c.log_sharing.ensures.state c.in-Ok.ensures.gives (rw c.status.ensures at c.ok_reply.ensures)

pub returns-in-Ok-clause-stops : goal.returns-in-Ok-clause-stops
returns-in-Ok-clause-stops g c =
    let d = c.in_ok-database in
    or_err c.ok_reply.result (use_stops c.args.turn.now c.args.self.now c.log_sharing.new.self d.database c.args.name.now c.use_db.new.state d.ensures.logs (choice_session c.args.self.now c.log_sharing.new.self d.database c.args.name.now c.use_db.new.state c.log_sharing.ensures.state c.in-Ok.ensures.gives))

pub returns-in-Err-Other-clause-gives : goal.returns-in-Err-Other-clause-gives
returns-in-Err-Other-clause-gives g c =
    let d = c.in_ok-database in
    use_refuse c.args.turn.now c.args.self.now c.log_sharing.new.self d.database c.args.name.now c.use_db.new.state c.in-Err-Other.error c.error_reply.result c.requires.rest d.ensures.logs c.log_sharing.ensures.state (rw c.in-Err-Other.field-0-is at c.in-Err-Other.ensures.gives) c.in-Err-Other.ensures.err c.error_reply.ensures

pub returns-in-Err-Other-clause-stops : goal.returns-in-Err-Other-clause-stops
returns-in-Err-Other-clause-stops g c =
    let d = c.in_ok-database in
    or_err c.error_reply.result (use_stops c.args.turn.now c.args.self.now c.log_sharing.new.self d.database c.args.name.now c.use_db.new.state d.ensures.logs (kept_session c.args.self.now c.log_sharing.new.self c.use_db.new.state c.log_sharing.ensures.state c.in-Err-Other.ensures.err))

pub returns-clause-stops : goal.returns-clause-stops
returns-clause-stops g c =
    let d = c.in_ok-database in
    use_stops c.args.turn.now c.args.self.now c.log_sharing.new.self d.database c.args.name.now c.use_db.new.state d.ensures.logs (kept_session c.args.self.now c.log_sharing.new.self c.use_db.new.state c.log_sharing.ensures.state c.in-Err-Memory.ensures.err)

pub returns-in_err-database-clause-stops : goal.returns-in_err-database-clause-stops
returns-in_err-database-clause-stops g c =
    let old = c.args.self.now in
    or_err _ (stops_without c.args.turn.now old c.log_sharing.new.self (IsGivenBy (λ journal. used (next_who old) old.state.state journal c.args.name.now)) c.in_err-database.ensures.stops)
