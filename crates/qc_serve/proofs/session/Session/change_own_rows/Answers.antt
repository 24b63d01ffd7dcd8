use Rattle.std.proofs.Common.{refl, ap, ◌∙◌}
use Rattle.qc_trx.specs.SnapshotStates.{SnapshotState}
use Rattle.qc_serve.specs.Going.{IsGivenBy, next_who, rows_given}
use Rattle.qc_serve.proofs.Resting.{or_err, stops_without}
use Rattle.qc_serve.proofs.Using.{kept_out, may_keep, own_stop, refusal_fits, refused_out, sees}
use Rattle.qc_serve.proofs.session.Session.change_own_rows.Goals as goal

pub keep-requires-clause-may : goal.keep-requires-clause-may
keep-requires-clause-may g c =
    let t = c.args.turn.now in
    let old = c.args.self.now in
    let mid = c.log_sharing.new.self in
    let d = c.in_ok-database.database in
    let s = c.args.statement.now in
    let x = c.arrive.new.state in
    let y = sees t old mid (record mid { state = x }) d s x c.requires.rest.rest c.in_ok-database.ensures.logs c.log_sharing.ensures.state c.requires.open c.in_ok-arrive.ensures.arrived refl in
    (may_keep t old (record mid { state = x }) d s x c.in-Ok.effect y c.requires.rows c.requires.short c.in-Ok.ensures).may

pub keep-requires-clause-room : goal.keep-requires-clause-room
keep-requires-clause-room g c =
    let t = c.args.turn.now in
    let old = c.args.self.now in
    let mid = c.log_sharing.new.self in
    let d = c.in_ok-database.database in
    let s = c.args.statement.now in
    let x = c.arrive.new.state in
    let y = sees t old mid (record mid { state = x }) d s x c.requires.rest.rest c.in_ok-database.ensures.logs c.log_sharing.ensures.state c.requires.open c.in_ok-arrive.ensures.arrived refl in
    (may_keep t old (record mid { state = x }) d s x c.in-Ok.effect y c.requires.rows c.requires.short c.in-Ok.ensures).room

pub returns-in-Ok-clause-gives : goal.returns-in-Ok-clause-gives
returns-in-Ok-clause-gives g c =
    let t = c.args.turn.now in
    let old = c.args.self.now in
    let mid = c.log_sharing.new.self in
    let d = c.in_ok-database.database in
    let s = c.args.statement.now in
    let x = c.arrive.new.state in
    let n = c.keep in
    let y = sees t old mid n.new.self d s x c.requires.rest.rest c.in_ok-database.ensures.logs c.log_sharing.ensures.state c.requires.open c.in_ok-arrive.ensures.arrived n.ensures.same in
    kept_out t old n.new.self d s x c.in-Ok.effect n.result y c.requires.rest.rest c.requires.rows c.requires.short c.in-Ok.ensures n.ensures.added n.ensures.reply

pub error_reply-requires : goal.error_reply-requires
error_reply-requires g c =
    let t = c.args.turn.now in
    let old = c.args.self.now in
    let mid = c.log_sharing.new.self in
    let d = c.in_ok-database.database in
    let s = c.args.statement.now in
    let x = c.arrive.new.state in
    let y = sees t old mid (record mid { state = x }) d s x c.requires.rest.rest c.in_ok-database.ensures.logs c.log_sharing.ensures.state c.requires.open c.in_ok-arrive.ensures.arrived refl in
    refusal_fits t old (record mid { state = x }) d s x c.in-Err-Other.error y c.requires.short (rw c.in-Err-Other.field-0-is at c.in-Err-Other.ensures)

pub returns-in-Err-Other-clause-gives : goal.returns-in-Err-Other-clause-gives
returns-in-Err-Other-clause-gives g c =
    let t = c.args.turn.now in
    let old = c.args.self.now in
    let mid = c.log_sharing.new.self in
    let d = c.in_ok-database.database in
    let s = c.args.statement.now in
    let x = c.arrive.new.state in
    let n = c.error_reply in
    let y = sees t old mid (record mid { state = x }) d s x c.requires.rest.rest c.in_ok-database.ensures.logs c.log_sharing.ensures.state c.requires.open c.in_ok-arrive.ensures.arrived refl in
    refused_out t old (record mid { state = x }) d s x c.in-Err-Other.error n.result y c.requires.rest.rest c.requires.rows (rw c.in-Err-Other.field-0-is at c.in-Err-Other.ensures) refl n.ensures

pub returns-in_err-arrive-clause-stops : goal.returns-in_err-arrive-clause-stops
returns-in_err-arrive-clause-stops g c =
    or_err _ (own_stop c.args.turn.now c.args.self.now c.log_sharing.new.self (record c.log_sharing.new.self { state = c.arrive.new.state }) c.in_ok-database.database c.args.statement.now c.in_ok-database.ensures.logs c.requires.rows c.requires.open refl (c.arrive.ensures.session ∙ ap (λ (y : SnapshotState). y.state.session) c.log_sharing.ensures.state))

pub returns-in-Ok-clause-stops : goal.returns-in-Ok-clause-stops
returns-in-Ok-clause-stops g c =
    let n = c.keep in
    or_err n.result (own_stop c.args.turn.now c.args.self.now c.log_sharing.new.self n.new.self c.in_ok-database.database c.args.statement.now c.in_ok-database.ensures.logs c.requires.rows c.requires.open n.ensures.same (n.ensures.session ∙ (c.arrive.ensures.session ∙ ap (λ (y : SnapshotState). y.state.session) c.log_sharing.ensures.state)))

pub returns-in-Err-Other-clause-stops : goal.returns-in-Err-Other-clause-stops
returns-in-Err-Other-clause-stops g c =
    or_err c.error_reply.result (own_stop c.args.turn.now c.args.self.now c.log_sharing.new.self (record c.log_sharing.new.self { state = c.arrive.new.state }) c.in_ok-database.database c.args.statement.now c.in_ok-database.ensures.logs c.requires.rows c.requires.open refl (c.arrive.ensures.session ∙ ap (λ (y : SnapshotState). y.state.session) c.log_sharing.ensures.state))

pub returns-clause-stops : goal.returns-clause-stops
returns-clause-stops g c =
    own_stop c.args.turn.now c.args.self.now c.log_sharing.new.self (record c.log_sharing.new.self { state = c.arrive.new.state }) c.in_ok-database.database c.args.statement.now c.in_ok-database.ensures.logs c.requires.rows c.requires.open refl (c.arrive.ensures.session ∙ ap (λ (y : SnapshotState). y.state.session) c.log_sharing.ensures.state)

pub returns-in_err-database-clause-stops : goal.returns-in_err-database-clause-stops
returns-in_err-database-clause-stops g c =
    let old = c.args.self.now in
    or_err _ (stops_without c.args.turn.now old c.log_sharing.new.self (IsGivenBy (rows_given (next_who old) old.state.state c.args.statement.now)) c.in_err-database.ensures.stops)
