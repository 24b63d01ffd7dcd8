use Rattle.std.proofs.Common.{refl, ap}
use Rattle.qc_serve.specs.declared.session.Session.{Session}
use Rattle.qc_model.specs.declared.events.Who.{Who}
use Rattle.qc_serve.specs.Ends.{RowsAs}
use Rattle.qc_serve.specs.Going.{next_who}
use Rattle.qc_serve.proofs.Meeting.{rows_fits, rows_out, rows_stop}
use Rattle.qc_serve.proofs.Resting.{request_stops, or_err, request_logs}
use Rattle.qc_serve.proofs.session.Session.change_rows_alone.Goals as goal

pub returns-in_err-place-clause-stops : goal.returns-in_err-place-clause-stops
returns-in_err-place-clause-stops g c =
    let old = c.args.self.now in
    let n = c.hold in
    or_err _ (request_stops c.args.turn.now old (record old { seat = n.new.seat }) c.session-session.result n.result c.session-session.ensures n.ensures.turns c.in_err-place.ensures.none refl refl refl)

pub rows_reply-requires : goal.rows_reply-requires
rows_reply-requires g c =
    let t = c.args.turn.now in
    let old = c.args.self.now in
    let s = c.args.statement.now in
    let n = c.hold in
    let ok = c.in_ok-place in
    let m = c.put_line in
    let logs = request_logs t old m.new.self old.state n.new.seat c.session-session.result ok.place n.result (λ (w : Who) journal e. RowsAs w old.state.state s journal e ok.end) c.session-session.ensures n.ensures.turns ok.ensures.gives m.ensures.same m.ensures.lines in
    rows_fits t old m.new.self s ok.end logs

pub returns-clause-gives : goal.returns-clause-gives
returns-clause-gives g c =
    let t = c.args.turn.now in
    let old = c.args.self.now in
    let s = c.args.statement.now in
    let n = c.hold in
    let ok = c.in_ok-place in
    let m = c.put_line in
    let logs = request_logs t old m.new.self old.state n.new.seat c.session-session.result ok.place n.result (λ (w : Who) journal e. RowsAs w old.state.state s journal e ok.end) c.session-session.ensures n.ensures.turns ok.ensures.gives m.ensures.same m.ensures.lines in
    rows_out t old m.new.self s ok.end c.rows_reply.result logs c.requires.rest.rest (ap (λ (y : Session). y.state) m.ensures.same) c.requires.rows c.requires.closed c.requires.autocommit c.rows_reply.ensures

pub returns-clause-stops : goal.returns-clause-stops
returns-clause-stops g c =
    let t = c.args.turn.now in
    let old = c.args.self.now in
    let s = c.args.statement.now in
    let n = c.hold in
    let ok = c.in_ok-place in
    let m = c.put_line in
    let logs = request_logs t old m.new.self old.state n.new.seat c.session-session.result ok.place n.result (λ (w : Who) journal e. RowsAs w old.state.state s journal e ok.end) c.session-session.ensures n.ensures.turns ok.ensures.gives m.ensures.same m.ensures.lines in
    or_err c.rows_reply.result (rows_stop t old m.new.self s ok.end logs (ap (λ (y : Session). y.state) m.ensures.same) c.requires.rows c.requires.closed c.requires.autocommit)
