use Rattle.std.proofs.Common.{◌≡◌, List, ℕ, refl, ap}
use Rattle.qc_sql.specs.Packets.{packets}
use Rattle.qc_model.specs.Machine.{status_reply}
use Rattle.qc_model.specs.declared.events.Who.{Who}
use Rattle.qc_types.specs.declared.totals.Totals.{Totals}
use Rattle.qc_statements.proofs.Calls.{if_ok}
use Rattle.qc_serve.specs.declared.session.Session.{Session}
use Rattle.qc_serve.specs.Going.{GivesOut, next_who, status_given}
use Rattle.qc_serve.proofs.Meeting.{IsStatus, status_gives, status_stop}
use Rattle.qc_serve.proofs.Resting.{request_stops, or_err, request_logs}
use Rattle.qc_serve.proofs.session.Session.show_status.Goals as goal

pub returns-in_err-told-clause-stops : goal.returns-in_err-told-clause-stops
returns-in_err-told-clause-stops g c =
    let old = c.args.self.now in
    let n = c.hold in
    or_err _ (request_stops c.args.turn.now old (record old { seat = n.new.seat }) c.session-session.result n.result c.session-session.ensures n.ensures.turns c.in_err-told.ensures.none refl refl refl)

pub returns-clause-gives : goal.returns-clause-gives
returns-clause-gives g c =
    let t = c.args.turn.now in
    let old = c.args.self.now in
    let n = c.hold in
    let ok = c.in_ok-told in
    let m = c.put_line in
    let r = c.status_reply in
    let logs = request_logs t old m.new.self old.state n.new.seat c.session-session.result ok.told.place n.result (λ (w : Who). IsStatus w ok.told.totals ok.told.counters) c.session-session.ensures n.ensures.turns ok.ensures.gives m.ensures.same m.ensures.lines in
    if_ok (λ (bytes : List ℕ). bytes ≡ packets (status_reply m.new.self.state.state ok.told.counters ok.told.totals)) (λ (bytes : List ℕ). (x : Totals) × GivesOut t old m.new.self bytes (status_given (next_who old) old.state.state x))
    (λ bytes h. (ok.told.totals, status_gives t old m.new.self bytes ok.told.totals ok.told.counters logs c.requires.rest (ap (λ (y : Session). y.state) m.ensures.same) h)) r.result r.ensures

pub returns-clause-stops : goal.returns-clause-stops
returns-clause-stops g c =
    let t = c.args.turn.now in
    let old = c.args.self.now in
    let n = c.hold in
    let ok = c.in_ok-told in
    let m = c.put_line in
    let logs = request_logs t old m.new.self old.state n.new.seat c.session-session.result ok.told.place n.result (λ (w : Who). IsStatus w ok.told.totals ok.told.counters) c.session-session.ensures n.ensures.turns ok.ensures.gives m.ensures.same m.ensures.lines in
    or_err c.status_reply.result (status_stop t old m.new.self ok.told.totals ok.told.counters logs (ap (λ (y : Session). y.state.state.session) m.ensures.same))
