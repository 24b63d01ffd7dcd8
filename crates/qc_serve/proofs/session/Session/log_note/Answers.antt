use Rattle.std.proofs.Common.{◌≡◌, refl}
use Rattle.qc_model.specs.declared.events.Who.{Who}
use Rattle.qc_serve.specs.Notes.{noted}
use Rattle.qc_serve.proofs.Resting.{or_err, request_logs, request_stops}
use Rattle.qc_serve.proofs.session.Session.log_note.Goals as goal

pub returns-clause-logs : goal.returns-clause-logs
returns-clause-logs g c =
    let old = c.args.self.now in
    let n = c.hold in
    let ok = c.in_ok-place in
    request_logs c.args.turn.now old c.put_line.new.self old.state n.new.seat c.session-session.result ok.place n.result (λ (w : Who) journal e. e ≡ noted c.args.note w) c.session-session.ensures n.ensures.turns ok.ensures.gives c.put_line.ensures.same c.put_line.ensures.lines

pub returns-in_err-place-clause-stops : goal.returns-in_err-place-clause-stops
returns-in_err-place-clause-stops g c =
    let old = c.args.self.now in
    let n = c.hold in
    or_err _ (request_stops c.args.turn.now old (record old { seat = n.new.seat }) c.session-session.result n.result c.session-session.ensures n.ensures.turns c.in_err-place.ensures.none refl refl refl)
