use Rattle.std.proofs.Common.{◌+◌, length, sym, subst}
use Rattle.qc_turn.specs.Seats.{view}
use Rattle.qc_app.specs.declared.sessions.Slot.{Slot}
use Rattle.qc_app.specs.SessionStarts.{IsOpen}
use Rattle.qc_app.proofs.Opening.{next_open}
use Rattle.qc_app.proofs.session_starts.open.Goals as goal

pub returns-in-Ok-clause-opens : goal.returns-in-Ok-clause-opens
returns-in-Ok-clause-opens g c =
    subst (λ (s : Slot). IsOpen c.args.turn.now c.args.options.now (view c.args.first.now).seen (length (view c.args.first.now).registry + 1, c.args.input) s) (sym c.new.ensures)
    (next_open c.args.turn.now c.args.options.now c.args.first.now c.in_ok-seat.seat c.in-Ok.session c.args.input c.in-Ok.ensures.begins c.in_ok-seat.ensures.next.1)
