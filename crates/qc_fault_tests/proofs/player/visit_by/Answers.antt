use Rattle.std.proofs.Common.{◌≡◌, sym, subst}
use Rattle.qc_model.specs.declared.events.Event.{Event}
use Rattle.qc_turn.specs.declared.seat.Seat.{Seat}
use Rattle.qc_turn.specs.Seats.{view}
use Rattle.qc_core.specs.contracts.server.ServerKept.TheImpl.{ghosts}
use Rattle.qc_core.specs.declared.server_state.ServerState.{ServerState}
use Rattle.qc_serve.specs.Connecting.{MayConnect}
use Rattle.qc_fault_tests.proofs.Sessions.{visited}
use Rattle.qc_fault_tests.proofs.player.visit_by.Goals as goal

pub returns : goal.returns
returns g c =
    let t = c.args.turn.now in
    let o = c.args.options.now in
    let begun = c.begin-session.result in
    let ended = c.serve-session.result in
    subst (λ (s : Seat ServerState Event ghosts). MayConnect t o s × ((view s).number ≡ (view c.args.seat).number)) (sym c.into_seat-seat.ensures.seat)
    (visited t o c.args.seat begun ended _ _ _ ended.end c.begin-session.ensures c.serve-session.ensures.served)
