-- A session on a seat, from its beginning to its end.
use Rattle.std.proofs.Common.{◌≡◌, ℕ, List, Option, Some, None, sym, ap, ◌∙◌, true≢false}
use Rattle.std.specs.Prelude.{IfSome, IsSome}
use Rattle.qc_types.specs.declared.options.Options.{Options}
use Rattle.qc_model.specs.declared.events.Event.{Event}
use Rattle.qc_turn.specs.declared.seat.Seat.{Seat}
use Rattle.qc_turn.specs.declared.turn.Turn.{Turn}
use Rattle.qc_turn.specs.Seats.{view}
use Rattle.qc_core.specs.contracts.server.ServerKept.TheImpl.{ghosts}
use Rattle.qc_core.specs.declared.server_state.ServerState.{ServerState}
use Rattle.qc_serve.specs.declared.ending.End.{End}
use Rattle.qc_serve.specs.declared.session.Session.{Session}
use Rattle.qc_serve.specs.declared.sinks.Piece.{Piece}
use Rattle.qc_serve.specs.Connecting.{HasBegun, MayConnect}
use Rattle.qc_serve.specs.Going.{as_fixed}
use Rattle.qc_serve.specs.Served.{IsServed}

-- the seat of one that was served to its end may connect again
pub visited : (t : Turn ServerState Event) (o : Options) (seat : Seat ServerState Event ghosts) (old new : Session) (input : Option (List ℕ)) (held out : Option (List Piece)) (end : Option End) → HasBegun t o seat old → IfSome end (IsServed t old new input held out) × IsSome end → MayConnect t o new.seat × ((view new.seat).number ≡ (view seat).number)
visited t o seat old new input held out None begun s = absurd (true≢false (sym s.1))
visited t o seat old new input held out (Some e) begun s =
    let d = s.0 in (
      record { apart = d.left.apart; fixed = ap (λ p. p.0) d.standing ∙ (begun.rest.options ∙ ap as_fixed begun.same_options) },
      d.left.number ∙ begun.number,
    )
