-- How a session begins.
use Rattle.std.specs.Prelude.{◌≡◌, ◌+◌, ◌<◌, [], None}
use Rattle.qc_types.specs.declared.options.Options.{Options}
use Rattle.qc_sql.specs.Errors.{too_many_connections}
use Rattle.qc_model.specs.declared.events.Event.{Event}
use Rattle.qc_model.specs.Session.{starting}
use Rattle.qc_laws.specs.runs.Runs.{StartsWith}
use Rattle.qc_turn.specs.declared.seat.Seat.{Seat}
use Rattle.qc_turn.specs.declared.turn.Turn.{Turn}
use Rattle.qc_turn.specs.Seats.{view}
use Rattle.qc_turn.specs.Words.{word_seats}
use Rattle.qc_core.specs.contracts.server.ServerKept.TheImpl.{ghosts}
use Rattle.qc_core.specs.declared.server_state.ServerState.{ServerState}
use Rattle.qc_serve.specs.declared.connecting.NotConnected.{NotConnected}
use Rattle.qc_serve.specs.declared.connecting.NotConnected.TheVariants as refusal
use Rattle.qc_serve.specs.declared.session.Session.{Session}
use Rattle.qc_serve.specs.Going.{IsAtRest, as_fixed, number_of, seen_by}
use Rattle.qc_serve.specs.Leaving.{IsApart}

-- the seat may be connected under these options: they are the server's
pub record MayConnect (t : Turn ServerState Event) (options : Options) (s : Seat ServerState Event ghosts) : Type 0 where
  pub apart : IsApart t s
  pub fixed : (view s).fixed ≡ as_fixed options

-- the session of a seat has begun: it is in its first state, and has answered nothing
pub record HasBegun (t : Turn ServerState Event) (options : Options) (seat : Seat ServerState Event ghosts) (s : Session) : Type 0 where
  pub rest : IsAtRest t s
  pub number : number_of s + 1 ≡ (view seat).number
  pub same_options : s.options ≡ options
  pub state : s.state.state ≡ starting (number_of s) options.kind
  pub place : s.place ≡ 0
  pub lines : s.log.lines ≡ []
  pub going : s.end ≡ None
  -- it has seen all that its seat had seen, and no event of its own that its seat hadn't
  pub seen : StartsWith (seen_by s) (view seat).seen
  pub events : (view s.seat).events ≡ (view seat).events
  pub registry : (view s.seat).registry ≡ (view seat).registry

-- this seat is handed back, with the error that says why, or without one
abbrev pub GivesBack : Seat ServerState Event ghosts → NotConnected → Type 0
GivesBack seat (refusal.Memory s) = s ≡ seat
GivesBack seat (refusal.Refused s e) = (s ≡ seat) × (e ≡ too_many_connections)

-- the seat is handed back as it was; it is refused where its number is too large
abbrev pub HandsBack : Turn ServerState Event → Options → Seat ServerState Event ghosts → NotConnected → Type 0
HandsBack t options seat (refusal.Memory s) = MayConnect t options s × (view s ≡ view seat)
HandsBack t options seat (refusal.Refused s e) = MayConnect t options s × (view s ≡ view seat) × (word_seats < (view seat).number) × (e ≡ too_many_connections)
