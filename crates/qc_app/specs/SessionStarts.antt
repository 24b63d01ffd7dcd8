-- Seats are split off, and sessions begin.
use Rattle.std.specs.Prelude.{◌≡◌, ℕ, ◌+◌, List, [], length, take, None}
use Rattle.std.specs.List.{AllZip}
use Rattle.qc_types.specs.declared.options.Options.{Options}
use Rattle.qc_model.specs.declared.events.Event.{Event}
use Rattle.qc_model.specs.Agrees.{inputs_from}
use Rattle.qc_model.specs.Journal.{Journal}
use Rattle.qc_model.specs.Session.{starting}
use Rattle.qc_laws.specs.runs.Runs.{StartsWith, own}
use Rattle.qc_turn.specs.declared.seat.Seat.{Seat}
use Rattle.qc_turn.specs.declared.turn.Turn.{Turn}
use Rattle.qc_turn.specs.Seats.{IsSeatOf, view}
use Rattle.qc_core.specs.contracts.server.ServerKept.TheImpl.{ghosts}
use Rattle.qc_core.specs.declared.server_state.ServerState.{ServerState}
use Rattle.qc_serve.specs.declared.connecting.NotConnected.{NotConnected}
use Rattle.qc_serve.specs.declared.connecting.NotConnected.TheVariants as refusal
use Rattle.qc_serve.specs.Going.{IsAtRest, as_fixed, number_of, seen_by}
use Rattle.qc_app.specs.declared.sessions.Slot.{Slot}

-- the first seat
pub record IsFirst (t : Turn ServerState Event) (s : Seat ServerState Event ghosts) : Type 0 where
  pub seated : IsSeatOf t s
  pub number : (view s).number ≡ 1

-- the first seat, of which so many were split off, under these options
pub record HasSplit (t : Turn ServerState Event) (o : Options) (s : Seat ServerState Event ghosts) (count : ℕ) : Type 0 where
  pub first : IsFirst t s
  pub fixed : (view s).fixed ≡ as_fixed o
  pub registry : length (view s).registry ≡ count
  pub made : s.made ≡ count + 1

-- a session has begun, of this number and with this input, and has seen what the first seat had seen
pub record IsOpen (t : Turn ServerState Event) (o : Options) (first : Journal) (i : ℕ × List ℕ) (s : Slot) : Type 0 where
  pub rest : IsAtRest t s.session
  pub going : s.session.end ≡ None
  pub number : number_of s.session ≡ i.0
  pub input : s.input ≡ i.1
  pub options : s.session.options ≡ o
  pub state : s.session.state.state ≡ starting (number_of s.session) o.kind
  pub place : s.session.place ≡ 0
  pub log : s.session.log.lines ≡ []
  pub lines : s.lines ≡ []
  pub ending : s.ending ≡ None
  pub alone : (view s.session.seat).registry ≡ []
  pub begins : StartsWith (seen_by s.session) first
  pub none : own (number_of s.session) (seen_by s.session) ≡ []

-- the sessions of the inputs in front have begun, numbered from 1
abbrev pub AreOpen : Turn ServerState Event → Options → Journal → List (List ℕ) → List Slot → Type 0
AreOpen t o first inputs slots = AllZip (IsOpen t o first) (inputs_from 1 (take (length slots) inputs)) slots

-- the seat that a refusal hands back
abbrev pub handed_back : NotConnected → Seat ServerState Event ghosts
handed_back (refusal.Memory s) = s
handed_back (refusal.Refused s e) = s

-- so many of the inputs have their sessions
pub record IsOpening (t : Turn ServerState Event) (o : Options) (old now : Seat ServerState Event ghosts) (inputs : List (List ℕ)) (slots : List Slot) (n : ℕ) : Type 0 where
  pub split : HasSplit t o now n
  pub events : (view now).events ≡ (view old).events
  pub seen : (view now).seen ≡ (view old).seen
  pub count : length slots ≡ n
  pub opened : AllZip (IsOpen t o (view old).seen) (inputs_from 1 (take n inputs)) slots
