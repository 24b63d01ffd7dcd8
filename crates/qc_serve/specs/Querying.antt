-- A session answers a query.
use Rattle.std.specs.List.{concat}
use Rattle.std.specs.Prelude.{◌≡◌, ℕ, Bool, true, false, List, [], ◌∷◌, ◌++◌, map, take, Option, Some, None, Ok, Err, if◌then◌else◌}
use Rattle.qc_sql.specs.declared.replies.Reply.TheVariants as reply
use Rattle.qc_sql.specs.declared.session.Flags.{Flags}
use Rattle.qc_sql.specs.declared.statements.Select.{Select}
use Rattle.qc_sql.specs.declared.statements.Statement.TheVariants as statement
use Rattle.qc_sql.specs.Database.{Database}
use Rattle.qc_sql.specs.Packets.{packet_list, packets}
use Rattle.qc_sql.specs.Rows.{text_of}
use Rattle.qc_model.specs.declared.events.Event.{Event}
use Rattle.qc_model.specs.declared.reports.Word.{Word}
use Rattle.qc_model.specs.declared.reports.Word.TheVariants as word
use Rattle.qc_model.specs.Journal.{present}
use Rattle.qc_model.specs.Machine.{refused}
use Rattle.qc_model.specs.Session.{answer_packets, flags_of, key_of_text, status_of, uses_rows}
use Rattle.qc_laws.specs.history.Answers.{CanBeKeyed}
use Rattle.qc_laws.specs.history.Runs.{IsStarted}
use Rattle.qc_laws.specs.sizes.Replies.{FitsError, FitsRows}
use Rattle.qc_trx.specs.SnapshotStates.{SnapshotState, after_arrival, after_sight}
use Rattle.qc_eval.specs.Plans.{PlanView}
use Rattle.qc_turn.specs.declared.seat.Seat.{Seat}
use Rattle.qc_turn.specs.declared.task.Task.TheVariants as task
use Rattle.qc_turn.specs.declared.turn.Turn.{Turn}
use Rattle.qc_turn.specs.Bytes.{bytes_of}
use Rattle.qc_turn.specs.Seats.{view}
use Rattle.qc_core.specs.contracts.server.ServerKept.TheImpl.{ghosts}
use Rattle.qc_core.specs.declared.server_state.ServerState.{ServerState}
use Rattle.qc_flow.specs.Seats as flow
use Rattle.qc_flow.specs.declared.streams.Stream.{Stream}
use Rattle.qc_flow.specs.Streams.{IsStreamOf}
use Rattle.qc_select.specs.declared.selected.Selected.{Selected}
use Rattle.qc_select.specs.declared.selected.Selected.TheVariants as selected
use Rattle.qc_select.specs.Selects.{place_of}
use Rattle.qc_statements.specs.Selects.{arrived_at, is_asked_for}
use Rattle.qc_serve.specs.declared.lookup.Found.{Found}
use Rattle.qc_serve.specs.declared.session.Session.{Session}
use Rattle.qc_serve.specs.Asking.{BeginsFill, LooksOn, Selects, StreamsHit}
use Rattle.qc_serve.specs.Holding.{HasTask}
use Rattle.qc_serve.specs.Going.{as_fixed, number_of}
use Rattle.qc_serve.specs.Logs.{logged}
use Rattle.qc_serve.specs.Seats.{GoesOn, SeatRests}

-- ---- a hit is looked for

-- nothing was found: the session has only seen what others did
pub record LooksAgain (t : Turn ServerState Event) (old new : Session) : Type 0 where
  pub seat : LooksOn t (number_of old) old.seat new.seat
  pub same : new ≡ record old { seat = new.seat }

-- the state that has seen what it was given a share of
abbrev pub seen_with : ℕ → Option Database → SnapshotState → SnapshotState
seen_with place None x = x
seen_with place (Some d) x = after_sight place d x

-- The cache is asked for the text, and has an entry under its key, in the state in which a select that names a table arrives at any place.
pub record HasFound (t : Turn ServerState Event) (text : List ℕ) (old new : Session) (found : Found) : Type 0 where
  pub asked : is_asked_for old.options old.state.state text ≡ true
  pub key : List ℕ
  pub key_is : (place : ℕ) → key ≡ key_of_text (arrived_at place old.state.state) text
  pub keyed : (place : ℕ) → CanBeKeyed (arrived_at place old.state.state)
  pub streams : StreamsHit t key old.state.state old.seat new.seat found
  pub same : new ≡ record old { seat = new.seat }

-- ---- a select is decided

abbrev pub word_of_selected : Selected → Word
word_of_selected (selected.Hit hit) = word.Hit
word_of_selected (selected.Start serial place plan) = word.Start
word_of_selected (selected.Plain why place plan) = word.Plain

-- the state in which a select has arrived
abbrev pub arrives : Select → SnapshotState → SnapshotState
arrives select x = if uses_rows (statement.Select select) then after_arrival x else x

-- the state in which it has seen the database at the place of its event
abbrev pub sees_at : Select → ℕ → Database → SnapshotState → SnapshotState
sees_at select place d x = if uses_rows (statement.Select select) then after_sight place d x else x

-- and the one after its event
abbrev pub arrives_at : Select → ℕ → Database → SnapshotState → SnapshotState
arrives_at select place d x = sees_at select place d (arrives select x)

-- its event came, with its line
pub record HasDecided (t : Turn ServerState Event) (text : List ℕ) (select : Select) (old new : Session) (x : Selected) : Type 0 where
  pub key : List ℕ
  pub key_is : key ≡ key_of_text (arrives select old.state).state text
  pub keyed : CanBeKeyed (arrives select old.state).state
  pub database : Database
  pub selects : Selects t text key select (arrives select old.state).state old.seat new.seat x database
  pub state : new.state ≡ arrives_at select (place_of x) database old.state
  pub lines : new.log.lines ≡ old.log.lines ++ logged (place_of x) (word_of_selected x) ∷ []
  pub same : new ≡ record old { seat = new.seat; state = new.state; log = new.log; place = place_of x }

-- memory lacked: no event came
pub record LacksMemory (t : Turn ServerState Event) (old new : Session) : Type 0 where
  pub seat : LooksOn t (number_of old) old.seat new.seat
  pub session : number_of new ≡ number_of old
  pub same : new ≡ record old { seat = new.seat; state = new.state }

-- ---- its reply goes out

-- the seat has ended its stream, and knows what it knew
pub record EndsStream (t : Turn ServerState Event) (session : ℕ) (old new : Seat ServerState Event ghosts) : Type 0 where
  pub rests : SeatRests t session new
  pub seen : (view new).seen ≡ (view old).seen
  pub fixed : (view new).fixed ≡ (view old).fixed
  pub registry : (view new).registry ≡ (view old).registry
  pub room : new.ranges.room ≡ old.ranges.room

-- the seat has ended its fill, and may have seen more
pub record EndsFill (t : Turn ServerState Event) (session : ℕ) (old new : Seat ServerState Event ghosts) : Type 0 where
  pub rests : SeatRests t session new
  pub goes_on : flow.GoesOn (view old) (view new)
  pub room : new.ranges.room ≡ old.ranges.room

-- a plan that isn't loaded, whose rows fit packets
pub record IsPlanned (p : PlanView) : Type 0 where
  pub flags : Flags
  pub fits : FitsRows flags (record { columns = p.columns; rows = p.rows })

-- the packets of its columns and of all its rows
abbrev pub plan_packets : PlanView → ℕ → List (List ℕ)
plan_packets p status = packet_list (reply.Rows p.columns (map (map text_of) p.rows) status)

-- the seat begins to fill an entry whose answer these packets are
pub record FillsWith (t : Turn ServerState Event) (session serial : ℕ) (packets : List (List ℕ)) (s : Seat ServerState Event ghosts) : Type 0 where
  pub has : HasTask t session (task.Fill serial) s
  pub begins : BeginsFill serial s
  pub start : IsStarted (view s).seen serial
  pub answered : answer_packets start.key (present start.earlier) ≡ Some packets

-- ---- what was decided goes out

abbrev pub is_hit : Selected → Bool
is_hit (selected.Hit hit) = true
is_hit x = false

-- the bytes of its reply: those of the hit, of the plan's packets, or of the error
abbrev pub bytes_for : Session → Selected → List ℕ
bytes_for s (selected.Hit hit) = take hit.bytes (bytes_of (view s.seat).content)
bytes_for s (selected.Start serial place plan) = concat (plan_packets plan (status_of (flags_of s.state.state)))
bytes_for s (selected.Plain why place (Ok plan)) = concat (plan_packets plan (status_of (flags_of s.state.state)))
bytes_for s (selected.Plain why place (Err e)) = packets (refused e)

-- the seat streams the hit, or fills the entry with the plan's packets, or rests
abbrev pub MaySend : Turn ServerState Event → Session → Selected → Type 0
MaySend t s (selected.Hit hit) = HasTask t (number_of s) (task.Stream hit.serial) s.seat × ((x : Stream) → x.serial ≡ hit.serial → x.bytes ≡ hit.bytes → IsStreamOf x (view s.seat))
MaySend t s (selected.Start serial place plan) = FillsWith t (number_of s) serial (plan_packets plan (status_of (flags_of s.state.state))) s.seat × IsPlanned plan × ((view s.seat).fixed ≡ as_fixed s.options)
MaySend t s (selected.Plain why place (Ok plan)) = SeatRests t (number_of s) s.seat × IsPlanned plan
MaySend t s (selected.Plain why place (Err e)) = SeatRests t (number_of s) s.seat × FitsError e

-- the seat rests, and may have seen more, but no events of its own
pub record EndsWith (t : Turn ServerState Event) (session : ℕ) (old new : Seat ServerState Event ghosts) : Type 0 where
  pub rests : SeatRests t session new
  pub goes_on : GoesOn session (view old).seen (view new).seen
  pub fixed : (view new).fixed ≡ (view old).fixed
  pub registry : (view new).registry ≡ (view old).registry
  pub room : new.ranges.room ≡ old.ranges.room

-- a fill that was begun has ended
abbrev pub HasEndedFill : Seat ServerState Event ghosts → Selected → Type 0
HasEndedFill s (selected.Start serial place plan) = flow.HasEnded serial (view s)
HasEndedFill s x = Unit {0}
