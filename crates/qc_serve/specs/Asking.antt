-- A session asks the cache, and decides a SELECT.
use Rattle.std.specs.Prelude.{◌≡◌, ℕ, ◌+◌, ◌*◌, ◌^◌, ◌<◌, ◌≤◌, ◌&&◌, ◌||◌, Bool, not, is_none, is_some, if◌then◌else◌, true, false, List, [], ◌∷◌, ◌++◌, length, take, Option, Some, None, option_map, slice_index, IfSome, MatchOption}
use Rattle.std.specs.List.{list_all}
use Rattle.qc_types.specs.declared.options.Options.{Options}
use Rattle.qc_sql.specs.declared.session.Asked.{Asked}
use Rattle.qc_sql.specs.declared.statements.Select.{Select}
use Rattle.qc_sql.specs.Database.{Database}
use Rattle.qc_sql.specs.Rules.{select_tables}
use Rattle.qc_model.specs.declared.events.Event.{Event}
use Rattle.qc_model.specs.declared.events.Event.TheVariants as event
use Rattle.qc_model.specs.declared.events.How.TheVariants as how
use Rattle.qc_model.specs.Cache.{is_prune}
use Rattle.qc_model.specs.Choice.{Allows, answering}
use Rattle.qc_model.specs.Journal.{Journal, present}
use Rattle.qc_model.specs.Licence.{IsLawful}
use Rattle.qc_model.specs.Needs.{HasOwnNeeds}
use Rattle.qc_model.specs.Session.{State, answer, snapshot_of}
use Rattle.qc_laws.specs.history.Answers.{CanBeKeyed}
use Rattle.qc_trx.specs.SnapshotStates.{SnapshotState}
use Rattle.qc_turn.specs.Bytes.{bytes_of}
use Rattle.qc_turn.specs.declared.seat.Seat.{Seat}
use Rattle.qc_turn.specs.declared.task.Task.{Task}
use Rattle.qc_turn.specs.declared.task.Task.TheVariants as task
use Rattle.qc_turn.specs.declared.turn.Turn.{Turn}
use Rattle.qc_turn.specs.Seats.{Held, holder, view}
use Rattle.qc_turn.specs.Words.{word_seats}
use Rattle.qc_core.specs.contracts.server.ServerKept.TheImpl.{ghosts}
use Rattle.qc_core.specs.declared.hit_stream.Hit.{Hit}
use Rattle.qc_core.specs.declared.server_state.ServerState.{ServerState}
use Rattle.qc_flow.specs.declared.fills.Fill.{Fill}
use Rattle.qc_flow.specs.declared.streams.Stream.{Stream}
use Rattle.qc_flow.specs.Fills.{IsFillOf, limit_of}
use Rattle.qc_flow.specs.Hits.{HasHit}
use Rattle.qc_flow.specs.Streams.{IsStreamOf}
use Rattle.qc_select.specs.declared.selected.Selected.{Selected}
use Rattle.qc_select.specs.declared.selected.Selected.TheVariants as selected
use Rattle.qc_select.specs.Selects.{HasPlan, IsOfText, given, how_of, place_of}
use Rattle.qc_select.specs.Settled.{state_at}
use Rattle.qc_statements.specs.Sound.{IsFitState, IsPast}
use Rattle.qc_serve.specs.Ends.{Makes}
use Rattle.qc_serve.specs.Going.{as_fixed}
use Rattle.qc_serve.specs.Holding.{Standing, TurnsTo}
use Rattle.qc_serve.specs.Seats.{Decides, GoesOn, IsIdle, RestsAgain, SeatRests, next_of}
use Rattle.qc_serve.specs.declared.lookup.Found.{Found}
use Rattle.qc_serve.specs.declared.decision.Decision.{Decision}

-- ---- the seat

-- it rests, and its ranges have room for a chain
pub record MayAskAt (t : Turn ServerState Event) (session : ℕ) (s : Seat ServerState Event ghosts) : Type 0 where
  pub rests : SeatRests t session s
  pub room : slice_index (view s).fixed 0 ≤ 512 * s.ranges.room

-- nothing was found or done: it rests again, and has only seen what others did
pub record LooksOn (t : Turn ServerState Event) (session : ℕ) (old new : Seat ServerState Event ghosts) : Type 0 where
  pub again : RestsAgain t session old new
  pub goes_on : GoesOn session (view old).seen (view new).seen

-- it streams a hit, whose bytes are what the key answers
pub record Streams (key : List ℕ) (hit : Hit) (s : Seat ServerState Event ghosts) : Type 0 where
  pub streams : (x : Stream) → x.serial ≡ hit.serial → x.bytes ≡ hit.bytes → IsStreamOf x (view s)
  pub answered : answer key (present (view s).seen) ≡ Some (take hit.bytes (bytes_of (view s).content))

-- it fills an entry, of which nothing is stored
pub record BeginsFill (serial : ℕ) (s : Seat ServerState Event ghosts) : Type 0 where
  pub fills : (f : Fill) → f.serial ≡ serial → f.limit ≡ limit_of (view s) → f.bytes ≡ 0 → IsFillOf f s
  pub empty : (view s).content ≡ []

-- ---- under the turn

-- the turn was just taken by a session that asks the cache
pub record IsAsking (session : ℕ) (h : Held ServerState Event ghosts) : Type 0 where
  pub idle : IsIdle session h
  pub rested : (holder h).task ≡ task.Rest
  pub known : (holder h).fixed ≡ ghosts.fixed h.value
  pub few : (holder h).number ≤ word_seats
  pub room : h.value.options.size ≤ 512 * h.ranges.room

-- ---- a hit is looked for

-- what a session asks that looks for one: it is the one of this state, and its ranges have room for a chain
pub record LookAsks (state : State) (s : Standing) : Type 0 where
  pub session : state.session ≡ s.session
  pub room : slice_index s.fixed 0 ≤ 512 * s.room

-- the task of a seat that has looked for one
abbrev pub task_found : Option Found → Task
task_found (Some found) = task.Stream found.hit.serial
task_found None = task.Rest

-- whether a reading of rows takes a snapshot: a transaction is open, or opens by itself, and has none
abbrev pub takes_snapshot : State → Bool
takes_snapshot state = (is_some state.transaction || not state.autocommit) && is_none (snapshot_of state)

-- what is given is the database that the journal makes where a snapshot is taken of it, and nothing else
pub record Shares (journal : Journal) (state : State) (given : Option Database) : Type 0 where
  pub database : Database
  pub makes : Makes journal database
  pub share : given ≡ (if takes_snapshot state then Some database else None)

-- the event is a hit of the entry that answers the key, by the journal before it, of which the session is given what it takes a snapshot of
abbrev pub HitsBy : ℕ → Journal → List ℕ → State → Found → Journal → Event → Type 0
HitsBy session seen key state found journal e =
    (e ≡ event.Run (next_of session seen) (how.Hit found.hit.serial)) × Shares journal state found.database × (option_map (λ entry. entry.serial) (answering state journal key) ≡ Some found.hit.serial)

-- where it was found
pub record FindsHit (s : Standing) (key : List ℕ) (state : State) (now : Journal) (found : Found) : Type 0 where
  pub place : found.hit.place ≡ length now
  pub decides : Decides s.session s.seen now (HitsBy s.session s.seen key state found)

-- what is so of the journal then, and of the holding that is given back
abbrev pub LookGives : Standing → List ℕ → State → Option Found → Journal → Type 0
LookGives s key state o now = MatchOption o (GoesOn s.session s.seen now) (FindsHit s key state now)

abbrev pub LookKeeps : List ℕ → Option Found → Held ServerState Event ghosts → Type 0
LookKeeps key o k = IfSome o (λ found. HasHit k found.hit.serial key × (found.hit.bytes ≡ k.ranges.bytes))

pub record StreamsHit (t : Turn ServerState Event) (key : List ℕ) (state : State) (old new : Seat ServerState Event ghosts) (found : Found) : Type 0 where
  pub turns : TurnsTo t state.session (task.Stream found.hit.serial) old new
  pub streams : Streams key found.hit new
  pub place : found.hit.place ≡ length (view new).seen
  pub decides : Decides state.session (view old).seen (view new).seen (HitsBy state.session (view old).seen key state found)

-- ---- a select is decided

-- the state of a session in which a select has arrived
pub record MaySelect (seen : Journal) (x : SnapshotState) : Type 0 where
  pub keyed : CanBeKeyed x.state
  pub fit : IsFitState seen x
  pub past : IsPast seen (snapshot_of x.state)

-- the task of a seat after a select was decided
abbrev pub task_of : Selected → Task
task_of (selected.Hit hit) = task.Stream hit.serial
task_of (selected.Start serial place plan) = task.Fill serial
task_of (selected.Plain why place plan) = task.Rest

abbrev pub task_decided : Decision → Task
task_decided d = task_of d.selected

-- what a session asks that decides one: it is the one of this state, in which the select has arrived, with its key and its text, and its ranges have room for a chain
pub record DecideAsks (key : List ℕ) (select : Select) (asked : Asked) (x : SnapshotState) (s : Standing) : Type 0 where
  pub session : x.state.session ≡ s.session
  pub room : slice_index s.fixed 0 ≤ 512 * s.room
  pub text : (text : List ℕ) × IsOfText x.state key select asked text × (length text < 2 ^ 32)
  pub may : MaySelect s.seen x

-- What was decided: the journal went on by what others did, some entries were pruned, then came the one event of the select, which is allowed at its place, in
-- the state in which the select is validated, and has needs of its own. The plan is that of the database which the session sees there.
pub record IsDecided (session : ℕ) (o : Options) (text key : List ℕ) (select : Select) (state : State) (seen now : Journal) (x : Selected) (d : Database) : Type 0 where
  pub journal : Journal
  pub goes_on : GoesOn session seen journal
  pub makes : Makes journal d
  pub prunes : Journal
  pub only : list_all is_prune prunes ≡ true
  pub events : now ≡ journal ++ (prunes ++ event.Run (next_of session seen) (how_of key (select_tables state.db select) x) ∷ [])
  pub lawful : IsLawful o now
  pub place : place_of x ≡ length now
  pub allowed : Allows o (state_at journal (place_of x) select state) text select (journal ++ prunes) (how_of key (select_tables state.db select) x)
  pub needs : HasOwnNeeds o (journal ++ prunes) key (event.Run (next_of session seen) (how_of key (select_tables state.db select) x))
  pub plan : HasPlan (given (state_at journal (place_of x) select state) (journal ++ prunes) select) x

abbrev pub HasHeld : List ℕ → Held ServerState Event ghosts → Selected → Type 0
HasHeld key k (selected.Hit hit) = HasHit k hit.serial key × (hit.bytes ≡ k.ranges.bytes)
HasHeld key k x = Unit {0}

pub record SelectsHeld (text key : List ℕ) (select : Select) (state : State) (h k : Held ServerState Event ghosts) (x : Selected) (d : Database) : Type 0 where
  pub has : HasHeld key k x
  pub decided : IsDecided state.session h.value.options text key select state (holder h).seen k.value.journal.events x d

-- what is so of the journal then, whatever the text, and of the holding that is given back
abbrev pub DecideGives : List ℕ → Select → Asked → State → Standing → Decision → Journal → Type 0
DecideGives key select asked state s d now =
    (text : List ℕ) → IsOfText state key select asked text → (o : Options) → s.fixed ≡ as_fixed o → IsDecided state.session o text key select state s.seen now d.selected d.database

pub record DecideKeeps (key : List ℕ) (d : Decision) (k : Held ServerState Event ghosts) : Type 0 where
  pub has : HasHeld key k d.selected
  pub known : (holder k).fixed ≡ ghosts.fixed k.value
  pub room : k.value.options.size ≤ 512 * k.ranges.room

-- what the seat then does
abbrev pub GoesOnWith : List ℕ → Seat ServerState Event ghosts → Selected → Type 0
GoesOnWith key s (selected.Hit hit) = Streams key hit s
GoesOnWith key s (selected.Start serial place plan) = BeginsFill serial s
GoesOnWith key s (selected.Plain why place plan) = Unit {0}

pub record Selects (t : Turn ServerState Event) (text key : List ℕ) (select : Select) (state : State) (old new : Seat ServerState Event ghosts) (x : Selected) (d : Database) : Type 0 where
  pub turns : TurnsTo t state.session (task_of x) old new
  pub goes : GoesOnWith key new x
  pub decided : (o : Options) → (view old).fixed ≡ as_fixed o → IsDecided state.session o text key select state (view old).seen (view new).seen x d
