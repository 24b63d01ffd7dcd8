-- A SELECT is decided under the lock.
use Rattle.std.specs.Prelude.{◌≡◌, ℕ, ◌*◌, ◌≤◌, true, not, ◌&&◌, ◌||◌, ◌==◌, List, [], ◌∷◌, ◌++◌, length, Option, Some, None, Result, Ok, Err, option_map, if◌then◌else◌}
use Rattle.std.specs.List.{list_all}
use Rattle.qc_types.specs.declared.names.TableName.{TableName}
use Rattle.qc_types.specs.declared.options.Options.{Options}
use Rattle.qc_types.specs.declared.sql_error.SqlError.{SqlError}
use Rattle.qc_sql.specs.declared.session.Asked.{Asked}
use Rattle.qc_sql.specs.declared.statements.Select.{Select}
use Rattle.qc_sql.specs.declared.statements.Statement.TheVariants as statement
use Rattle.qc_sql.specs.Grammar.{head_of, meaning, trimmed}
use Rattle.qc_sql.specs.Rows.{Rows, rows}
use Rattle.qc_sql.specs.Rules.{asks, select_tables, why_not}
use Rattle.qc_sql.specs.Words.{◌or_else◌, when}
use Rattle.qc_model.specs.declared.events.Who.{Who}
use Rattle.qc_model.specs.declared.events.Event.TheVariants as event
use Rattle.qc_model.specs.declared.events.How.{How}
use Rattle.qc_model.specs.declared.events.How.TheVariants as how
use Rattle.qc_model.specs.declared.events.Reason.{Reason}
use Rattle.qc_model.specs.declared.events.Reason.TheVariants as reason
use Rattle.qc_model.specs.Journal.{Journal}
use Rattle.qc_model.specs.Cache.{Entry, is_prune}
use Rattle.qc_model.specs.Choice.{Allows, answering, is_asked, refusal_reason, rival, unseen_reason}
use Rattle.qc_model.specs.Needs.{HasOwnNeeds}
use Rattle.qc_model.specs.Session.{State, base, flags_of, key_of_text, snapshot_of}
use Rattle.qc_laws.specs.history.Answers.{CanBeKeyed}
use Rattle.qc_laws.specs.history.Seen.{IsPlace}
use Rattle.qc_trx.specs.Endings.{StandsIn}
use Rattle.qc_trx.specs.SnapshotStates.{SnapshotState}
use Rattle.qc_eval.specs.Plans.{PlanView}
use Rattle.qc_chain.specs.Chains.{Ranged}
use Rattle.qc_chain.specs.Words.{words_of}
use Rattle.qc_turn.specs.declared.task.ListedTask.{ListedTask}
use Rattle.qc_turn.specs.declared.task.Task.TheVariants as task
use Rattle.qc_turn.specs.declared.view.FoundWord.{FoundWord}
use Rattle.qc_turn.specs.Tasks.{listed_for, own}
use Rattle.qc_core.specs.declared.server_state.ServerState.{ServerState}
use Rattle.qc_core.specs.declared.entry_start.Begun.TheVariants as begun
use Rattle.qc_core.specs.Whole.{tasks_of, with_event}
use Rattle.qc_core.specs.Calls.{HasMoreRoom}
use Rattle.qc_core.specs.HitStream.{hit_server, IsChainOf}
use Rattle.qc_core.specs.EntryStart.{IsBegun}
use Rattle.qc_core.specs.TaskEnd.{rested}
use Rattle.qc_core.specs.EndedStreams.{ReadsStreams, swept}
use Rattle.qc_select.specs.declared.selected.Selected.{Selected}
use Rattle.qc_select.specs.declared.selected.Selected.TheVariants as selected
use Rattle.qc_select.specs.Settled.{state_at}

-- ---- what is asked

-- The key, the select, and whether the cache is asked, are those of a text in this state.
pub record IsOfText (state : State) (key : List ℕ) (select : Select) (asked : Asked) (text : List ℕ) : Type 0 where
  pub means : meaning (trimmed text) state.ansi ≡ Ok (statement.Select select)
  pub key_is : key ≡ key_of_text state text
  pub asked_is : asked ≡ asks (head_of (trimmed text)) state.kind

-- A session may ask in this state. Where its transaction has a snapshot, that was taken in this journal, or stands behind its end, as the one that this statement takes.
pub record MayAsk (journal : Journal) (s : SnapshotState) : Type 0 where
  pub keyed : CanBeKeyed s.state
  pub stands : StandsIn journal s
  pub place : IsPlace journal (snapshot_of s.state)

-- ---- what is decided

-- the entry that answers, where the cache is asked
abbrev pub answering_asked : Options → Asked → State → Journal → List ℕ → Option Entry
answering_asked options asked state journal key = if not (options.size == 0) && is_asked asked then answering state journal key else None

-- why the options, the cache type and the text keep a select out
abbrev pub rule_by : Options → State → Asked → Select → Option Reason
rule_by options state asked select =
    when (options.size == 0 || state.kind == 0) reason.Off
    or_else when (not (is_asked asked)) reason.NotAsked
    or_else option_map reason.Rule (why_not state.db select)

-- what keeps one out that isn't refused, but for want of room
abbrev pub outside_by : Options → State → Asked → Select → Journal → List TableName → List ℕ → Option Reason
outside_by options state asked select journal tables key =
    rule_by options state asked select
    or_else unseen_reason state journal tables
    or_else option_map (λ entry. reason.Rival entry.serial) (rival journal key)

-- what the select gives on the database that its session sees
abbrev pub given : State → Journal → Select → Result Rows SqlError
given state journal select = rows select (base state journal) state.db (flags_of state) state.session

-- the first reason that keeps a select out, but for want of room
abbrev pub reason_by : Options → State → Asked → Select → Journal → List ℕ → Option Reason
reason_by options state asked select journal key =
    refusal_reason (given state journal select) or_else outside_by options state asked select journal (select_tables state.db select) key

-- A hit exactly where an entry answers. Else a plain run, with the first reason. Else a start, or a plain run for want of room.
abbrev pub IsChosen : Option Entry → Option Reason → Selected → Type 0
IsChosen found why (selected.Hit hit) = option_map (λ entry. entry.serial) found ≡ Some hit.serial
IsChosen found why (selected.Start serial place plan) = (found ≡ None) × (why ≡ None)
IsChosen found why (selected.Plain (reason.NoRoom need largest) place plan) = (found ≡ None) × (why ≡ None)
IsChosen found why (selected.Plain r place plan) = (found ≡ None) × (why ≡ Some r)

-- a plan that isn't loaded, with the columns and the rows, or the refusal
abbrev pub planned : Result Rows SqlError → Result PlanView SqlError
planned (Ok r) = Ok (record { columns = r.columns; rows = r.rows; left = None; row = None })
planned (Err e) = Err e

abbrev pub HasPlan : Result Rows SqlError → Selected → Type 0
HasPlan r (selected.Hit hit) = Unit {0}
HasPlan r (selected.Start serial place plan) = Ok plan ≡ planned r
HasPlan r (selected.Plain why place plan) = plan ≡ planned r

-- ---- what is done

-- The event was pushed, with what belongs to it: a hit streams the entry; a start first strikes off the streams that others have ended, as their words were read, and then begins the entry, or falls short; any other plain run changes nothing.
abbrev pub Does : ℕ → Who → List ℕ → List TableName → ServerState → ServerState → Ranged → Ranged → List FoundWord → Selected → Type 0
Does seat who key tables old new before after found (selected.Hit hit) =
    (found ≡ []) × (new ≡ hit_server who hit.serial seat old) × (hit.place ≡ length new.journal.events) × (hit.bytes ≡ after.bytes) × IsChainOf hit.serial new after × (hit.bytes ≤ 8 * words_of after.blocks) × (after.room ≡ before.room)
Does seat who key tables old new before after found (selected.Start serial place plan) =
    ReadsStreams seat old found × IsBegun seat who key tables (swept found old) new before after (begun.Started (record { serial = serial; place = place }))
Does seat who key tables old new before after found (selected.Plain (reason.NoRoom need largest) place plan) =
    ReadsStreams seat old found × IsBegun seat who key tables (swept found old) new before after (begun.NoRoom need largest place)
Does seat who key tables old new before after found (selected.Plain why place plan) =
    (found ≡ []) × (new ≡ with_event (event.Run who (how.Plain why)) old) × (place ≡ length new.journal.events) × (after ≡ before)

-- what is listed for the seat then: the stream of a hit, or the fill of a start, with the blocks that it has in hand
abbrev pub selected_tasks : ℕ → Ranged → Selected → List ListedTask
selected_tasks seat r (selected.Hit hit) = own seat (task.Stream hit.serial) r.blocks
selected_tasks seat r (selected.Start serial place plan) = own seat (task.Fill serial) r.blocks
selected_tasks seat r (selected.Plain why place plan) = []

-- The choice is right by the server as it was taken, the plan is made on the database that the session sees by it, and what is chosen was done, after the seat's own ended stream was struck off and the journal got its room.
pub record Decided (seat : ℕ) (who : Who) (key : List ℕ) (select : Select) (asked : Asked) (state : State) (old new : ServerState) (before after : Ranged) (found : List FoundWord) (x : Selected) : Type 0 where
  pub chosen : IsChosen (answering_asked old.options asked state old.journal.events key) (reason_by old.options state asked select old.journal.events key) x
  pub plan : HasPlan (given state old.journal.events select) x
  pub room : ServerState
  pub more : HasMoreRoom (rested seat old) room
  pub does : Does seat who key (select_tables state.db select) room new before after found x
  pub listed : listed_for seat (tasks_of new) ≡ selected_tasks seat after x

-- ---- the event at its place

-- what a run of the select is
abbrev pub how_of : List ℕ → List TableName → Selected → How
how_of key tables (selected.Hit hit) = how.Hit hit.serial
how_of key tables (selected.Start serial place plan) = how.Start serial key tables
how_of key tables (selected.Plain why place plan) = how.Plain why

abbrev pub place_of : Selected → ℕ
place_of (selected.Hit hit) = hit.place
place_of (selected.Start serial place plan) = place
place_of (selected.Plain why place plan) = place

-- Some entries were pruned, then the one event of the select was pushed, which is allowed there, in the state in which it is validated, and has needs of its own. The plan is that of the database which the session sees there.
pub record Decides (who : Who) (text key : List ℕ) (select : Select) (state : State) (old new : ServerState) (x : Selected) : Type 0 where
  pub prunes : Journal
  pub only : list_all is_prune prunes ≡ true
  pub events : new.journal.events ≡ old.journal.events ++ (prunes ++ event.Run who (how_of key (select_tables state.db select) x) ∷ [])
  pub place : place_of x ≡ length new.journal.events
  pub allowed : Allows old.options (state_at old.journal.events (place_of x) select state) text select (old.journal.events ++ prunes) (how_of key (select_tables state.db select) x)
  pub needs : HasOwnNeeds old.options (old.journal.events ++ prunes) key (event.Run who (how_of key (select_tables state.db select) x))
  pub plan : HasPlan (given (state_at old.journal.events (place_of x) select state) (old.journal.events ++ prunes) select) x

-- ---- a start

-- a start, or a plain run for want of room, with this plan
abbrev pub IsStartWith : PlanView → Selected → Type 0
IsStartWith plan (selected.Start serial place own) = own ≡ plan
IsStartWith plan (selected.Plain (reason.NoRoom need largest) place own) = own ≡ Ok plan
IsStartWith plan x = ⊥

-- it was done, after the journal got its room
pub record Begins (seat : ℕ) (who : Who) (key : List ℕ) (tables : List TableName) (plan : PlanView) (old new : ServerState) (before after : Ranged) (found : List FoundWord) (x : Selected) : Type 0 where
  pub starts : IsStartWith plan x
  pub room : ServerState
  pub more : HasMoreRoom old room
  pub does : Does seat who key tables room new before after found x
  pub listed : listed_for seat (tasks_of new) ≡ selected_tasks seat after x
