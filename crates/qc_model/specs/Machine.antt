-- What a command gives at its place in the journal: its event, its reply and the session's next state.
use Rattle.std.specs.Prelude.{◌≡◌, ℕ, ◌+◌, true, not, ◌&&◌, List, [], ◌∷◌, ◌++◌, length, Option, Some, None, Result, Ok, Err, nat_lt, codes, if◌then◌else◌, ◌*◌, decimal}
use Rattle.qc_types.specs.declared.names.TableName.{TableName}
use Rattle.qc_types.specs.declared.options.Options.{Options}
use Rattle.qc_sql.specs.declared.commands.Command.{Command}
use Rattle.qc_sql.specs.declared.commands.Command.TheVariants as command
use Rattle.qc_sql.specs.declared.replies.Reply.{Reply}
use Rattle.qc_sql.specs.declared.replies.Reply.TheVariants as reply
use Rattle.qc_sql.specs.declared.replies.ColumnDef.{ColumnDef}
use Rattle.qc_types.specs.declared.sql_error.SqlError.{SqlError}
use Rattle.qc_sql.specs.declared.tables.RowOp.{RowOp}
use Rattle.qc_model.specs.declared.events.Who.{Who}
use Rattle.qc_model.specs.declared.events.Event.{Event}
use Rattle.qc_model.specs.declared.events.Event.TheVariants as event
use Rattle.qc_model.specs.declared.events.How.{How}
use Rattle.qc_model.specs.declared.events.How.TheVariants as how
use Rattle.qc_types.specs.declared.totals.Totals.{Totals}
use Rattle.qc_model.specs.declared.events.Counters.{Counters}
use Rattle.qc_sql.specs.declared.statements.Statement.{Statement}
use Rattle.qc_sql.specs.declared.statements.Statement.TheVariants as statement
use Rattle.qc_sql.specs.declared.statements.Select.{Select}
use Rattle.qc_sql.specs.Database.{Name, Database, Table, tables_of, apply, most_rows}
use Rattle.qc_model.specs.Journal.{Journal, present}
use Rattle.qc_model.specs.Cache.{counters}
use Rattle.qc_sql.specs.Errors.{unknown_command, unknown_database, syntax_error, not_supported, too_many_tables, write_conflict, table_full}
use Rattle.qc_sql.specs.Rows.{rows}
use Rattle.qc_sql.specs.Effects.{Effect, effect}
use Rattle.qc_model.specs.Session.{State, Transaction, just_opened, flags_of, status_of, base, own_operations, with_transaction, arrived, select_reply}
use Rattle.qc_model.specs.Choice.{Allows}
use Rattle.qc_model.specs.Conflicts.{Conflict, conflict_of}
use Rattle.qc_model.specs.Settings.{set_to, is_autocommit}
use Rattle.qc_sql.specs.Grammar.{meaning, trimmed, ParseFault, Syntax, Unsupported, TooManyTables}
use Rattle.qc_sql.specs.Words.{◌or_else◌, when}

-- what a command leaves behind: the event, the reply and the next state
pub record Given : Type 0 where
  pub event : Event
  pub reply : Reply
  pub next : State

abbrev pub ok_reply : State → ℕ → Reply
ok_reply state affected = reply.Ok affected (status_of (flags_of state))

abbrev pub refused : SqlError → Reply
refused e = reply.Err e

-- ---- the end of a transaction

-- the first table that has too many rows
abbrev pub full_in : Name → List (Name × Table) → Option TableName
full_in db [] = None
full_in db (t ∷ ts) = when (nat_lt most_rows (length t.1.rows)) (record { db = db; name = t.0 }) or_else full_in db ts

abbrev pub full_table : Database → Option TableName
full_table [] = None
full_table (d ∷ ds) = full_in d.0 d.1 or_else full_table ds

abbrev pub conflict_in : State → Journal → Option Conflict
conflict_in state journal = of_transaction state.transaction
  where
    of_transaction : Option Transaction → Option Conflict
    of_transaction None = None
    of_transaction (Some t) = conflict_of t journal

-- Validates the transaction that a command ends, for conflict first and then for a full table; where neither comes, goes on with its operations.
abbrev pub ending : Who → State → Journal → (List RowOp → Given) → Given
ending who state journal go = validated (conflict_in state journal)
  where
    filled : Option TableName → Given
    filled (Some t) = record { event = event.Run who how.Other; reply = refused (table_full t); next = with_transaction state None }
    filled None = go (own_operations state)

    validated : Option Conflict → Given
    validated (Some c) = record { event = event.Run who (how.Conflict c.table c.key c.by); reply = refused write_conflict; next = with_transaction state None }
    validated None = filled (full_table (apply (own_operations state) (present journal)))

-- a commit of these operations, or another event where there are none
abbrev pub committed : Who → List RowOp → Event
committed who [] = event.Run who how.Other
committed who (o ∷ os) = event.Commit who (o ∷ os)

-- ---- statements

-- a statement that changes rows, outside a transaction or in one
abbrev pub changed_rows : Who → State → Result Effect SqlError → Given
changed_rows who state (Err e) = record { event = event.Run who how.Other; reply = refused e; next = state }
changed_rows who state (Ok x) = in_transaction state.transaction
  where
    in_transaction : Option Transaction → Given
    in_transaction None = record { event = committed who x.operations; reply = ok_reply state x.affected; next = state }
    in_transaction (Some t) = record { event = event.Run who how.Other; reply = ok_reply state x.affected; next = with_transaction state (Some (record { snapshot = t.snapshot; operations = t.operations ++ x.operations })) }

-- a statement that changes tables or databases, behind these operations of the transaction that it ends
abbrev pub form_given : Who → State → List RowOp → Result Effect SqlError → Given
form_given who state own (Err e) = record { event = event.Run who how.Other; reply = refused e; next = state }
form_given who state own (Ok x) = record { event = event.Commit who (own ++ x.operations); reply = ok_reply (with_transaction state None) x.affected; next = with_transaction state None }

-- it commits the open transaction, with itself
abbrev pub changed_form : Who → State → Journal → Statement → Given
changed_form who state journal s =
    ending who state journal (λ own. form_given who state own (effect s (apply own (present journal)) state.db state.session))

-- a command that ends the open transaction, and leaves this state
abbrev pub ended_with : Who → State → Journal → State → Given
ended_with who state journal next = ending who state journal (λ own. record { event = committed who own; reply = ok_reply next 0; next = next })

abbrev pub other : Who → State → Reply → Given
other who next r = record { event = event.Run who how.Other; reply = r; next = next }

-- USE, and the command of the same meaning
abbrev pub used : Who → State → Journal → Name → Given
used who state journal name = by_database (tables_of name (base state journal))
  where
    by_database : Option (List (Name × Table)) → Given
    by_database None = other who state (refused (unknown_database name))
    by_database (Some tables) = let next = record state { db = name } in other who next (ok_reply next 0)

-- SET autocommit ends a transaction where it goes from off to on
abbrev pub set_autocommit : Who → State → Journal → Result State SqlError → Given
set_autocommit who state journal (Err e) = other who state (refused e)
set_autocommit who state journal (Ok next) =
    if not state.autocommit && next.autocommit
    then ended_with who state journal (with_transaction next None)
    else other who next (ok_reply next 0)

-- ---- SHOW STATUS

abbrev pub status_column : State → List ℕ → ℕ → ColumnDef
status_column state name length = record { schema = []; table = []; org_table = []; name = name; org_name = []; charset = state.charset; length = length; kind = 0xfd; flags = 0; decimals = 0 }

abbrev pub status_row : List ℕ → ℕ → List (Option (List ℕ))
status_row name n = Some name ∷ Some (decimal n) ∷ []

abbrev pub status_reply : State → Counters → Totals → Reply
status_reply state c t = reply.Rows
    (status_column state (codes "Variable_name") 64 ∷ status_column state (codes "Value") 20 ∷ [])
    (status_row (codes "Qcache_free_blocks") t.free_blocks
    ∷ status_row (codes "Qcache_free_memory") (8 * t.free_words)
    ∷ status_row (codes "Qcache_hits") c.hits
    ∷ status_row (codes "Qcache_inserts") c.inserts
    ∷ status_row (codes "Qcache_lowmem_prunes") c.lowmem_prunes
    ∷ status_row (codes "Qcache_not_cached") c.not_cached
    ∷ status_row (codes "Qcache_queries_in_cache") c.queries_in_cache
    ∷ status_row (codes "Qcache_total_blocks") t.blocks ∷ [])
    (status_of (flags_of state))

-- ---- the machine

-- the event, the reply and the next state of a command whose event is determined
abbrev pub Gives : Given → Event → Reply → State → Type 0
Gives g e r next = (e ≡ g.event) × (r ≡ g.reply) × (next ≡ g.next)

-- a select: its event is one that is allowed, and its reply is that of its rows, whatever the event says
pub record Selects (options : Options) (who : Who) (state : State) (text : List ℕ) (select : Select) (journal : Journal) (e : Event) (r : Reply) (next : State) : Type 0 where
  pub chosen : (h : How) × (e ≡ event.Run who h) × Allows options state text select journal h
  pub answered : r ≡ select_reply (flags_of state) (rows select (base state journal) state.db (flags_of state) state.session)
  pub same : next ≡ state

-- the state before a transaction that BEGIN opens
abbrev pub begun : State → State
begun state = with_transaction state (Some just_opened)

-- a statement that has a deciding event, in the state in which it is validated
abbrev pub ExecutesStatement : Options → Who → State → List ℕ → Journal → Statement → Event → Reply → State → Type 0
ExecutesStatement options who state text journal (statement.Select s) e r next = Selects options who state text s journal e r next
ExecutesStatement options who state text journal (statement.Insert i) e r next = Gives (changed_rows who state (effect (statement.Insert i) (base state journal) state.db state.session)) e r next
ExecutesStatement options who state text journal (statement.Update u) e r next = Gives (changed_rows who state (effect (statement.Update u) (base state journal) state.db state.session)) e r next
ExecutesStatement options who state text journal (statement.Delete d) e r next = Gives (changed_rows who state (effect (statement.Delete d) (base state journal) state.db state.session)) e r next
ExecutesStatement options who state text journal (statement.UseDb name) e r next = Gives (used who state journal name) e r next
ExecutesStatement options who state text journal statement.Begin e r next = Gives (ended_with who state journal (begun state)) e r next
ExecutesStatement options who state text journal statement.Commit e r next = Gives (ended_with who state journal (with_transaction state None)) e r next
ExecutesStatement options who state text journal statement.Rollback e r next = Gives (let s = with_transaction state None in other who s (ok_reply s 0)) e r next
ExecutesStatement options who state text journal (statement.Set x) e r next = (is_autocommit x ≡ true) × Gives (set_autocommit who state journal (set_to state x)) e r next
ExecutesStatement options who state text journal statement.ShowStatus e r next = (t : Totals) × (e ≡ event.Run who (how.Status t)) × (r ≡ status_reply state (counters journal) t) × (next ≡ state)
ExecutesStatement options who state text journal statement.FlushCache e r next = (e ≡ event.Flush who) × (r ≡ ok_reply state 0) × (next ≡ state)
ExecutesStatement options who state text journal statement.FlushTables e r next = (e ≡ event.Reset who) × (r ≡ ok_reply state 0) × (next ≡ state)
ExecutesStatement options who state text journal statement.ResetCache e r next = (e ≡ event.Reset who) × (r ≡ ok_reply state 0) × (next ≡ state)
-- CREATE, DROP and TRUNCATE
ExecutesStatement options who state text journal s e r next = Gives (changed_form who state journal s) e r next

abbrev pub ExecutesText : Options → Who → State → List ℕ → Journal → Result Statement ParseFault → Event → Reply → State → Type 0
ExecutesText options who state text journal (Ok s) e r next = ExecutesStatement options who (arrived (length journal + 1) s state) text journal s e r next
ExecutesText options who state text journal (Err fault) e r next = ⊥

-- After these events, a command may have this event, give this reply and leave this state.
abbrev pub Executes : Options → Who → State → Command → Journal → Event → Reply → State → Type 0
Executes options who state (command.Query text) journal e r next = ExecutesText options who state text journal (meaning (trimmed text) state.ansi) e r next
Executes options who state (command.InitDb name) journal e r next = Gives (used who state journal name) e r next
Executes options who state _ journal e r next = ⊥

-- ---- commands without a deciding event

abbrev pub fault_error : ParseFault → SqlError
fault_error (Syntax at) = syntax_error at
fault_error (Unsupported what) = not_supported what
fault_error TooManyTables = too_many_tables

-- a reply and a next state, or none where the command has a deciding event
abbrev pub Local : Type 0
Local = Option (Reply × State)

abbrev pub set_locally : State → Result State SqlError → Local
set_locally state (Err e) = Some (refused e, state)
set_locally state (Ok next) = Some (ok_reply next 0, next)

abbrev pub local_text : State → Result Statement ParseFault → Local
local_text state (Err fault) = Some (refused (fault_error fault), state)
local_text state (Ok (statement.Set x)) = if is_autocommit x then None else set_locally state (set_to state x)
local_text state (Ok s) = None

-- what a command gives that has no deciding event
abbrev pub local : State → Command → Local
local state command.Ping = Some (ok_reply state 0, state)
local state (command.Unknown byte) = Some (refused unknown_command, state)
local state command.Empty = Some (refused unknown_command, state)
local state (command.Query text) = local_text state (meaning (trimmed text) state.ansi)
local state (command.InitDb name) = None
local state command.Quit = None
