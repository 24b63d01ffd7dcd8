-- Operations are committed.
use Rattle.std.specs.Prelude.{◌≡◌, ℕ, Bool, false, not, List, [], filter, Option, Some, None}
use Rattle.std.specs.List.{list_any, flat_map, AllByRecursion}
use Rattle.qc_types.specs.declared.names.TableName.{TableName}
use Rattle.qc_sql.specs.declared.tables.RowOp.{RowOp}
use Rattle.qc_sql.specs.declared.tables.RowOp.TheVariants as op
use Rattle.qc_sql.specs.Database.{Database, apply, touches}
use Rattle.qc_laws.specs.history.Named.{AreThere}
use Rattle.qc_model.specs.declared.events.Who.{Who}
use Rattle.qc_model.specs.declared.events.Event.TheVariants as event
use Rattle.qc_table.specs.Views.{tables_in}
use Rattle.qc_dir.specs.declared.entries.Entry.{Entry}
use Rattle.qc_dir.specs.Directory.{names_table}
use Rattle.qc_core.specs.declared.server_state.ServerState.{ServerState}
use Rattle.qc_core.specs.Whole.{with_event}
use Rattle.qc_core.specs.EntriesCut.{LeaveInTurn}

-- ---- which entries leave

-- the table that an operation names; one on a whole database names none
abbrev pub named_table : RowOp → Option TableName
named_table (op.Put t row) = Some t
named_table (op.Del t key) = Some t
named_table (op.CreateTable t columns) = Some t
named_table (op.DropTable t) = Some t
named_table (op.CreateDb name) = None
named_table (op.DropDb name) = None

abbrev pub is_on : Option TableName → Entry → Bool
is_on None e = false
is_on (Some t) e = names_table t e

-- an entry names the table of an operation
abbrev pub is_named_by : RowOp → Entry → Bool
is_named_by o e = is_on (named_table o) e

-- the tables of the database that an operation drops
abbrev pub tables_dropped_by : Database → RowOp → List TableName
tables_dropped_by d (op.DropDb name) = tables_in name d
tables_dropped_by d _ = []

abbrev pub tables_dropped : List RowOp → Database → List TableName
tables_dropped ops d = flat_map (tables_dropped_by d) ops

-- an entry uses a table that one of the operations touches
abbrev pub uses_touched : List RowOp → Entry → Bool
uses_touched ops e = list_any (λ t. list_any (touches t) ops) e.tables

-- the tables of each entry are there
abbrev pub EntriesHaveTables : ServerState → Type 0
EntriesHaveTables s = AllByRecursion (λ e. AreThere s.database e.tables) s.dir.entries

-- ---- they leave

-- those entries left that pass a test, and no others
pub record TakesOut (test : Entry → Bool) (old new : ServerState) : Type 0 where
  pub serials : List ℕ
  pub left : LeaveInTurn serials old new
  pub entries : new.dir.entries ≡ filter (λ e. not (test e)) old.dir.entries

abbrev pub with_database : Database → ServerState → ServerState
with_database d s = record s { database = d }

-- The operations were carried out, exactly those entries left that use a table which they touch, and then the event was added.
pub record IsCommitted (who : Who) (ops : List RowOp) (old new : ServerState) : Type 0 where
  pub mid : ServerState
  pub out : TakesOut (uses_touched ops) (with_database (apply ops old.database) old) mid
  pub server : new ≡ with_event (event.Commit who ops) mid
