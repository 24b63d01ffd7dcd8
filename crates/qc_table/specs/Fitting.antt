-- A database whose tables have no more rows than may be stored, or the first table that has more.
use Rattle.std.specs.Prelude.{◌≡◌, Bool, true, false, List, [], ◌∷◌, Option, Some, None, Result, Ok, Err, nat_le, nat_lt, length, if◌then◌else◌}
use Rattle.qc_types.specs.declared.names.TableName.{TableName}
use Rattle.qc_types.specs.declared.memory.NoMemory.{NoMemory}
use Rattle.qc_types.specs.declared.memory.Or.{Or}
use Rattle.qc_types.specs.declared.memory.Or.TheVariants as or
use Rattle.qc_table.specs.declared.database.TableFull.{TableFull}
use Rattle.qc_sql.specs.declared.tables.RowOp.{RowOp}
use Rattle.qc_sql.specs.Database.{Name, Database, Table, Tables, apply, most_rows}
use Rattle.qc_model.specs.Licence.{is_within_rows}
use Rattle.qc_model.specs.Machine.{full_in, full_table}

abbrev pub unless : {X : Type 0} → Option TableName → X → Result X TableName
unless None x = Ok x
unless (Some t) x = Err t

abbrev pub fitting : Database → Result Database TableName
fitting d = unless (full_table d) d

abbrev pub fitting_tables : Name → Tables → Result Tables TableName
fitting_tables db tables = unless (full_in db tables) tables

abbrev pub fitting_table : Table → Option Table
fitting_table t = if nat_lt most_rows (length t.rows) then None else Some t

-- the refusal that names a table, or want of memory
abbrev pub IsRefusal : TableName → Or TableFull → Type 0
IsRefusal t or.Memory = Unit {0}
IsRefusal t (or.Other full) = full.table ≡ t

-- at `Ok true` the operations were carried out and no table has too many rows, and else all is as before
abbrev pub AreCarriedOut : List RowOp → Database → Result Bool NoMemory → Database → Type 0
AreCarriedOut ops before (Ok true) after = (after ≡ apply ops before) × (is_within_rows after ≡ true)
AreCarriedOut ops before (Ok false) after = after ≡ before
AreCarriedOut ops before (Err e) after = after ≡ before

abbrev pub IsCarriedOut : RowOp → Database → Result Bool NoMemory → Database → Type 0
IsCarriedOut op = AreCarriedOut (op ∷ [])

abbrev pub is_within : Table → Bool
is_within t = nat_le (length t.rows) most_rows

-- at `Ok true` the table is the one that is wanted and hasn't too many rows, and else it is as before
abbrev pub IsChanged : Table → Table → Result Bool NoMemory → Table → Type 0
IsChanged wanted before (Ok true) after = (after ≡ wanted) × (is_within after ≡ true)
IsChanged wanted before (Ok false) after = after ≡ before
IsChanged wanted before (Err e) after = after ≡ before
