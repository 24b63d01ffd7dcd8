-- What contracts see of a session's state, and what its calls make of it. Of the descriptions of a session, `State` (of `qc_model`) is what the machine
-- keeps: its database, its variables and its transaction; `SnapshotState`, below, adds the database that its snapshot saw.
-- `TransactionProgress` is how the code holds the transaction (`Progresses`), and `Result` of operations or a conflict is how it ends (`Endings`).
use Rattle.std.specs.Prelude.{◌≡◌, ℕ, true, List, [], ◌++◌, Option, Some, None, Result, Ok, Err, is_some, is_none, unwrap_or, IfSome, IsSomeAnd, option_map, if◌then◌else◌}
use Rattle.qc_types.specs.declared.names.TableName.{TableName}
use Rattle.qc_types.specs.declared.sql_error.SqlError.{SqlError}
use Rattle.qc_sql.specs.declared.tables.RowOp.{RowOp}
use Rattle.qc_sql.specs.Database.{Name, Database, apply}
use Rattle.qc_model.specs.Licence.{ops_fit}
use Rattle.qc_model.specs.Machine.{full_table, begun}
use Rattle.qc_model.specs.Session.{State, Transaction, own_operations, snapshot_of, with_transaction, opened, snapshot_taken}
use Rattle.qc_table.specs.Fitting.{unless}

-- what the machine keeps of the session, and the database at the snapshot, where a transaction has one
pub record SnapshotState : Type 0 where
  pub state : State
  pub origin : Option Database

-- what is true of each: no operation is its own before there is a snapshot, and those that are fit the database there
pub record IsSnapshotState (s : SnapshotState) : Type 0 where
  pub snapshot : is_some s.origin ≡ is_some (snapshot_of s.state)
  pub bare : s.origin ≡ None → own_operations s.state ≡ []
  pub fits : IfSome s.origin (λ d. ops_fit (own_operations s.state) d ≡ true)

-- what its statements see, on a database now
abbrev pub seen_on : Database → SnapshotState → Database
seen_on now s = apply (own_operations s.state) (unwrap_or s.origin now)

abbrev pub with_state : (State → State) → SnapshotState → SnapshotState
with_state f s = record { state = f s.state; origin = s.origin }

abbrev pub in_database : Name → SnapshotState → SnapshotState
in_database name s = with_state (λ state. record state { db = name }) s

abbrev pub after_begin : SnapshotState → SnapshotState
after_begin s = with_state begun s

abbrev pub after_arrival : SnapshotState → SnapshotState
after_arrival s = with_state (λ state. with_transaction state (opened state)) s

abbrev pub after_end : SnapshotState → SnapshotState
after_end s = record { state = with_transaction s.state None; origin = None }

-- a transaction without snapshot takes one
abbrev pub origin_taken : Option Transaction → Database → Option Database → Option Database
origin_taken None now origin = origin
origin_taken (Some t) now origin = if is_some t.snapshot then origin else Some now

abbrev pub after_sight : ℕ → Database → SnapshotState → SnapshotState
after_sight place now s = record {
  state = with_transaction s.state (option_map (snapshot_taken place) s.state.transaction);
  origin = origin_taken s.state.transaction now s.origin;
}

-- operations that may be added: there is a snapshot, and they fit what the statements see
abbrev pub MayAdd : List RowOp → SnapshotState → Type 0
MayAdd ops s = IsSomeAnd s.origin (λ d. ops_fit ops (apply (own_operations s.state) d) ≡ true)

abbrev pub with_operations : List RowOp → Transaction → Transaction
with_operations ops t = record { snapshot = t.snapshot; operations = t.operations ++ ops }

abbrev pub added : List RowOp → SnapshotState → SnapshotState
added ops s = with_state (λ state. with_transaction state (option_map (with_operations ops) state.transaction)) s

-- with these operations, or the first table that would have too many rows
abbrev pub after_more : List RowOp → SnapshotState → Result SnapshotState TableName
after_more ops s = unless (full_table (apply ops (seen_on [] s))) (added ops s)
