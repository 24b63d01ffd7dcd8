-- How the open transaction may end.
use Rattle.std.specs.Prelude.{◌≡◌, true, List, None}
use Rattle.std.specs.List.{list_all}
use Rattle.qc_types.specs.declared.memory.Or.{Or}
use Rattle.qc_types.specs.declared.memory.Or.TheVariants as or
use Rattle.qc_types.specs.declared.names.TableName.{TableName}
use Rattle.qc_sql.specs.declared.tables.RowOp.{RowOp}
use Rattle.qc_sql.specs.Database.{Database}
use Rattle.qc_sql.specs.Errors.{table_full, write_conflict}
use Rattle.qc_model.specs.declared.events.Event.TheVariants as event
use Rattle.qc_model.specs.declared.events.How.TheVariants as how
use Rattle.qc_model.specs.declared.events.Who.{Who}
use Rattle.qc_model.specs.Journal.{Journal}
use Rattle.qc_model.specs.Licence.{IsCommitOn, ops_fit}
use Rattle.qc_model.specs.Machine.{Given, other, refused}
use Rattle.qc_model.specs.Session.{State, with_transaction}
use Rattle.qc_trx.specs.declared.conflict.Conflict.{Conflict}
use Rattle.qc_laws.specs.sizes.Operations.{is_small_operation}

-- operations that may be tried on a database: nothing is wrong with them, unless a table has too many rows then
pub record MayTry (ops : List RowOp) (d : Database) : Type 0 where
  pub small : list_all is_small_operation ops ≡ true
  pub fit : ops_fit ops d ≡ true

-- a conflict is with a commit of the journal, which touched the table
abbrev pub IsWithCommit : Journal → Or Conflict → Type 0
IsWithCommit journal or.Memory = Unit {0}
IsWithCommit journal (or.Other c) = IsCommitOn journal c.by c.table

-- a transaction that is rolled back for a conflict, or for a table that would be too full: the event, the reply and the next state
abbrev pub conflict_given : Who → State → Conflict → Given
conflict_given who state c = record { event = event.Run who (how.Conflict c.table c.key c.by); reply = refused write_conflict; next = with_transaction state None }

abbrev pub full_given : Who → State → TableName → Given
full_given who state t = other who (with_transaction state None) (refused (table_full t))
