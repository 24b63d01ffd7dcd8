-- The state in which a select is validated, once the place of its event is known.
use Rattle.std.specs.Prelude.{ℕ, length, Option, Some, None, nat_lt, if◌then◌else◌, option_map}
use Rattle.qc_sql.specs.declared.statements.Select.{Select}
use Rattle.qc_sql.specs.declared.statements.Statement.TheVariants as statement
use Rattle.qc_model.specs.Journal.{Journal}
use Rattle.qc_model.specs.Session.{State, Transaction, uses_rows, with_transaction}

-- a snapshot that lacks, or that stands behind the end of a journal, is taken at the place
abbrev pub settled_place : ℕ → ℕ → Option ℕ → ℕ
settled_place end place None = place
settled_place end place (Some n) = if nat_lt end n then place else n

abbrev pub settled : ℕ → ℕ → Transaction → Transaction
settled end place t = record { snapshot = Some (settled_place end place t.snapshot); operations = t.operations }

-- A select came in this state, after the events of the journal, and has its event at the place: where it names a table, its transaction takes the snapshot there.
abbrev pub state_at : Journal → ℕ → Select → State → State
state_at journal place select state =
    if uses_rows (statement.Select select) then with_transaction state (option_map (settled (length journal) place) state.transaction) else state
