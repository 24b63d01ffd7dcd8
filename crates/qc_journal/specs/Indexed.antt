-- What the index of changes says of a table.
use Rattle.std.specs.Prelude.{ℕ, ◌+◌, drop, unwrap_or}
use Rattle.std.specs.Option.{option_map_or}
use Rattle.qc_types.specs.declared.names.TableName.{TableName}
use Rattle.qc_sql.specs.Database.{Name, at_name}
use Rattle.qc_model.specs.Journal.{Journal, last_number, touches_table}
use Rattle.qc_journal.specs.declared.changes.InDatabase.{InDatabase}
use Rattle.qc_journal.specs.declared.changes.Changes.{Changes}

-- the number of the last commit that is entered for a table of a database: its own, or that of the database's last drop
abbrev pub number_in : Name → InDatabase → ℕ
number_in name tables = unwrap_or (at_name name tables.tables) tables.dropped

-- the number of the last commit that is entered for a table, or 0
abbrev pub found : TableName → Changes → ℕ
found t changes = option_map_or (number_in t.name) (at_name t.db changes.databases) 0

-- the number of the last commit that touches a table: among the events behind those that are entered, or else the one that is found
abbrev pub last_after : Changes → Journal → TableName → ℕ
last_after changes journal t = last_number (touches_table t) (found t changes) (changes.entered + 1) (drop changes.entered journal)
