-- What cells stand for.
use Rattle.qc_types.specs.declared.names.Value.{Value}
use Rattle.qc_types.specs.declared.names.Value.TheVariants as value
use Rattle.qc_sql.specs.declared.cells.Cell.{Cell}
use Rattle.qc_sql.specs.declared.cells.Cell.TheVariants as cell
use Rattle.qc_sql.specs.declared.cells.StoredCell.{StoredCell}
use Rattle.qc_sql.specs.declared.cells.StoredCell.TheVariants as stored

-- the value that a cell shows
abbrev pub cell_value : Cell → Value
cell_value cell.Null = value.Null
cell_value (cell.Int n) = value.Int n
cell_value (cell.Wide n) = value.Int n
cell_value (cell.Str bytes) = value.Str bytes.now

-- the value that a cell of its own holds
abbrev pub stored_value : StoredCell → Value
stored_value stored.Null = value.Null
stored_value (stored.Int n) = value.Int n
stored_value (stored.Wide n) = value.Int n
stored_value (stored.Str t) = value.Str t
