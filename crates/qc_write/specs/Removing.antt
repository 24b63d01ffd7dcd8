-- DELETE by the indexes of rows.
use Rattle.std.specs.Prelude.{◌≡◌, ℕ, ◌<◌, ℤ, List, length, map, Option, Some, Ok}
use Rattle.qc_types.specs.declared.names.TableName.{TableName}
use Rattle.qc_types.specs.declared.names.Value.{Value}
use Rattle.qc_sql.specs.declared.tables.Column.{Column}
use Rattle.qc_sql.specs.declared.tables.Kind.TheVariants as kind
use Rattle.qc_sql.specs.declared.tables.RowOp.{RowOp}
use Rattle.qc_sql.specs.declared.tables.RowOp.TheVariants as op
use Rattle.qc_sql.specs.declared.statements.Cond.{Cond}
use Rattle.qc_sql.specs.Database.{Name, key_of, key_value}
use Rattle.qc_sql.specs.Effects.{Validated, effect_of}
use Rattle.qc_sql.specs.Rows.{◌>>=◌, Bound}
use Rattle.qc_table.specs.Views.{kind_at, value_at}
use Rattle.qc_resolve.specs.Kept.{kept_rows}

-- the column at an index holds the keys
pub record IsKeyColumn (columns : List Column) (i : ℕ) : Type 0 where
  pub kind : kind_at columns i ≡ Some kind.Int
  pub key : (row : List Value) → key_of columns row ≡ key_value (value_at row i)

-- the operation by which a row goes
abbrev pub del_of : TableName → ℤ × List Value → RowOp
del_of t entry = op.Del t entry.0

-- what DELETE does to a table
abbrev pub delete_validated : Bound → Name → ℕ → Option Cond → Validated
delete_validated b db session cond =
    kept_rows b.name b.table cond db session >>= λ gone.
    Ok (effect_of (map (del_of b.name) gone) (length gone))
