-- What a select may give, in sizes.
use Rattle.std.specs.Prelude.{◌≡◌, ℕ, ◌<◌, ◌≤◌, ◌^◌, Bool, true, ◌&&◌, ◌⊎◌, List, length, IfSome, nat_lt}
use Rattle.std.specs.List.{list_all, AllByRecursion}
use Rattle.qc_types.specs.declared.names.Value.{Value}
use Rattle.qc_types.specs.declared.sql_error.SqlError.{SqlError}
use Rattle.qc_sql.specs.declared.replies.ColumnDef.{ColumnDef}
use Rattle.qc_sql.specs.declared.session.Flags.{Flags}
use Rattle.qc_sql.specs.declared.tables.Column.{Column}
use Rattle.qc_sql.specs.declared.tables.Kind.{Kind}
use Rattle.qc_sql.specs.declared.tables.Kind.TheVariants as kind
use Rattle.qc_sql.specs.declared.tables.RowOp.{RowOp}
use Rattle.qc_sql.specs.declared.tables.RowOp.TheVariants as op
use Rattle.qc_sql.specs.Database.{Database, Table}
use Rattle.qc_sql.specs.Rows.{Rows, text_of}
pub use Rattle.qc_model.specs.Sizes.{is_bounded_kind, is_bounded_column, are_bounded_columns, is_bounded_row, is_bounded_operation}

-- ---- the database

abbrev pub is_bounded_table : Table → Bool
is_bounded_table t = are_bounded_columns t.columns && list_all (λ entry. is_bounded_row entry.1) t.rows

abbrev pub is_bounded_database : Database → Bool
is_bounded_database d = list_all (λ entry. list_all (λ named. is_bounded_table named.1) entry.1) d

-- ---- what is given

pub record FitsError (e : SqlError) : Type 0 where
  pub code : e.code < 2 ^ 16
  pub state : length e.state ≡ 5
  pub message : length e.message ≤ 512

pub record FitsColumn (flags : Flags) (c : ColumnDef) : Type 0 where
  pub schema : length c.schema ≤ 64
  pub table : length c.table ≤ 64
  pub org_table : length c.org_table ≤ 64
  pub name : length c.name ≤ 255
  pub org_name : length c.org_name ≤ 64
  pub charset : (c.charset ≡ 63) ⊎ (c.charset ≡ flags.charset)
  pub shown : c.length < 2 ^ 32
  pub kind : c.kind < 2 ^ 8
  pub bits : c.flags < 2 ^ 16
  pub decimals : c.decimals ≡ 0

-- the text of a value, where it isn't NULL
abbrev pub FitsValue : Value → Type 0
FitsValue v = IfSome (text_of v) (λ text. length text ≤ 65535)

pub record FitsRow (columns : ℕ) (row : List Value) : Type 0 where
  pub count : length row ≡ columns
  pub values : AllByRecursion FitsValue row

pub record FitsRows (flags : Flags) (r : Rows) : Type 0 where
  pub some : 1 ≤ length r.columns
  pub few : length r.columns ≤ 64
  pub columns : AllByRecursion (FitsColumn flags) r.columns
  pub rows : AllByRecursion (FitsRow (length r.columns)) r.rows
