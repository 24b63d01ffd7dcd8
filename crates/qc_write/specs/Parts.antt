-- The parts of CREATE TABLE: columns as they are written, and the names of PRIMARY KEY.
use Rattle.std.specs.Prelude.{ℕ, Bool, false, not, ◌==◌, ◌||◌, List, [], map, length, Result, Ok, bytes_eq, codes, nat_lt, find, Option, Some, None, unwrap_or, option_map}
use Rattle.std.specs.List.{list_any, filter_map}
use Rattle.qc_types.specs.declared.sql_error.SqlError.{SqlError}
use Rattle.qc_sql.specs.declared.tables.Column.{Column}
use Rattle.qc_sql.specs.declared.tables.Kind.{Kind}
use Rattle.qc_sql.specs.declared.tables.Kind.TheVariants as kind
use Rattle.qc_sql.specs.declared.statements.Part.{Part}
use Rattle.qc_sql.specs.declared.statements.PartKind.{PartKind}
use Rattle.qc_sql.specs.declared.statements.PartKind.TheVariants as part_kind
use Rattle.qc_sql.specs.Database.{Name}
use Rattle.qc_sql.specs.Rows.{◌>>=◌, refuse_if, refuse_some, first_repeated}
use Rattle.qc_sql.specs.Errors.{too_many_columns, duplicate_column, no_key_column, not_supported}
use Rattle.qc_sql.specs.Effects.{new_column, new_key, bad_length, marked, has_one_key}
use Rattle.qc_write.specs.declared.create.Written.{Written}

abbrev pub kind_of : PartKind → Kind
kind_of part_kind.BigInt = kind.Int
kind_of (part_kind.VarChar n) = kind.Str n

-- the column, before PRIMARY KEY (name)
abbrev pub column_of : Written → Column
column_of w = record { name = w.name.now; kind = kind_of w.kind; not_null = w.not_null; primary = w.primary }

abbrev pub columns_of : List Written → List Column
columns_of ws = map column_of ws

abbrev pub names_of : List Column → List Name
names_of columns = map (λ c. c.name) columns

abbrev pub is_bad : PartKind → Bool
is_bad part_kind.BigInt = false
is_bad (part_kind.VarChar n) = n == 0 || nat_lt 65535 n

abbrev pub is_bad_column : Written → Bool
is_bad_column w = is_bad w.kind

-- a column of PRIMARY KEY that isn't written
abbrev pub missing : List Column → List Name → Option Name
missing columns keys = find (λ k. not (list_any (λ c. bytes_eq c.name k) columns)) keys

-- the first refusal of columns with PRIMARY KEYs, but for the lengths
abbrev pub columns_checked : List Column → List Name → Result (Unit {0}) SqlError
columns_checked written keys =
    refuse_if (nat_lt 64 (length written)) too_many_columns >>= λ _.
    refuse_some (first_repeated [] (names_of written)) duplicate_column >>= λ _.
    refuse_some (missing written keys) no_key_column >>= λ _.
    refuse_if (not (has_one_key written keys (map (marked keys) written))) (not_supported (codes "primary key"))

-- the columns of a new table
abbrev pub columns_validated : List Part → Result (List Column) SqlError
columns_validated parts =
    let written = filter_map new_column parts in
    let keys = filter_map new_key parts in
    columns_checked written keys >>= λ _.
    refuse_if (list_any bad_length parts) (not_supported (codes "VARCHAR length")) >>= λ _.
    Ok (map (marked keys) written)
