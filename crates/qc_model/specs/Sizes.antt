-- How long the names and the texts are that an operation stores.
use Rattle.std.specs.Prelude.{ℕ, ◌^◌, Bool, true, ◌&&◌, List, length, nat_lt, nat_le}
use Rattle.std.specs.List.{list_all}
use Rattle.qc_types.specs.declared.names.Value.{Value}
use Rattle.qc_types.specs.declared.names.Value.TheVariants as value
use Rattle.qc_sql.specs.declared.tables.Column.{Column}
use Rattle.qc_sql.specs.declared.tables.Kind.{Kind}
use Rattle.qc_sql.specs.declared.tables.Kind.TheVariants as kind
use Rattle.qc_sql.specs.declared.tables.RowOp.{RowOp}
use Rattle.qc_sql.specs.declared.tables.RowOp.TheVariants as op
use Rattle.qc_sql.specs.Database.{Name}

-- a name of at most 64 bytes
abbrev pub is_short : Name → Bool
is_short name = nat_le (length name) 64

-- a text of at most 65,535 bytes, which is as long as a literal and a value may be
abbrev pub is_bounded : List ℕ → Bool
is_bounded text = nat_le (length text) 65535

-- a text is bounded
abbrev pub is_bounded_value : Value → Bool
is_bounded_value value.Null = true
is_bounded_value (value.Int n) = true
is_bounded_value (value.Str t) = is_bounded t

abbrev pub is_bounded_kind : Kind → Bool
is_bounded_kind kind.Int = true
is_bounded_kind (kind.Str most) = nat_lt most (2 ^ 16)

abbrev pub is_bounded_column : Column → Bool
is_bounded_column c = is_short c.name && is_bounded_kind c.kind

-- There is a column at least, and their names are short.
abbrev pub are_bounded_columns : List Column → Bool
are_bounded_columns columns = nat_lt 0 (length columns) && list_all is_bounded_column columns

abbrev pub is_bounded_row : List Value → Bool
is_bounded_row row = list_all is_bounded_value row

-- what an operation stores is bounded
abbrev pub is_bounded_operation : RowOp → Bool
is_bounded_operation (op.Put t row) = is_bounded_row row
is_bounded_operation (op.CreateTable t columns) = are_bounded_columns columns
is_bounded_operation _ = true

-- a database or a table that an operation makes has a short name
abbrev pub makes_short_name : RowOp → Bool
makes_short_name (op.CreateDb name) = is_short name
makes_short_name (op.CreateTable t columns) = is_short t.name
makes_short_name _ = true

-- what an operation stores is bounded, and so are the names that it makes
abbrev pub is_small_operation : RowOp → Bool
is_small_operation o = is_bounded_operation o && makes_short_name o
