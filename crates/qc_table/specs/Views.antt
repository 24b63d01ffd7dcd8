-- What is seen of a stored table: a column of it, or a row of it.
use Rattle.std.specs.Prelude.{◌≡◌, ℕ, ◌+◌, ◌/◌, ◌≤◌, ℤ, pos, Bool, List, [], map, length, Option, Some, None, IfSome, IsSomeAnd, option_map, unwrap_or}
use Rattle.std.specs.List.{slice_get}
use Rattle.std.specs.Prelude.{slice_index_or}
use Rattle.qc_types.specs.declared.names.TableName.{TableName}
use Rattle.qc_types.specs.declared.names.Value.{Value}
use Rattle.qc_types.specs.declared.names.Value.TheVariants as value
use Rattle.qc_sql.specs.declared.tables.Column.{Column}
use Rattle.qc_sql.specs.declared.tables.Kind.{Kind}
use Rattle.qc_sql.specs.declared.tables.Kind.TheVariants as kind
use Rattle.std.specs.Map.{keys_of}
use Rattle.qc_sql.specs.Rows.{is_null}
use Rattle.qc_table.specs.Bits.{bit_at}
use Rattle.qc_sql.specs.Database.{MapOf, Table, Name, Database, tables_of}

-- what a view of a column shows: its kind, and its value of each row, by rising key
pub record ColumnValues : Type 0 where
  pub kind : Kind
  pub values : List Value

-- what a view of a row shows: the columns of its table, and its value of each
pub record RowValues : Type 0 where
  pub columns : List Column
  pub values : List Value

abbrev pub int_value : Option ℤ → Value
int_value None = value.Null
int_value (Some n) = value.Int n

abbrev pub text_value : Option (List ℕ) → Value
text_value None = value.Null
text_value (Some t) = value.Str t

-- the kind of the column at an index
abbrev pub kind_at : List Column → ℕ → Option Kind
kind_at columns i = option_map (λ c. c.kind) (slice_get columns i)

-- a VARCHAR
abbrev pub IsText : Kind → Type 0
IsText kind.Int = ⊥
IsText (kind.Str n) = Unit {0}

-- the column at an index is a VARCHAR
abbrev pub IsTextAt : List Column → ℕ → Type 0
IsTextAt columns i = IsSomeAnd (kind_at columns i) IsText

-- the values of the row at an index, none behind the end
abbrev pub row_at : MapOf ℤ (List Value) → ℕ → List Value
row_at rows i = slice_index_or (map (λ e. e.1) rows) i []

-- the value of a row in the column at an index
abbrev pub value_at : List Value → ℕ → Value
value_at row column = slice_index_or row column value.Null

-- what a view of the column at an index shows
abbrev pub column_values : Table → ℕ → ColumnValues
column_values t column = record { kind = unwrap_or (kind_at t.columns column) kind.Int; values = map (λ e. value_at e.1 column) t.rows }

-- what a view of the row at an index shows
abbrev pub row_values : Table → ℕ → RowValues
row_values t row = record { columns = t.columns; values = row_at t.rows row }

-- a text is no longer than the column at an index allows
abbrev pub IsWithin : List Column → ℕ → Option (List ℕ) → Type 0
IsWithin columns column text = (n : ℕ) → kind_at columns column ≡ Some (kind.Str n) → IfSome text (λ t. length t ≤ n)

abbrev pub table_in : Name → Name → TableName
table_in db name = record { db = db; name = name }

-- the tables of a database, by rising name
abbrev pub tables_in : Name → Database → List TableName
tables_in db d = map (table_in db) (keys_of (unwrap_or (tables_of db d) []))

-- whether the value at an index is NULL; behind the end there is none
abbrev pub is_null_at : List Value → ℕ → Bool
is_null_at values i = is_null (slice_index_or values i (value.Int (pos 0)))

-- a word for each 64 values begun, whose bits tell which are NULL, and 0 behind the last
pub record IsNulls (words : List ℕ) (values : List Value) : Type 0 where
  pub count : length words ≡ (length values + 63) / 64
  pub bits : (i : ℕ) → bit_at words i ≡ is_null_at values i
