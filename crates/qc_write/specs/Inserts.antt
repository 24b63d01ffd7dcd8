-- The parts of INSERT: the columns that it names, and the row of a tuple.
use Rattle.std.specs.Prelude.{◌≡◌, ℕ, suc, ◌+◌, ℤ, Bool, not, ◌||◌, List, [], ◌∷◌, ◌++◌, map, length, Option, Some, None, Result, Ok, Err, nat_lt, ◌==◌, bytes_eq, codes, option_map, option_and_then, unwrap_or, if◌then◌else◌}
use Rattle.std.specs.List.{slice_get}
use Rattle.qc_types.specs.declared.names.TableName.{TableName}
use Rattle.qc_types.specs.declared.names.Value.{Value}
use Rattle.qc_types.specs.declared.names.Value.TheVariants as value
use Rattle.qc_types.specs.declared.sql_error.SqlError.{SqlError}
use Rattle.qc_sql.specs.declared.tables.Column.{Column}
use Rattle.qc_sql.specs.declared.tables.RowOp.{RowOp}
use Rattle.qc_sql.specs.declared.tables.RowOp.TheVariants as op
use Rattle.qc_sql.specs.declared.statements.Insert.{Insert}
use Rattle.qc_sql.specs.Database.{Name, Table, key_of, most_rows}
use Rattle.qc_sql.specs.Rows.{◌>>=◌, Bound, refuse_if}
use Rattle.qc_sql.specs.Errors.{wrong_value_count, duplicate_entry, table_full, not_supported}
use Rattle.qc_sql.specs.Effects.{Validated, effect_of, columns_of_insert, lacking, refuse_lacking, is_other_sort, stored, has_key, new_rows}
use Rattle.qc_write.specs.Lists.{borrowed}
use Rattle.qc_write.specs.declared.shape.Shape.{Shape}

-- ---- columns

-- the index of the first column of a name
abbrev pub place_of : Name → List Column → Option ℕ
place_of name [] = None
place_of name (c ∷ cs) = if bytes_eq c.name name then Some 0 else option_map suc (place_of name cs)

-- where the value of each column of a table stands in a tuple, by the columns that are named
abbrev pub places : List Column → List Column → List (Option ℕ)
places named columns = map (λ c. place_of c.name named) columns

-- the columns that are named, where none is lacking
abbrev pub shape_validated : List Column → Option (List Name) → Result (List Column) SqlError
shape_validated columns names =
    columns_of_insert columns names >>= λ named.
    refuse_lacking (lacking columns named) >>= λ _. Ok named

abbrev pub named_in : Shape → List Column
named_in s = borrowed s.named.items

abbrev pub IsShapeOf : List Column → Shape → Type 0
IsShapeOf columns s = s.places.items ≡ places (named_in s) columns

-- ---- rows

abbrev pub value_checked : Column → Value → Result (Unit {0}) SqlError
value_checked c v =
    refuse_if (is_other_sort c.kind v) (not_supported (codes "mixed value")) >>= λ _.
    stored c v >>= λ _. Ok tt

abbrev pub values_checked : List Column → List Value → Result (Unit {0}) SqlError
values_checked [] vs = Ok tt
values_checked (c ∷ cs) [] = Ok tt
values_checked (c ∷ cs) (v ∷ vs) = value_checked c v >>= λ _. values_checked cs vs

-- the value of a tuple at a place, and NULL where there is none
abbrev pub value_from : List Value → Option ℕ → Value
value_from tuple place = unwrap_or (option_and_then (slice_get tuple) place) value.Null

abbrev pub row_from : List Value → List (Option ℕ) → List Value
row_from tuple ps = map (value_from tuple) ps

-- the row of a tuple, by its number
abbrev pub tuple_validated : List Column → List Column → ℕ → List Value → Result (List Value) SqlError
tuple_validated named columns number tuple =
    refuse_if (not (length tuple == length named)) (wrong_value_count number) >>= λ _.
    values_checked named tuple >>= λ _. Ok (row_from tuple (places named columns))

-- the key of a row, by the row's number
abbrev pub key_validated : Bound → (ℤ → Bool) → ℕ → ℤ → Result (Unit {0}) SqlError
key_validated b seen number key =
    refuse_if (has_key b.table key || seen key) (duplicate_entry key) >>= λ _.
    refuse_if (nat_lt most_rows (length b.table.rows + number)) (table_full b.name)

-- the row of a tuple, where its key isn't seen
abbrev pub row_validated : Bound → List Column → (ℤ → Bool) → ℕ → List Value → Result (List Value) SqlError
row_validated b named seen number tuple =
    tuple_validated named b.table.columns number tuple >>= λ row.
    key_validated b seen number (key_of b.table.columns row) >>= λ _. Ok row

abbrev pub puts : TableName → List (List Value) → List RowOp
puts t rows = map (λ row. op.Put t row) rows

abbrev pub rows_validated : Bound → List Column → List (List Value) → Result (List RowOp) SqlError
rows_validated b named tuples = new_rows b.name b.table named [] 1 tuples >>= λ rows. Ok (puts b.name rows)

-- what INSERT does to a table
abbrev pub insert_validated : Bound → Insert → Validated
insert_validated b insert =
    shape_validated b.table.columns insert.names >>= λ named.
    rows_validated b named insert.rows >>= λ ops.
    Ok (effect_of ops (length ops))
