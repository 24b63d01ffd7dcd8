-- UPDATE by the places of its columns.
use Rattle.std.specs.Prelude.{◌≡◌, ℕ, ◌+◌, ◌<◌, ℤ, List, [], ◌∷◌, ◌++◌, length, map, Option, Some, None, Result, Ok, Err, bytes_eq, codes, slice_set, if◌then◌else◌}
use Rattle.qc_types.specs.declared.names.TableName.{TableName}
use Rattle.qc_types.specs.declared.names.Value.{Value}
use Rattle.qc_types.specs.declared.sql_error.SqlError.{SqlError}
use Rattle.qc_sql.specs.declared.tables.Column.{Column}
use Rattle.qc_sql.specs.declared.tables.RowOp.{RowOp}
use Rattle.qc_sql.specs.declared.tables.RowOp.TheVariants as op
use Rattle.qc_sql.specs.declared.statements.Assignment.{Assignment}
use Rattle.qc_sql.specs.declared.statements.Right.{Right}
use Rattle.qc_sql.specs.declared.statements.Right.TheVariants as right
use Rattle.qc_sql.specs.declared.statements.Update.{Update}
use Rattle.qc_sql.specs.Database.{Name, MapOf}
use Rattle.qc_sql.specs.Effects.{Validated, effect_of, is_other_sort, same_values, stored}
use Rattle.qc_sql.specs.Errors.{not_supported, unknown_column}
use Rattle.qc_sql.specs.Rows.{◌>>=◌, Bound, each, mixes, refuse_if, sort_of_kind}
use Rattle.qc_table.specs.Views.{value_at}
use Rattle.qc_resolve.specs.Kept.{kept_rows}
use Rattle.qc_resolve.specs.Steps.{run}
use Rattle.qc_eval.specs.Entries.{entry_at}
use Rattle.qc_write.specs.declared.assignments.Placed.{Placed}
use Rattle.qc_write.specs.declared.assignments.Source.{Source}
use Rattle.qc_write.specs.declared.assignments.Source.TheVariants as source
use Rattle.qc_write.specs.declared.columns.Found.{Found}

-- ---- assignments

-- where the value of an assignment comes from: a literal, or the column at an index
pub data Origin : Type 0 where
  Given : (v : Value) → Origin
  Copied : (i : ℕ) → Origin

-- an assignment: the column that is set, its index, and where its value comes from
pub record Placing : Type 0 where
  pub place : ℕ
  pub column : Column
  pub origin : Origin

abbrev pub origin_of : Source → Origin
origin_of (source.Literal v) = Given v.now
origin_of (source.Column i) = Copied i

abbrev pub placing_of : Placed → Placing
placing_of p = record { place = p.place; column = p.column.now; origin = origin_of p.source }

abbrev pub found_of : Found → ℕ × Column
found_of f = (f.index, f.column.now)

-- the first column of a name, with its index, where the columns go on from an index
abbrev pub place_called : Name → ℕ → List Column → Result (ℕ × Column) SqlError
place_called name i [] = Err (unknown_column name)
place_called name i (c ∷ cs) = if bytes_eq c.name name then Ok (i, c) else place_called name (i + 1) cs

abbrev pub origin_placed : List Column → Column → Right → Result Origin SqlError
origin_placed columns c (right.Literal v) = refuse_if (is_other_sort c.kind v) (not_supported (codes "mixed value")) >>= λ _. Ok (Given v)
origin_placed columns c (right.Column name) =
    place_called name 0 columns >>= λ from.
    refuse_if (mixes (sort_of_kind c.kind) (sort_of_kind from.1.kind)) (not_supported (codes "mixed value")) >>= λ _.
    Ok (Copied from.0)

abbrev pub assignment_placed : List Column → Assignment → Result Placing SqlError
assignment_placed columns a =
    place_called a.name 0 columns >>= λ found.
    refuse_if found.1.primary (not_supported (codes "key change")) >>= λ _.
    origin_placed columns found.1 a.right >>= λ origin.
    Ok (record { place = found.0; column = found.1; origin = origin })

-- its columns are among so many
abbrev pub IsOriginIn : ℕ → Origin → Type 0
IsOriginIn n (Given v) = Unit {0}
IsOriginIn n (Copied i) = i < n

abbrev pub IsPlacingIn : ℕ → Placing → Type 0
IsPlacingIn n p = (p.place < n) × IsOriginIn n p.origin

-- ---- rows

-- the value that an assignment gives in a row
abbrev pub value_from : Origin → List Value → Value
value_from (Given v) row = v
value_from (Copied i) row = value_at row i

-- one assignment of a row
abbrev pub assigned_one : Placing → List Value → Result (List Value) SqlError
assigned_one p row = stored p.column (value_from p.origin row) >>= λ v. Ok (slice_set row p.place v)

-- the assignments of a row, from left to right
abbrev pub placed : List Placing → List Value → Result (List Value) SqlError
placed ps row = run assigned_one ps row

-- the row that is put in place of another, none where nothing changes
abbrev pub changed_row : List Placing → List Value → Result (Option (List Value)) SqlError
changed_row sets row = placed sets row >>= λ new. Ok (if same_values row new then None else Some new)

abbrev pub put_of : TableName → Option (List Value) → List RowOp
put_of t None = []
put_of t (Some row) = op.Put t row ∷ []

-- one row more
abbrev pub put_row : TableName → List Placing → List Value → List RowOp → Result (List RowOp) SqlError
put_row t sets row ops = changed_row sets row >>= λ new. Ok (ops ++ put_of t new)

-- the same by its index
abbrev pub put_step : TableName → List Placing → MapOf ℤ (List Value) → ℕ → List RowOp → Result (List RowOp) SqlError
put_step t sets rows i ops = put_row t sets (entry_at rows i).1 ops

-- ---- the whole

-- what UPDATE does to a table
abbrev pub update_validated : Bound → Name → ℕ → Update → Validated
update_validated b db session update =
    each (assignment_placed b.table.columns) update.sets >>= λ sets.
    kept_rows b.name b.table update.cond db session >>= λ entries.
    run (λ entry. put_row b.name sets entry.1) entries [] >>= λ ops.
    Ok (effect_of ops (length ops))
