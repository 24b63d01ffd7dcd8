-- The operations of a statement that changes rows, tables or databases, or its refusal.
use Rattle.std.specs.Prelude.{ℕ, ◌+◌, ℤ, Bool, true, false, not, ◌&&◌, ◌||◌, List, [], ◌∷◌, length, map, filter, Option, Some, None, Result, Ok, Err, is_some, is_none, nat_lt, ◌==◌, bytes_eq, codes, find, if◌then◌else◌, count_by}
use Rattle.std.specs.List.{list_any, list_all, filter_map}
use Rattle.std.specs.Ordering.{int_cmp, is_eq}
use Rattle.std.specs.BTreeMap.{is_at}
use Rattle.std.specs.Map.{lookup}
use Rattle.qc_types.specs.declared.names.TableName.{TableName}
use Rattle.qc_types.specs.declared.names.Value.{Value}
use Rattle.qc_types.specs.declared.names.Value.TheVariants as value
use Rattle.qc_types.specs.declared.sql_error.SqlError.{SqlError}
use Rattle.qc_sql.specs.declared.tables.Column.{Column}
use Rattle.qc_sql.specs.declared.tables.Kind.{Kind}
use Rattle.qc_sql.specs.declared.tables.Kind.TheVariants as kind
use Rattle.qc_sql.specs.declared.tables.RowOp.{RowOp}
use Rattle.qc_sql.specs.declared.tables.RowOp.TheVariants as op
use Rattle.qc_sql.specs.declared.statements.Statement.{Statement}
use Rattle.qc_sql.specs.declared.statements.Statement.TheVariants as statement
use Rattle.qc_sql.specs.declared.statements.Insert.{Insert}
use Rattle.qc_sql.specs.declared.statements.Update.{Update}
use Rattle.qc_sql.specs.declared.statements.Assignment.{Assignment}
use Rattle.qc_sql.specs.declared.statements.Right.{Right}
use Rattle.qc_sql.specs.declared.statements.Right.TheVariants as right
use Rattle.qc_sql.specs.declared.statements.Part.{Part}
use Rattle.qc_sql.specs.declared.statements.Part.TheVariants as part
use Rattle.qc_sql.specs.declared.statements.PartKind.TheVariants as part_kind
use Rattle.qc_sql.specs.declared.statements.TableRef.{TableRef}
use Rattle.qc_sql.specs.declared.statements.Cond.{Cond}
use Rattle.qc_sql.specs.Database.{Name, Database, Table, Tables, tables_of, table_of, key_of, is_int, most_rows}
use Rattle.qc_sql.specs.Rules.{full_name}
use Rattle.qc_sql.specs.Rows.{◌>>=◌, each, refuse_if, refuse_some, first_repeated, Bound, bound_in, Scope, Combination, condition, value_cmp, is_null, mixes, sort_of_kind, sort_of_value}
use Rattle.qc_sql.specs.Errors.{no_database_selected, database_exists, no_database_to_drop, unknown_database, null_column, table_exists, unknown_table, unknown_column, duplicate_column, duplicate_entry, no_key_column, column_named_twice, table_full, too_many_columns, wrong_value_count, not_supported, value_needed, too_long}

pub record Effect : Type 0 where
  pub operations : List RowOp
  pub affected : ℕ

abbrev pub Validated : Type 0
Validated = Result Effect SqlError

abbrev pub effect_of : List RowOp → ℕ → Effect
effect_of ops affected = record { operations = ops; affected = affected }

-- ---- values for columns

-- a number for a column of texts, or a text for one of numbers
abbrev pub is_other_sort : Kind → Value → Bool
is_other_sort k v = mixes (sort_of_kind k) (sort_of_value v)

abbrev pub is_too_long : Kind → Value → Bool
is_too_long (kind.Str n) (value.Str t) = nat_lt n (length t)
is_too_long k v = false

abbrev pub may_be_null : Column → Bool
may_be_null c = not (c.not_null || c.primary)

-- a value that may stand in a column
abbrev pub stored : Column → Value → Result Value SqlError
stored c v =
    refuse_if (is_null v && not (may_be_null c)) (null_column c.name) >>= λ _.
    refuse_if (is_too_long c.kind v) (too_long c.name) >>= λ _.
    Ok v

abbrev pub column_called : Name → List Column → Result Column SqlError
column_called name columns = found (find (λ c. bytes_eq c.name name) columns)
  where
    found : Option Column → Result Column SqlError
    found None = Err (unknown_column name)
    found (Some c) = Ok c

-- ---- INSERT

-- the columns that are named, each there and none twice
abbrev pub named_columns : List Name → List Column → List Name → Result (List Column) SqlError
named_columns seen columns [] = Ok []
named_columns seen columns (n ∷ ns) =
    column_called n columns >>= λ c.
    refuse_if (list_any (bytes_eq n) seen) (column_named_twice n) >>= λ _.
    named_columns (n ∷ seen) columns ns >>= λ cs. Ok (c ∷ cs)

abbrev pub columns_of_insert : List Column → Option (List Name) → Result (List Column) SqlError
columns_of_insert columns None = Ok columns
columns_of_insert columns (Some names) = named_columns [] columns names

-- a column that needs a value and isn't named
abbrev pub lacking : List Column → List Column → Option Column
lacking columns named = find (λ c. not (may_be_null c) && not (list_any (λ d. bytes_eq d.name c.name) named)) columns

abbrev pub refuse_lacking : Option Column → Result (Unit {0}) SqlError
refuse_lacking None = Ok tt
refuse_lacking (Some c) = Err (value_needed c.name)

-- each value of a tuple under its column
abbrev pub given_values : List Column → List Value → Result (List (Name × Value)) SqlError
given_values [] vs = Ok []
given_values (c ∷ cs) [] = Ok []
given_values (c ∷ cs) (v ∷ vs) =
    refuse_if (is_other_sort c.kind v) (not_supported (codes "mixed value")) >>= λ _.
    stored c v >>= λ w.
    given_values cs vs >>= λ ws. Ok ((c.name, w) ∷ ws)

abbrev pub value_named : Name → List (Name × Value) → Value
value_named name [] = value.Null
value_named name (g ∷ gs) = if bytes_eq g.0 name then g.1 else value_named name gs

abbrev pub whole_row : List Column → List (Name × Value) → List Value
whole_row columns given = map (λ c. value_named c.name given) columns

abbrev pub has_key : Table → ℤ → Bool
has_key t key = is_some (lookup (is_at (int_cmp key)) t.rows)

-- the rows of the tuples, in order, with the keys that earlier tuples took
abbrev pub new_rows : TableName → Table → List Column → List ℤ → ℕ → List (List Value) → Result (List (List Value)) SqlError
new_rows t table named taken number [] = Ok []
new_rows t table named taken number (tuple ∷ tuples) =
    refuse_if (not (length tuple == length named)) (wrong_value_count number) >>= λ _.
    given_values named tuple >>= λ given.
    let row = whole_row table.columns given in
    let key = key_of table.columns row in
    refuse_if (has_key table key || list_any (λ k. is_eq (int_cmp k key)) taken) (duplicate_entry key) >>= λ _.
    refuse_if (nat_lt most_rows (length table.rows + number)) (table_full t) >>= λ _.
    new_rows t table named (key ∷ taken) (number + 1) tuples >>= λ rows. Ok (row ∷ rows)

abbrev pub insert_effect : Database → Name → Insert → Validated
insert_effect d db insert =
    let t = full_name db insert.table in
    bound_in d t t.name >>= λ b.
    columns_of_insert b.table.columns insert.names >>= λ named.
    refuse_lacking (lacking b.table.columns named) >>= λ _.
    new_rows t b.table named [] 1 insert.rows >>= λ rows.
    Ok (effect_of (map (λ row. op.Put t row) rows) (length rows))

-- ---- UPDATE and DELETE

-- an assignment that was found good: its column, and the value that it gives in a row
pub record Set : Type 0 where
  pub column : Column
  pub value_in : List (Name × Value) → Value

abbrev pub right_side : List Column → Column → Right → Result (List (Name × Value) → Value) SqlError
right_side columns c (right.Literal v) = refuse_if (is_other_sort c.kind v) (not_supported (codes "mixed value")) >>= λ _. Ok (λ row. v)
right_side columns c (right.Column name) =
    column_called name columns >>= λ from.
    refuse_if (mixes (sort_of_kind c.kind) (sort_of_kind from.kind)) (not_supported (codes "mixed value")) >>= λ _.
    Ok (value_named name)

abbrev pub assignment : List Column → Assignment → Result Set SqlError
assignment columns a =
    column_called a.name columns >>= λ c.
    refuse_if c.primary (not_supported (codes "key change")) >>= λ _.
    right_side columns c a.right >>= λ f.
    Ok (record { column = c; value_in = f })

abbrev pub with_value : Name → Value → List (Name × Value) → List (Name × Value)
with_value name v row = map (λ cell. if bytes_eq cell.0 name then (name, v) else cell) row

-- the assignments of a row, from left to right
abbrev pub assigned : List Set → List (Name × Value) → Result (List (Name × Value)) SqlError
assigned [] row = Ok row
assigned (s ∷ ss) row = stored s.column (s.value_in row) >>= λ v. assigned ss (with_value s.column.name v row)

abbrev pub labelled : List Column → List Value → List (Name × Value)
labelled [] vs = []
labelled (c ∷ cs) [] = []
labelled (c ∷ cs) (v ∷ vs) = (c.name, v) ∷ labelled cs vs

abbrev pub same_values : List Value → List Value → Bool
same_values [] [] = true
same_values (v ∷ vs) (w ∷ ws) = is_eq (value_cmp v w) && same_values vs ws
same_values [] (w ∷ ws) = false
same_values (v ∷ vs) [] = false

abbrev pub values_in : List (Name × Value) → List Value
values_in row = map (λ cell. cell.1) row

-- the rows of a table for which a condition is true, in key order
abbrev pub matching : Table → (Combination → Bool) → List (ℤ × List Value)
matching table keeps = filter (λ entry. keeps (entry.1 ∷ [])) table.rows

abbrev pub scope_of : Bound → Name → ℕ → Scope
scope_of b db session = record { bounds = b ∷ []; db = db; session = session }

abbrev pub update_effect : Database → Name → ℕ → Update → Validated
update_effect d db session update =
    let t = full_name db update.table in
    bound_in d t t.name >>= λ b.
    each (assignment b.table.columns) update.sets >>= λ sets.
    condition (scope_of b db session) update.cond >>= λ keeps.
    each (λ entry. assigned sets (labelled b.table.columns entry.1) >>= λ row. Ok (entry.1, values_in row)) (matching b.table keeps) >>= λ pairs.
    let changed = filter (λ (p : List Value × List Value). not (same_values p.0 p.1)) pairs in
    Ok (effect_of (map (λ p. op.Put t p.1) changed) (length changed))

abbrev pub delete_effect : Database → Name → ℕ → TableRef → Option Cond → Validated
delete_effect d db session table cond =
    let t = full_name db table in
    bound_in d t t.name >>= λ b.
    condition (scope_of b db session) cond >>= λ keeps.
    let gone = matching b.table keeps in
    Ok (effect_of (map (λ entry. op.Del t entry.0) gone) (length gone))

-- ---- CREATE, DROP and TRUNCATE

abbrev pub new_column : Part → Option Column
new_column (part.Column name part_kind.BigInt not_null primary) = Some (record { name = name; kind = kind.Int; not_null = not_null; primary = primary })
new_column (part.Column name (part_kind.VarChar n) not_null primary) = Some (record { name = name; kind = kind.Str n; not_null = not_null; primary = primary })
new_column (part.Primary name) = None

abbrev pub new_key : Part → Option Name
new_key (part.Primary name) = Some name
new_key (part.Column name k not_null primary) = None

abbrev pub bad_length : Part → Bool
bad_length (part.Column name (part_kind.VarChar n) not_null primary) = n == 0 || nat_lt 65535 n
bad_length _ = false

-- a column named in PRIMARY KEY (name) is primary
abbrev pub marked : List Name → Column → Column
marked keys c = record { name = c.name; kind = c.kind; not_null = c.not_null || c.primary || list_any (bytes_eq c.name) keys; primary = c.primary || list_any (bytes_eq c.name) keys }

abbrev pub has_one_key : List Column → List Name → List Column → Bool
has_one_key written keys columns =
    count_by (λ c. c.primary) written + length keys == 1 && list_all (λ c. not c.primary || is_int c.kind) columns

abbrev pub known_database : Database → TableName → Result (Unit {0}) SqlError
known_database d t = refuse_if (length t.db == 0) no_database_selected >>= λ _. refuse_if (is_none (tables_of t.db d)) (unknown_database t.db)

abbrev pub create_effect : Database → Name → TableRef → List Part → Validated
create_effect d db table parts =
    let t = full_name db table in
    let written = filter_map new_column parts in
    let keys = filter_map new_key parts in
    let columns = map (marked keys) written in
    known_database d t >>= λ _.
    refuse_if (is_some (table_of t d)) (table_exists t) >>= λ _.
    refuse_if (nat_lt 64 (length written)) too_many_columns >>= λ _.
    refuse_some (first_repeated [] (map (λ c. c.name) written)) duplicate_column >>= λ _.
    refuse_some (find (λ k. not (list_any (λ c. bytes_eq c.name k) written)) keys) no_key_column >>= λ _.
    refuse_if (not (has_one_key written keys columns)) (not_supported (codes "primary key")) >>= λ _.
    refuse_if (list_any bad_length parts) (not_supported (codes "VARCHAR length")) >>= λ _.
    Ok (effect_of (op.CreateTable t columns ∷ []) 0)

abbrev pub drop_effect : Database → Name → TableRef → Validated
drop_effect d db table =
    let t = full_name db table in
    known_database d t >>= λ _.
    refuse_if (is_none (table_of t d)) (unknown_table t) >>= λ _.
    Ok (effect_of (op.DropTable t ∷ []) 0)

abbrev pub truncate_effect : Database → Name → TableRef → Validated
truncate_effect d db table =
    let t = full_name db table in
    bound_in d t t.name >>= λ b.
    Ok (effect_of (op.DropTable t ∷ op.CreateTable t b.table.columns ∷ []) 0)

abbrev pub create_db_effect : Database → Name → Validated
create_db_effect d name = refuse_if (is_some (tables_of name d)) (database_exists name) >>= λ _. Ok (effect_of (op.CreateDb name ∷ []) 1)

abbrev pub drop_db_of : Name → Option Tables → Validated
drop_db_of name None = Err (no_database_to_drop name)
drop_db_of name (Some tables) = Ok (effect_of (op.DropDb name ∷ []) (length tables))

-- what a statement does to a database, for a session with this current database and number
unfoldable pub effect : Statement → Database → Name → ℕ → Validated
effect (statement.Insert i) d db session = insert_effect d db i
effect (statement.Update u) d db session = update_effect d db session u
effect (statement.Delete x) d db session = delete_effect d db session x.table x.cond
effect (statement.Truncate t) d db session = truncate_effect d db t
effect (statement.CreateTable t parts) d db session = create_effect d db t parts
effect (statement.DropTable t) d db session = drop_effect d db t
effect (statement.CreateDb name) d db session = create_db_effect d name
effect (statement.DropDb name) d db session = drop_db_of name (tables_of name d)
effect _ d db session = Ok (effect_of [] 0)
