-- What a statement stores in a bounded database is bounded, and its refusals are of bounded size.
use Rattle.std.proofs.Common.{◌≡◌, ℕ, ◌+◌, ◌≤◌, ℤ, Bool, true, false, not, cond, List, [], ◌∷◌, length, map, refl, arith, Option, Some, None, Result, Ok, Err}
use Rattle.std.specs.Prelude.{◌&&◌, ◌||◌, ◌==◌, ◌^◌, nat_lt, codes, bytes_eq, is_some, is_none, find, filter, IfSome}
use Rattle.std.specs.List.{list_all, list_any, AllByRecursion, filter_map}
use Rattle.std.specs.Ordering.{int_cmp, is_eq}
use Rattle.std.proofs.lemmas.Bool.{and_parts, and_from, or_parts, lt-ltb, ltb-false}
use Rattle.std.proofs.lemmas.List.{length-map}
use Rattle.qc_types.specs.declared.names.TableName.{TableName}
use Rattle.qc_types.specs.declared.names.Value.{Value}
use Rattle.qc_types.specs.declared.sql_error.SqlError.{SqlError}
use Rattle.qc_sql.specs.declared.tables.Column.{Column}
use Rattle.qc_sql.specs.declared.tables.RowOp.{RowOp}
use Rattle.qc_sql.specs.declared.tables.RowOp.TheVariants as op
use Rattle.qc_sql.specs.declared.statements.Statement.{Statement}
use Rattle.qc_sql.specs.declared.statements.Statement.TheVariants as statement
use Rattle.qc_sql.specs.declared.statements.Insert.{Insert}
use Rattle.qc_sql.specs.declared.statements.Update.{Update}
use Rattle.qc_sql.specs.declared.statements.Assignment.{Assignment}
use Rattle.qc_sql.specs.declared.statements.Right.{Right}
use Rattle.qc_sql.specs.declared.statements.Right.TheVariants as right
use Rattle.qc_sql.specs.declared.statements.Part.{Part}
use Rattle.qc_sql.specs.declared.statements.Part.TheVariants as piece
use Rattle.qc_sql.specs.declared.statements.PartKind.TheVariants as typed
use Rattle.qc_sql.specs.declared.statements.TableRef.{TableRef}
use Rattle.qc_sql.specs.declared.statements.Cond.{Cond}
use Rattle.qc_sql.specs.Database.{Name, Database, Table, Tables, tables_of, table_of, key_of}
use Rattle.qc_sql.specs.Rules.{full_name}
use Rattle.qc_sql.specs.Rows.{◌>>=◌, refuse_some, first_repeated, bound_in, is_null, mixes, sort_of_kind}
use Rattle.qc_sql.specs.Effects.{Effect, is_other_sort, is_too_long, may_be_null, stored, column_called, named_columns, columns_of_insert, lacking, refuse_lacking, given_values, value_named, whole_row, has_key, new_rows, insert_effect, Set, right_side, assignment, with_value, assigned, labelled, same_values, values_in, matching, scope_of, update_effect, delete_effect, new_column, new_key, bad_length, marked, has_one_key, known_database, create_effect, drop_effect, truncate_effect, create_db_effect, drop_db_of, effect}
use Rattle.qc_sql.specs.Errors.{no_database_selected, unknown_database, null_column, table_exists, unknown_table, unknown_column, duplicate_column, duplicate_entry, no_key_column, column_named_twice, table_full, too_many_columns, wrong_value_count, not_supported, too_long, database_exists}
use Rattle.qc_laws.specs.sizes.Names.{is_short, is_bounded_value, passes_if_there, is_short_table, is_short_cond, is_short_right, is_short_assignment, is_short_insert, is_short_update, is_short_part, is_short_statement}
use Rattle.qc_laws.specs.sizes.Replies.{is_bounded_kind, is_bounded_column, are_bounded_columns, is_bounded_row, is_bounded_database, is_bounded_operation, FitsError}
use Rattle.qc_laws.specs.sizes.Laws.{ChangesAreBounded, ChangeErrorsFit}
use Rattle.qc_laws.proofs.sizes.Each.{each_from_test, test_from_each, found_has, each_mapped, each_filtered}
use Rattle.qc_laws.proofs.sizes.Answered.{Answered, Anything, gives, refuses, after, weaker, unless, each_answered, refusal_fits, given_has, no_database_selected_fits, unknown_database_fits, null_column_fits, table_exists_fits, unknown_table_fits, unknown_column_fits, duplicate_column_fits, duplicate_entry_fits, no_key_column_fits, column_named_twice_fits, table_full_fits, too_many_columns_fits, wrong_value_count_fits, not_supported_fits, value_needed_fits, too_long_fits, database_exists_fits, no_database_to_drop_fits}
use Rattle.qc_laws.proofs.sizes.Tables.{Bounded, BoundedRow, BoundFits, bound_answers, name_or, table_columns, table_rows, repeated_short}
use Rattle.qc_laws.proofs.sizes.Expressions.{condition_answers}

abbrev ColumnFits : Column → Type 0
ColumnFits c = is_bounded_column c ≡ true

abbrev NameFits : Name → Type 0
NameFits n = is_short n ≡ true

abbrev OperationsFit : List RowOp → Type 0
OperationsFit ops = AllByRecursion (λ o. is_bounded_operation o ≡ true) ops

abbrev EffectFits : Effect → Type 0
EffectFits x = OperationsFit x.operations

column_name : (c : Column) → ColumnFits c → is_short c.name ≡ true
column_name c h = (and_parts (is_short c.name) (is_bounded_kind c.kind) h).0

-- the full name of a table has short parts
record TableFits (t : TableName) : Type 0 where
  db : is_short t.db ≡ true
  name : is_short t.name ≡ true

full_fits : (db : Name) (table : TableRef) → is_short db ≡ true → is_short_table table ≡ true → TableFits (full_name db table)
full_fits db table d h =
    let parts = and_parts (passes_if_there is_short table.db) (is_short table.name) h in
    record { db = name_or table.db db parts.0 d; name = parts.1 }

bound_fits : (d : Database) (t : TableName) → is_bounded_database d ≡ true → TableFits t → Answered BoundFits (bound_in d t t.name)
bound_fits d t h g = bound_answers d t t.name h g.db g.name g.name

-- ---- values for columns

stored_answers : (c : Column) (v : Value) → ColumnFits c → Bounded v → Answered Bounded (stored c v)
stored_answers c v h g =
    after _ (unless (is_null v && not (may_be_null c)) (null_column c.name) (null_column_fits c.name (column_name c h))) (λ _ _.
    after _ (unless (is_too_long c.kind v) (too_long c.name) (too_long_fits c.name (column_name c h))) (λ _ _. gives g))

-- the column that was looked for
abbrev called_in : Name → Option Column → Result Column SqlError
called_in name None = Err (unknown_column name)
called_in name (Some c) = Ok c

called_by : (name : Name) (o : Option Column) → is_short name ≡ true → IfSome o ColumnFits → Answered ColumnFits (called_in name o)
called_by name None n h = refuses (unknown_column_fits name n)
called_by name (Some c) n h = gives h

called_answers : (name : Name) (columns : List Column) → is_short name ≡ true → AllByRecursion ColumnFits columns → Answered ColumnFits (column_called name columns)
called_answers name columns n h = called_by name (find (λ c. bytes_eq c.name name) columns) n (found_has ColumnFits (λ c. bytes_eq c.name name) columns h)

-- ---- INSERT

abbrev Given : Name × Value → Type 0
Given g = Bounded g.1

named_answers : (seen : List Name) (columns : List Column) (names : List Name) → AllByRecursion ColumnFits columns → AllByRecursion NameFits names → Answered (AllByRecursion ColumnFits) (named_columns seen columns names)
named_answers seen columns [] h g = gives tt
named_answers seen columns (n ∷ ns) h g =
    after _ (called_answers n columns g.0 h) (λ c f.
    after _ (unless (list_any (bytes_eq n) seen) (column_named_twice n) (column_named_twice_fits n g.0)) (λ _ _.
    after _ (named_answers (n ∷ seen) columns ns h g.1) (λ cs e. gives (f, e))))

insert_columns : (columns : List Column) (names : Option (List Name)) → AllByRecursion ColumnFits columns → passes_if_there (list_all is_short) names ≡ true → Answered (AllByRecursion ColumnFits) (columns_of_insert columns names)
insert_columns columns None h g = gives h
insert_columns columns (Some names) h g = named_answers [] columns names h (each_from_test is_short names g)

lacking_by : (o : Option Column) → IfSome o ColumnFits → Answered Anything (refuse_lacking o)
lacking_by None h = gives tt
lacking_by (Some c) h = refuses (value_needed_fits c.name (column_name c h))

lacking_answers : (columns named : List Column) → AllByRecursion ColumnFits columns → Answered Anything (refuse_lacking (lacking columns named))
lacking_answers columns named h =
    let test : Column → Bool = λ c. not (may_be_null c) && not (list_any (λ d. bytes_eq d.name c.name) named) in
    lacking_by (find test columns) (found_has ColumnFits test columns h)

given_answers : (cs : List Column) (vs : List Value) → AllByRecursion ColumnFits cs → AllByRecursion Bounded vs → Answered (AllByRecursion Given) (given_values cs vs)
given_answers [] vs h g = gives tt
given_answers (c ∷ cs) [] h g = gives tt
given_answers (c ∷ cs) (v ∷ vs) h g =
    after _ (unless (is_other_sort c.kind v) (not_supported (codes "mixed value")) (not_supported_fits (codes "mixed value") refl)) (λ _ _.
    after _ (stored_answers c v h.0 g.0) (λ w f.
    after _ (given_answers cs vs h.1 g.1) (λ ws e. gives (f, e))))

named_bounded : (name : Name) (gs : List (Name × Value)) → AllByRecursion Given gs → Bounded (value_named name gs)
named_bounded name [] h = refl
named_bounded name (g ∷ gs) h = by (bytes_eq g.0 name) (named_bounded name gs h.1)
  where
    by : (b : Bool) → Bounded (value_named name gs) → Bounded (cond b g.1 (value_named name gs))
    by true later = h.0
    by false later = later

row_bounded : (columns : List Column) (given : List (Name × Value)) → AllByRecursion Given given → AllByRecursion Bounded (whole_row columns given)
row_bounded [] given h = tt
row_bounded (c ∷ cs) given h = (named_bounded c.name given h, row_bounded cs given h)

rows_answer : (t : TableName) (table : Table) (named : List Column) (taken : List ℤ) (number : ℕ) (tuples : List (List Value)) → TableFits t → AllByRecursion ColumnFits named
    → AllByRecursion (λ tuple. is_bounded_row tuple ≡ true) tuples → Answered (AllByRecursion BoundedRow) (new_rows t table named taken number tuples)
rows_answer t table named taken number [] n h g = gives tt
rows_answer t table named taken number (tuple ∷ tuples) n h g =
    after _ (unless (not (length tuple == length named)) (wrong_value_count number) (wrong_value_count_fits number)) (λ _ _.
    after _ (given_answers named tuple h (each_from_test is_bounded_value tuple g.0)) (λ given f.
    let key = key_of table.columns (whole_row table.columns given) in
    after _ (unless (has_key table key || list_any (λ k. is_eq (int_cmp k key)) taken) (duplicate_entry key) (duplicate_entry_fits key)) (λ _ _.
    after _ (unless (nat_lt 1048576 (length table.rows + number)) (table_full t) (table_full_fits t n.db n.name)) (λ _ _.
    after _ (rows_answer t table named (key ∷ taken) (number + 1) tuples n h g.1) (λ rows e. gives (row_bounded table.columns given f, e))))))

puts_fit : (t : TableName) (rows : List (List Value)) → AllByRecursion BoundedRow rows → OperationsFit (map (λ row. op.Put t row) rows)
puts_fit t rows h = each_mapped BoundedRow (λ o. is_bounded_operation o ≡ true) (λ row. op.Put t row) (λ row g. test_from_each is_bounded_value row g) rows h

insert_answers : (d : Database) (db : Name) (i : Insert) → is_bounded_database d ≡ true → is_short db ≡ true → is_short_insert i ≡ true → Answered EffectFits (insert_effect d db i)
insert_answers d db i h n g =
    let parts = and_parts (is_short_table i.table) (passes_if_there (list_all is_short) i.names && list_all (list_all is_bounded_value) i.rows) g in
    let others = and_parts (passes_if_there (list_all is_short) i.names) (list_all (list_all is_bounded_value) i.rows) parts.1 in
    let t = full_name db i.table in
    let full = full_fits db i.table n parts.0 in
    after _ (bound_fits d t h full) (λ b fit.
    let columns = (table_columns b.table fit.table).1 in
    after _ (insert_columns b.table.columns i.names columns others.0) (λ named e.
    after _ (lacking_answers b.table.columns named columns) (λ _ _.
    after _ (rows_answer t b.table named [] 1 i.rows full e (each_from_test (list_all is_bounded_value) i.rows others.1)) (λ rows f.
    gives (puts_fit t rows f)))))

-- ---- UPDATE and DELETE

record SetFits (s : Set) : Type 0 where
  column : ColumnFits s.column
  values : (row : List (Name × Value)) → AllByRecursion Given row → Bounded (s.value_in row)

right_answers : (columns : List Column) (c : Column) (r : Right) → AllByRecursion ColumnFits columns → is_short_right r ≡ true
    → Answered (λ f. (row : List (Name × Value)) → AllByRecursion Given row → Bounded (f row)) (right_side columns c r)
right_answers columns c (right.Literal v) h g =
    after _ (unless (is_other_sort c.kind v) (not_supported (codes "mixed value")) (not_supported_fits (codes "mixed value") refl)) (λ _ _. gives (λ row _. g))
right_answers columns c (right.Column name) h g =
    after _ (called_answers name columns g h) (λ from _.
    after _ (unless (mixes (sort_of_kind c.kind) (sort_of_kind from.kind)) (not_supported (codes "mixed value")) (not_supported_fits (codes "mixed value") refl)) (λ _ _.
    gives (λ row e. named_bounded name row e)))

assignment_answers : (columns : List Column) → AllByRecursion ColumnFits columns → (a : Assignment) → is_short_assignment a ≡ true → Answered SetFits (assignment columns a)
assignment_answers columns h a g =
    let parts = and_parts (is_short a.name) (is_short_right a.right) g in
    after _ (called_answers a.name columns parts.0 h) (λ c e.
    after _ (unless c.primary (not_supported (codes "key change")) (not_supported_fits (codes "key change") refl)) (λ _ _.
    after _ (right_answers columns c a.right h parts.1) (λ f k. gives (record { column = e; values = k }))))

with_bounded : (name : Name) (v : Value) (row : List (Name × Value)) → Bounded v → AllByRecursion Given row → AllByRecursion Given (with_value name v row)
with_bounded name v row g h = each_mapped Given Given (λ cell. cond (bytes_eq cell.0 name) (name, v) cell) (λ cell e. by (bytes_eq cell.0 name) cell e) row h
  where
    by : (b : Bool) (cell : Name × Value) → Given cell → Given (cond b (name, v) cell)
    by true cell e = g
    by false cell e = e

assigned_answers : (sets : List Set) (row : List (Name × Value)) → AllByRecursion SetFits sets → AllByRecursion Given row → Answered (AllByRecursion Given) (assigned sets row)
assigned_answers [] row h g = gives g
assigned_answers (s ∷ ss) row h g =
    after _ (stored_answers s.column (s.value_in row) h.0.column (h.0.values row g)) (λ v e.
    assigned_answers ss (with_value s.column.name v row) h.1 (with_bounded s.column.name v row e g))

labelled_bounded : (columns : List Column) (row : List Value) → BoundedRow row → AllByRecursion Given (labelled columns row)
labelled_bounded [] row h = tt
labelled_bounded (c ∷ cs) [] h = tt
labelled_bounded (c ∷ cs) (v ∷ vs) h = (h.0, labelled_bounded cs vs h.1)

update_answers : (d : Database) (db : Name) (session : ℕ) (u : Update) → is_bounded_database d ≡ true → is_short db ≡ true → is_short_update u ≡ true → Answered EffectFits (update_effect d db session u)
update_answers d db session u h n g =
    let parts = and_parts (is_short_table u.table) (list_all is_short_assignment u.sets && passes_if_there is_short_cond u.cond) g in
    let others = and_parts (list_all is_short_assignment u.sets) (passes_if_there is_short_cond u.cond) parts.1 in
    let t = full_name db u.table in
    after _ (bound_fits d t h (full_fits db u.table n parts.0)) (λ b fit.
    let columns = b.table.columns in
    after _ (each_answered (λ a. is_short_assignment a ≡ true) SetFits (assignment columns) (assignment_answers columns (table_columns b.table fit.table).1) u.sets (each_from_test is_short_assignment u.sets others.0)) (λ sets e.
    after _ (condition_answers (scope_of b db session) (fit, tt) n u.cond others.1) (λ keeps _.
    after _ (each_answered (λ entry. BoundedRow entry.1) (λ (p : List Value × List Value). BoundedRow p.1) (λ entry. assigned sets (labelled columns entry.1) >>= λ row. Ok (entry.1, values_in row))
    (λ entry f. after _ (assigned_answers sets (labelled columns entry.1) e.1 (labelled_bounded columns entry.1 f)) (λ row k. gives (each_mapped Given Bounded (λ cell. cell.1) (λ cell x. x) row k)))
    (matching b.table keeps) (each_filtered (λ entry. BoundedRow entry.1) (λ entry. keeps (entry.1 ∷ [])) b.table.rows (table_rows b.table fit.table))) (λ pairs f.
    let test : List Value × List Value → Bool = λ p. not (same_values p.0 p.1) in
    gives (each_mapped (λ (p : List Value × List Value). BoundedRow p.1) (λ o. is_bounded_operation o ≡ true) (λ p. op.Put t p.1) (λ p k. test_from_each is_bounded_value p.1 k) (filter test pairs)
    (each_filtered (λ (p : List Value × List Value). BoundedRow p.1) test pairs f.1))))))

dels_fit : (t : TableName) (gone : List (ℤ × List Value)) → OperationsFit (map (λ entry. op.Del t entry.0) gone)
dels_fit t [] = tt
dels_fit t (entry ∷ entries) = (refl, dels_fit t entries)

delete_answers : (d : Database) (db : Name) (session : ℕ) (table : TableRef) (c : Option Cond) → is_bounded_database d ≡ true → is_short db ≡ true → is_short_table table ≡ true → passes_if_there is_short_cond c ≡ true
    → Answered EffectFits (delete_effect d db session table c)
delete_answers d db session table c h n g e =
    let t = full_name db table in
    after _ (bound_fits d t h (full_fits db table n g)) (λ b fit.
    after _ (condition_answers (scope_of b db session) (fit, tt) n c e) (λ keeps _.
    gives (dels_fit t (matching b.table keeps))))

-- ---- CREATE, DROP and TRUNCATE

known_answers : (d : Database) (t : TableName) → Answered Anything (known_database d t)
known_answers d t =
    after _ (unless (length t.db == 0) no_database_selected no_database_selected_fits) (λ _ _.
    weaker (λ _ _. tt) (unless (is_none (tables_of t.db d)) (unknown_database t.db) (unknown_database_fits t.db)))

written_names : (parts : List Part) → AllByRecursion (λ p. is_short_part p ≡ true) parts → AllByRecursion (λ c. is_short c.name ≡ true) (filter_map new_column parts)
written_names [] h = tt
written_names (piece.Column name typed.BigInt required key ∷ parts) h = (h.0, written_names parts h.1)
written_names (piece.Column name (typed.VarChar n) required key ∷ parts) h = (h.0, written_names parts h.1)
written_names (piece.Primary name ∷ parts) h = written_names parts h.1

key_names : (parts : List Part) → AllByRecursion (λ p. is_short_part p ≡ true) parts → AllByRecursion NameFits (filter_map new_key parts)
key_names [] h = tt
key_names (piece.Column name kind required key ∷ parts) h = key_names parts h.1
key_names (piece.Primary name ∷ parts) h = (h.0, key_names parts h.1)

length_below : (n : ℕ) → (n == 0 || nat_lt 65535 n) ≡ false → nat_lt n (2 ^ 16) ≡ true
length_below n h = let g = ltb-false 65535 n (or_parts (n == 0) (nat_lt 65535 n) h).1 in lt-ltb n (2 ^ 16) (omega arith)

written_kinds : (parts : List Part) → list_any bad_length parts ≡ false → AllByRecursion (λ c. is_bounded_kind c.kind ≡ true) (filter_map new_column parts)
written_kinds [] h = tt
written_kinds (piece.Column name typed.BigInt required key ∷ parts) h = (refl, written_kinds parts h)
written_kinds (piece.Column name (typed.VarChar n) required key ∷ parts) h =
    let both = or_parts (n == 0 || nat_lt 65535 n) (list_any bad_length parts) h in
    (length_below n both.0, written_kinds parts both.1)
written_kinds (piece.Primary name ∷ parts) h = written_kinds parts h

marked_fit : (keys : List Name) (cs : List Column) → AllByRecursion (λ c. is_short c.name ≡ true) cs → AllByRecursion (λ c. is_bounded_kind c.kind ≡ true) cs → AllByRecursion ColumnFits (map (marked keys) cs)
marked_fit keys [] h g = tt
marked_fit keys (c ∷ cs) h g = (and_from (is_short c.name) (is_bounded_kind c.kind) h.0 g.0, marked_fit keys cs h.1 g.1)

unless_told : (o : Option Name) (f : Name → SqlError) → IfSome o (λ n. FitsError (f n)) → Answered (λ _. o ≡ None) (refuse_some o f)
unless_told None f h = gives refl
unless_told (Some n) f h = refuses h

-- a key names a column
some_written : (written : List Column) (keys : List Name) (columns : List Column) → has_one_key written keys columns ≡ true → find (λ k. not (list_any (λ c. bytes_eq c.name k) written)) keys ≡ None → 1 ≤ length written
some_written [] [] columns h g = absurd cc
some_written [] (k ∷ ks) columns h g = absurd cc
some_written (c ∷ cs) keys columns h g = omega arith

not_not : (b : Bool) → not b ≡ false → b ≡ true
not_not true h = refl
not_not false h = absurd cc

create_answers : (d : Database) (db : Name) (table : TableRef) (parts : List Part) → is_short db ≡ true → is_short_table table ≡ true → list_all is_short_part parts ≡ true → Answered EffectFits (create_effect d db table parts)
create_answers d db table parts n g h =
    let t = full_name db table in
    let full = full_fits db table n g in
    let written = filter_map new_column parts in
    let keys = filter_map new_key parts in
    let columns = map (marked keys) written in
    let short = each_from_test is_short_part parts h in
    let names = written_names parts short in
    let unknown : Name → Bool = λ k. not (list_any (λ c. bytes_eq c.name k) written) in
    after _ (known_answers d t) (λ _ _.
    after _ (unless (is_some (table_of t d)) (table_exists t) (table_exists_fits t full.db full.name)) (λ _ _.
    after _ (unless (nat_lt 64 (length written)) too_many_columns too_many_columns_fits) (λ _ _.
    after _ (repeated_answers (first_repeated [] (map (λ c. c.name) written)) (repeated_short [] (map (λ c. c.name) written) (each_mapped (λ c. is_short c.name ≡ true) NameFits (λ c. c.name) (λ c e. e) written names))) (λ _ _.
    after _ (unless_told (find unknown keys) no_key_column (key_fits (find unknown keys) (found_has NameFits unknown keys (key_names parts short)))) (λ _ all.
    after _ (unless (not (has_one_key written keys columns)) (not_supported (codes "primary key")) (not_supported_fits (codes "primary key") refl)) (λ _ one.
    after _ (unless (list_any bad_length parts) (not_supported (codes "VARCHAR length")) (not_supported_fits (codes "VARCHAR length") refl)) (λ _ good.
    gives (
      and_from (nat_lt 0 (length columns)) (list_all is_bounded_column columns)
          (lt-ltb 0 (length columns) (omega (arith, length-map written (marked keys), some_written written keys columns (not_not (has_one_key written keys columns) one) all)))
          (test_from_each is_bounded_column columns (marked_fit keys written names (written_kinds parts good))),
      tt,
    ))))))))
  where
    repeated_answers : (o : Option Name) → passes_if_there is_short o ≡ true → Answered Anything (refuse_some o duplicate_column)
    repeated_answers None h = gives tt
    repeated_answers (Some n) h = refuses (duplicate_column_fits n h)

    key_fits : (o : Option Name) → IfSome o NameFits → IfSome o (λ n. FitsError (no_key_column n))
    key_fits None h = tt
    key_fits (Some n) h = no_key_column_fits n h

drop_answers : (d : Database) (db : Name) (table : TableRef) → is_short db ≡ true → is_short_table table ≡ true → Answered EffectFits (drop_effect d db table)
drop_answers d db table n g =
    let t = full_name db table in
    let full = full_fits db table n g in
    after _ (known_answers d t) (λ _ _.
    after _ (unless (is_none (table_of t d)) (unknown_table t) (unknown_table_fits t full.db full.name)) (λ _ _. gives (refl, tt)))

truncate_answers : (d : Database) (db : Name) (table : TableRef) → is_bounded_database d ≡ true → is_short db ≡ true → is_short_table table ≡ true → Answered EffectFits (truncate_effect d db table)
truncate_answers d db table h n g =
    after _ (bound_fits d (full_name db table) h (full_fits db table n g)) (λ b fit.
    gives (refl, ((and_parts (are_bounded_columns b.table.columns) (list_all (λ entry. is_bounded_row entry.1) b.table.rows) fit.table).0, tt)))

create_db_answers : (d : Database) (name : Name) → is_short name ≡ true → Answered EffectFits (create_db_effect d name)
create_db_answers d name h = after _ (unless (is_some (tables_of name d)) (database_exists name) (database_exists_fits name h)) (λ _ _. gives (refl, tt))

drop_db_answers : (name : Name) (o : Option Tables) → is_short name ≡ true → Answered EffectFits (drop_db_of name o)
drop_db_answers name None h = refuses (no_database_to_drop_fits name h)
drop_db_answers name (Some tables) h = gives (refl, tt)

-- ---- the whole

effect_answers : (s : Statement) (d : Database) (db : Name) (session : ℕ) → is_short_statement s ≡ true → is_bounded_database d ≡ true → is_short db ≡ true → Answered EffectFits (effect s d db session)
unfolding effect
effect_answers (statement.Select s) d db session h g n = gives tt
effect_answers (statement.Insert i) d db session h g n = insert_answers d db i g n h
effect_answers (statement.Update u) d db session h g n = update_answers d db session u g n h
effect_answers (statement.Delete x) d db session h g n =
    let parts = and_parts (is_short_table x.table) (passes_if_there is_short_cond x.cond) h in delete_answers d db session x.table x.cond g n parts.0 parts.1
effect_answers (statement.Truncate t) d db session h g n = truncate_answers d db t g n h
effect_answers (statement.CreateTable t parts) d db session h g n =
    let both = and_parts (is_short_table t) (list_all is_short_part parts) h in create_answers d db t parts n both.0 both.1
effect_answers (statement.DropTable t) d db session h g n = drop_answers d db t n h
effect_answers (statement.CreateDb name) d db session h g n = create_db_answers d name h
effect_answers (statement.DropDb name) d db session h g n = drop_db_answers name (tables_of name d) h
effect_answers (statement.UseDb name) d db session h g n = gives tt
effect_answers statement.Begin d db session h g n = gives tt
effect_answers statement.Commit d db session h g n = gives tt
effect_answers statement.Rollback d db session h g n = gives tt
effect_answers (statement.Set s) d db session h g n = gives tt
effect_answers statement.ShowStatus d db session h g n = gives tt
effect_answers statement.FlushCache d db session h g n = gives tt
effect_answers statement.FlushTables d db session h g n = gives tt
effect_answers statement.ResetCache d db session h g n = gives tt

pub changes_are_bounded : ChangesAreBounded
changes_are_bounded s d db session x h g n same = test_from_each is_bounded_operation x.operations (given_has EffectFits (effect s d db session) x (effect_answers s d db session h g n) same)

pub change_errors_fit : ChangeErrorsFit
change_errors_fit s d db session e h g n same = refusal_fits EffectFits (effect s d db session) e (effect_answers s d db session h g n) same
