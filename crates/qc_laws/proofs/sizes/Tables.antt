-- The tables of FROM and their columns, of a database that is bounded.
use Rattle.std.proofs.Common.{◌≡◌, ℕ, suc, ◌+◌, ◌≤◌, Bool, true, false, cond, List, [], ◌∷◌, length, map, get_or, refl, ap, arith, Option, Some, None}
use Rattle.std.specs.Prelude.{◌==◌, not, nat_lt, is_some, unwrap_or, bytes_eq, filter, option_and_then}
use Rattle.std.specs.List.{list_all, list_any, AllByRecursion}
use Rattle.std.specs.Map.{lookup}
use Rattle.std.proofs.lemmas.List.{length-append}
use Rattle.std.proofs.lemmas.Bool.{and_parts, leb-true, ltb-true}
use Rattle.qc_types.specs.declared.names.TableName.{TableName}
use Rattle.qc_types.specs.declared.names.Value.{Value}
use Rattle.qc_types.specs.declared.names.Value.TheVariants as value
use Rattle.qc_sql.specs.declared.tables.Column.{Column}
use Rattle.qc_sql.specs.declared.statements.ColumnName.{ColumnName}
use Rattle.qc_sql.specs.declared.statements.Source.{Source}
use Rattle.qc_sql.specs.Database.{Name, Database, Table, Tables, tables_of, table_of, at_name}
use Rattle.qc_sql.specs.Rules.{full_name}
use Rattle.qc_sql.specs.Errors.{no_database_selected, unknown_database}
use Rattle.qc_sql.specs.Rows.{Bound, Combination, found_table, bind, bound_in, first_repeated, combinations, Found, columns_from, all_columns, has_name, only_one, find_column}
use Rattle.qc_laws.specs.sizes.Names.{is_short, is_bounded_value, passes_if_there, is_short_column, is_short_table, is_short_source}
use Rattle.qc_laws.specs.sizes.Replies.{is_bounded_column, are_bounded_columns, is_bounded_row, is_bounded_table, is_bounded_database, FitsValue}
use Rattle.qc_laws.proofs.sizes.Each.{each_from_test, each_weaker, each_mapped, each_append, each_filtered, each_at, each_joined}
use Rattle.qc_laws.proofs.sizes.Answered.{no_database_selected_fits, unknown_database_fits, no_such_table_fits, ambiguous_column_fits, unknown_column_fits, Answered, gives, refuses, after, unless}
use Rattle.qc_laws.proofs.sizes.Decimals.{signed_few}

-- ---- values

abbrev pub Bounded : Value → Type 0
Bounded v = is_bounded_value v ≡ true

abbrev pub BoundedRow : List Value → Type 0
BoundedRow row = AllByRecursion Bounded row

abbrev pub BoundedCombination : Combination → Type 0
BoundedCombination c = AllByRecursion BoundedRow c

abbrev pub BoundedGroup : List Combination → Type 0
BoundedGroup group = AllByRecursion BoundedCombination group

pub value_fits : (v : Value) → Bounded v → FitsValue v
value_fits value.Null h = tt
value_fits (value.Int n) h = omega (arith, signed_few n)
value_fits (value.Str t) h = leb-true (length t) 65535 h

-- ---- the tables of FROM

pub record BoundFits (b : Bound) : Type 0 where
  pub called : is_short b.called ≡ true
  pub db : is_short b.name.db ≡ true
  pub name : is_short b.name.name ≡ true
  pub table : is_bounded_table b.table ≡ true

pub found_passes : {K X : Type 0} (t : X → Bool) (test : K → Bool) (es : List (K × X)) → list_all (λ e. t e.1) es ≡ true → passes_if_there t (lookup test es) ≡ true
found_passes t test [] h = refl
found_passes t test (e ∷ es) h = let parts = and_parts (t e.1) (list_all (λ e. t e.1) es) h in by (test e.0) parts.0 (found_passes t test es parts.1)
  where
    by : (b : Bool) → t e.1 ≡ true → passes_if_there t (lookup test es) ≡ true → passes_if_there t (cond b (Some e.1) (lookup test es)) ≡ true
    by true here later = here
    by false here later = later

abbrev pub are_bounded_tables : Tables → Bool
are_bounded_tables tables = list_all (λ named. is_bounded_table named.1) tables

pub tables_bounded : (d : Database) (db : Name) → is_bounded_database d ≡ true → passes_if_there are_bounded_tables (tables_of db d) ≡ true
tables_bounded d db h = found_passes are_bounded_tables _ d h

pub table_bounded : (d : Database) (t : TableName) → is_bounded_database d ≡ true → passes_if_there is_bounded_table (table_of t d) ≡ true
table_bounded d t h = by (tables_of t.db d) (tables_bounded d t.db h)
  where
    by : (o : Option Tables) → passes_if_there are_bounded_tables o ≡ true → passes_if_there is_bounded_table (option_and_then (at_name t.name) o) ≡ true
    by None g = refl
    by (Some tables) g = found_passes is_bounded_table _ tables g

pub found_answers : (t : TableName) (o : Option Table) → is_short t.db ≡ true → is_short t.name ≡ true → passes_if_there is_bounded_table o ≡ true → Answered (λ table. is_bounded_table table ≡ true) (found_table t o)
found_answers t None d n h = refuses (no_such_table_fits t d n)
found_answers t (Some table) d n h = gives h

pub bound_answers : (d : Database) (t : TableName) (called : Name) → is_bounded_database d ≡ true → is_short t.db ≡ true → is_short t.name ≡ true → is_short called ≡ true → Answered BoundFits (bound_in d t called)
bound_answers d t called h db n c =
    after _ (unless (length t.db == 0) no_database_selected no_database_selected_fits) (λ _ _.
    after _ (unless (not (is_some (tables_of t.db d))) (unknown_database t.db) (unknown_database_fits t.db)) (λ _ _.
    after _ (found_answers t (table_of t d) db n (table_bounded d t h)) (λ table g.
    gives (record { called = c; db = db; name = n; table = g }))))

pub name_or : (n : Option Name) (m : Name) → passes_if_there is_short n ≡ true → is_short m ≡ true → is_short (unwrap_or n m) ≡ true
name_or None m h g = g
name_or (Some n) m h g = h

pub bind_answers : (d : Database) (db : Name) → is_bounded_database d ≡ true → is_short db ≡ true → (s : Source) → is_short_source s ≡ true → Answered BoundFits (bind d db s)
bind_answers d db h g s e =
    let parts = and_parts (is_short_table s.table) (is_short s.name) e in
    let table = and_parts (passes_if_there is_short s.table.db) (is_short s.table.name) parts.0 in
    bound_answers d (full_name db s.table) s.name h (name_or s.table.db db table.0 g) table.1 parts.1

pub repeated_short : (seen names : List Name) → AllByRecursion (λ n. is_short n ≡ true) names → passes_if_there is_short (first_repeated seen names) ≡ true
repeated_short seen [] h = refl
repeated_short seen (n ∷ ns) h = by (list_any (bytes_eq n) seen) (repeated_short (n ∷ seen) ns h.1)
  where
    by : (b : Bool) → passes_if_there is_short (first_repeated (n ∷ seen) ns) ≡ true → passes_if_there is_short (cond b (Some n) (first_repeated (n ∷ seen) ns)) ≡ true
    by true later = h.0
    by false later = later

pub columns_bounded : (columns : List Column) → are_bounded_columns columns ≡ true → (1 ≤ length columns) × AllByRecursion (λ c. is_bounded_column c ≡ true) columns
columns_bounded columns h =
    let parts = and_parts (nat_lt 0 (length columns)) (list_all is_bounded_column columns) h in
    (omega (arith, ltb-true 0 (length columns) parts.0), each_from_test is_bounded_column columns parts.1)

abbrev are_bounded_rows : Table → Bool
are_bounded_rows t = list_all (λ entry. is_bounded_row entry.1) t.rows

pub table_columns : (t : Table) → is_bounded_table t ≡ true → (1 ≤ length t.columns) × AllByRecursion (λ c. is_bounded_column c ≡ true) t.columns
table_columns t h = columns_bounded t.columns (and_parts (are_bounded_columns t.columns) (are_bounded_rows t) h).0

pub table_rows : (t : Table) → is_bounded_table t ≡ true → AllByRecursion (λ entry. BoundedRow entry.1) t.rows
table_rows t h =
    each_weaker (λ entry. is_bounded_row entry.1 ≡ true) (λ entry. BoundedRow entry.1) (λ entry g. each_from_test is_bounded_value entry.1 g) t.rows
    (each_from_test (λ entry. is_bounded_row entry.1) t.rows (and_parts (are_bounded_columns t.columns) (are_bounded_rows t) h).1)

pub combinations_bounded : (bs : List Bound) → AllByRecursion BoundFits bs → BoundedGroup (combinations bs)
combinations_bounded [] h = (tt, tt)
combinations_bounded (b ∷ bs) h =
    each_joined (λ entry. BoundedRow entry.1) BoundedCombination (λ entry. map (λ c. entry.1 ∷ c) (combinations bs))
    (λ entry g. each_mapped BoundedCombination BoundedCombination (λ c. entry.1 ∷ c) (λ c e. (g, e)) (combinations bs) (combinations_bounded bs h.1)) b.table.rows (table_rows b.table h.0.table)

-- ---- columns

pub record FoundFits (f : Found) : Type 0 where
  pub bound : BoundFits f.bound
  pub column : is_bounded_column f.column ≡ true
  pub values : (c : Combination) → BoundedCombination c → Bounded (f.value_in c)

pub columns_fit : (b : Bound) (slot i : ℕ) (cs : List Column) → BoundFits b → AllByRecursion (λ c. is_bounded_column c ≡ true) cs → AllByRecursion FoundFits (columns_from b slot i cs)
columns_fit b slot i [] h g = tt
columns_fit b slot i (c ∷ cs) h g = (
  record { bound = h; column = g.0; values = λ combination e. each_at Bounded (get_or combination slot []) i value.Null refl (each_at BoundedRow combination slot [] tt e) },
  columns_fit b slot (i + 1) cs h g.1,
)

pub all_columns_fit : (slot : ℕ) (bs : List Bound) → AllByRecursion BoundFits bs → AllByRecursion FoundFits (all_columns slot bs)
all_columns_fit slot [] h = tt
all_columns_fit slot (b ∷ bs) h =
    each_append FoundFits (columns_from b slot 0 b.table.columns) (all_columns (slot + 1) bs)
    (columns_fit b slot 0 b.table.columns h.0 (table_columns b.table h.0.table).1) (all_columns_fit (slot + 1) bs h.1)

pub columns_count : (b : Bound) (slot i : ℕ) (cs : List Column) → length (columns_from b slot i cs) ≡ length cs
columns_count b slot i [] = refl
columns_count b slot i (c ∷ cs) = ap suc (columns_count b slot (i + 1) cs)

pub some_columns : (bs : List Bound) → AllByRecursion BoundFits bs → 1 ≤ length bs → 1 ≤ length (all_columns 0 bs)
some_columns [] h g = absurd (omega arith)
some_columns (b ∷ bs) h g =
    let some = (table_columns b.table h.0.table).0 in
    simp length-append (omega (arith, some, columns_count b 0 0 b.table.columns))

pub only_answers : (name : Name) (fs : List Found) → is_short name ≡ true → AllByRecursion FoundFits fs → Answered FoundFits (only_one name fs)
only_answers name [] h g = refuses (unknown_column_fits name h)
only_answers name (f ∷ []) h g = gives g.0
only_answers name (f ∷ e ∷ fs) h g = refuses (ambiguous_column_fits name h)

pub find_answers : (bs : List Bound) (c : ColumnName) → AllByRecursion BoundFits bs → is_short_column c ≡ true → Answered FoundFits (find_column bs c)
find_answers bs c h g =
    only_answers c.name (filter (has_name c) (all_columns 0 bs)) (and_parts (passes_if_there is_short c.source) (is_short c.name) g).1
    (each_filtered FoundFits (has_name c) (all_columns 0 bs) (all_columns_fit 0 bs h))
