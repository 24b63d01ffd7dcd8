-- INSERT: the rows fit the columns, and there is room for them.
use Rattle.std.proofs.Common.{◌≡◌, ℕ, ◌≤◌, ◌+◌, suc, ℤ, Bool, true, false, not, cond, List, [], ◌∷◌, length, refl, sym, ap, ◌∙◌, subst, Option, Some, None, arith}
use Rattle.std.specs.Prelude.{◌&&◌, ◌||◌, ◌==◌, bytes_eq, codes, find, nat_lt}
use Rattle.std.specs.List.{list_any, AllByRecursion}
use Rattle.std.specs.Ordering.{int_cmp, is_eq}
use Rattle.std.proofs.lemmas.Bool.{or_from, ltb-false, not-false, eqb-true}
use Rattle.qc_types.specs.declared.names.TableName.{TableName}
use Rattle.qc_types.specs.declared.names.Value.{Value}
use Rattle.qc_types.specs.declared.names.Value.TheVariants as value
use Rattle.qc_sql.specs.declared.tables.Column.{Column}
use Rattle.qc_sql.specs.declared.statements.Insert.{Insert}
use Rattle.qc_sql.specs.Database.{Name, Table, Database, table_of, key_of}
use Rattle.qc_sql.specs.Rules.{full_name}
use Rattle.qc_sql.specs.Rows.{found_table, bound_in}
use Rattle.qc_sql.specs.Effects.{Effect, is_other_sort, may_be_null, named_columns, columns_of_insert, lacking, refuse_lacking, given_values, value_named, whole_row, has_key, new_rows, insert_effect}
use Rattle.qc_sql.specs.Errors.{no_database_selected, duplicate_entry, column_named_twice, table_full, wrong_value_count, not_supported}
use Rattle.qc_model.specs.Licence.{value_fits, row_fits}
use Rattle.qc_laws.proofs.fits.Given.{each_both, each_weaker, none_found, Given, gives, refuses, after, unless, anyway}
use Rattle.qc_laws.proofs.fits.Columns.{name_is, IsCalled, called_is, called_given, same_column, stored_given, null_fits, row_from_each}
use Rattle.qc_laws.proofs.fits.Tables.{puts}

-- ---- the table

found_given : (t : TableName) (o : Option Table) → Given (λ x. o ≡ Some x) (found_table t o)
found_given t None = refuses
found_given t (Some x) = gives refl

-- the table that a statement names
pub bound_given : (d : Database) (t : TableName) (name : Name) → Given (λ b. table_of t d ≡ Some b.table) (bound_in d t name)
bound_given d t name =
    after _ (unless (length t.db == 0) no_database_selected) (λ _ _.
    after _ (anyway _) (λ _ _.
    after _ (found_given t (table_of t d)) (λ x h. gives h)))

-- ---- the columns that are named

named_called : (seen : List Name) (columns : List Column) (names : List Name) → Given (AllByRecursion (IsCalled columns)) (named_columns seen columns names)
named_called seen columns [] = gives tt
named_called seen columns (n ∷ ns) =
    after _ (called_given n columns) (λ c h.
    after _ (unless (list_any (bytes_eq n) seen) (column_named_twice n)) (λ _ _.
    after _ (named_called (n ∷ seen) columns ns) (λ cs e. gives (called_is n columns c h, e))))

insert_called : (columns : List Column) (names : Option (List Name)) → AllByRecursion (IsCalled columns) columns → Given (AllByRecursion (IsCalled columns)) (columns_of_insert columns names)
insert_called columns None h = gives h
insert_called columns (Some names) h = named_called [] columns names

-- a column that isn't named may be NULL
abbrev lacks : List Column → Column → Bool
lacks named c = not (may_be_null c) && not (list_any (λ d. bytes_eq d.name c.name) named)

lacking_by : (o : Option Column) → Given (λ _. o ≡ None) (refuse_lacking o)
lacking_by None = gives refl
lacking_by (Some c) = refuses

none_lacks : (columns named : List Column) → Given (λ _. AllByRecursion (λ c. lacks named c ≡ false) columns) (refuse_lacking (lacking columns named))
none_lacks columns named = weaken (lacking columns named) refl
  where
    weaken : (o : Option Column) → find (lacks named) columns ≡ o → Given (λ _. AllByRecursion (λ c. lacks named c ≡ false) columns) (refuse_lacking o)
    weaken None h = gives (none_found (lacks named) columns h)
    weaken (Some c) h = refuses

may_lack : (named : List Column) (c : Column) → lacks named c ≡ false → list_any (λ d. bytes_eq d.name c.name) named ≡ false → may_be_null c ≡ true
may_lack named c h g = by (may_be_null c) (ap (λ b. not (may_be_null c) && not b) (sym g) ∙ h)
  where
    by : (b : Bool) → (not b && true) ≡ false → b ≡ true
    by true e = refl
    by false e = absurd cc

-- ---- the values

-- a value under the name of a column that it fits
record GivenFits (columns : List Column) (g : Name × Value) : Type 0 where
  column : Column
  called : IsCalled columns column
  name : g.0 ≡ column.name
  fits : value_fits column g.1 ≡ true

-- the values fit, and have the names of the columns
record AreGiven (columns named : List Column) (gs : List (Name × Value)) : Type 0 where
  fit : AllByRecursion (GivenFits columns) gs
  names : (name : Name) → list_any (λ g. bytes_eq g.0 name) gs ≡ list_any (λ d. bytes_eq d.name name) named

given_fit : (columns named : List Column) (vs : List Value) → AllByRecursion (IsCalled columns) named → length vs ≡ length named → Given (AreGiven columns named) (given_values named vs)
given_fit columns [] vs h same = gives (record { fit = tt; names = λ name. refl })
given_fit columns (c ∷ cs) [] h same = absurd (omega (arith, same))
given_fit columns (c ∷ cs) (v ∷ vs) h same =
    after _ (unless (is_other_sort c.kind v) (not_supported (codes "mixed value"))) (λ _ sort.
    after _ (stored_given c v sort) (λ w f.
    after _ (given_fit columns cs vs h.1 (omega (arith, same))) (λ ws e. gives (record {
      fit = (record { column = c; called = h.0; name = refl; fits = f }, e.fit);
      names = λ name. ap (λ b. bytes_eq c.name name || b) (e.names name);
    }))))

-- the value that a column has of those that are given
value_named_fits : (columns : List Column) (c : Column) (gs : List (Name × Value)) → IsCalled columns c → AllByRecursion (GivenFits columns) gs
    → (list_any (λ g. bytes_eq g.0 c.name) gs ≡ false → value_fits c value.Null ≡ true) → value_fits c (value_named c.name gs) ≡ true
value_named_fits columns c [] is h none = none refl
value_named_fits columns c (g ∷ gs) is h none =
    elim (bytes_eq g.0 c.name) as (λ b. bytes_eq g.0 c.name ≡ b → value_fits c (cond b g.1 (value_named c.name gs)) ≡ true) [
      | true ↦ λ p.
          let d = h.0 in
          subst (λ (z : Column). value_fits z g.1 ≡ true) (same_column columns d.column c d.called is (sym d.name ∙ name_is g.0 c.name p)) d.fits
      | false ↦ λ p. value_named_fits columns c gs is h.1 (λ q. none (or_from (bytes_eq g.0 c.name) (list_any (λ g. bytes_eq g.0 c.name) gs) p q))
    ] refl

row_fits_columns : (columns named : List Column) (gs : List (Name × Value)) → AllByRecursion (IsCalled columns) columns → AllByRecursion (λ c. lacks named c ≡ false) columns → AreGiven columns named gs → row_fits columns (whole_row columns gs) ≡ true
row_fits_columns columns named gs called lack h =
    row_from_each (λ c. value_named c.name gs) columns (each_weaker (λ c. IsCalled columns c × (lacks named c ≡ false)) (λ c. value_fits c (value_named c.name gs) ≡ true)
    (λ c e. value_named_fits columns c gs e.0 h.fit (λ q. null_fits c (may_lack named c e.1 (sym (h.names c.name) ∙ q))))
    columns (each_both (IsCalled columns) (λ c. lacks named c ≡ false) columns called lack))

-- ---- the rows

-- the rows fit, and a table that has room for one has room for them
record AreNew (x : Table) (number : ℕ) (rows : List (List Value)) : Type 0 where
  fit : AllByRecursion (λ row. row_fits x.columns row ≡ true) rows
  room : length x.rows + number ≤ 1048577 → length x.rows + (number + length rows) ≤ 1048577

rows_given : (t : TableName) (x : Table) (named : List Column) (taken : List ℤ) (number : ℕ) (tuples : List (List Value)) → AllByRecursion (IsCalled x.columns) x.columns → AllByRecursion (IsCalled x.columns) named
    → AllByRecursion (λ c. lacks named c ≡ false) x.columns → Given (AreNew x number) (new_rows t x named taken number tuples)
rows_given t x named taken number [] all h lack = gives (record { fit = tt; room = λ q. omega arith })
rows_given t x named taken number (tuple ∷ tuples) all h lack =
    after _ (unless (not (length tuple == length named)) (wrong_value_count number)) (λ _ wide.
    after _ (given_fit x.columns named tuple h (eqb-true (length tuple) (length named) (not-false (length tuple == length named) wide))) (λ given f.
    let key = key_of x.columns (whole_row x.columns given) in
    after _ (unless (has_key x key || list_any (λ k. is_eq (int_cmp k key)) taken) (duplicate_entry key)) (λ _ _.
    after _ (unless (nat_lt 1048576 (length x.rows + number)) (table_full t)) (λ _ room.
    after _ (rows_given t x named (key ∷ taken) (number + 1) tuples all h lack) (λ rows e. gives (record {
      fit = (row_fits_columns x.columns named given all lack f, e.fit);
      room = λ q. more number rows (ltb-false 1048576 (length x.rows + number) room) e.room;
    }))))))
  where
    more : (number : ℕ) (rows : List (List Value)) → length x.rows + number ≤ 1048576 → (length x.rows + (number + 1) ≤ 1048577 → length x.rows + ((number + 1) + length rows) ≤ 1048577) → length x.rows + (number + suc (length rows)) ≤ 1048577
    more number rows h k = omega (arith, k (omega (arith, h)))

-- rows of a table are put, which has room for them
pub record IsInsert (d : Database) (t : TableName) (x : Effect) : Type 0 where
  pub table : Table
  pub there : table_of t d ≡ Some table
  pub rows : List (List Value)
  pub operations : x.operations ≡ puts t rows
  pub fit : AllByRecursion (λ row. row_fits table.columns row ≡ true) rows
  pub room : length table.rows ≤ 1048576 → length table.rows + length rows ≤ 1048576

pub insert_given : (d : Database) (db : Name) (i : Insert) → ((x : Table) → table_of (full_name db i.table) d ≡ Some x → AllByRecursion (IsCalled x.columns) x.columns) → Given (IsInsert d (full_name db i.table)) (insert_effect d db i)
insert_given d db i names =
    let t = full_name db i.table in
    after _ (bound_given d t t.name) (λ b there.
    let all = names b.table there in
    after _ (insert_called b.table.columns i.names all) (λ named h.
    after _ (none_lacks b.table.columns named) (λ _ lack.
    after _ (rows_given t b.table named [] 1 i.rows all h lack) (λ rows e. gives (record {
      table = b.table;
      there = there;
      rows = rows;
      operations = refl;
      fit = e.fit;
      room = λ q. room_from (length b.table.rows) (length rows) q e.room;
    })))))
  where
    room_from : (n m : ℕ) → n ≤ 1048576 → (n + 1 ≤ 1048577 → n + (1 + m) ≤ 1048577) → n + m ≤ 1048576
    room_from n m h k = omega (arith, k (omega (arith, h)))
