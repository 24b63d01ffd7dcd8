-- A sound database is sound after operations that fit.
use Rattle.std.proofs.Common.{◌≡◌, ℤ, true, cond, List, [], ◌∷◌, refl, sym, ap, ◌∙◌, subst, Option, Some, None, true≢false}
use Rattle.std.specs.Prelude.{◌&&◌, is_some, is_none, option_and_then}
use Rattle.std.specs.Ordering.{int_cmp}
use Rattle.std.specs.BTreeMap.{insert_entry, is_at}
use Rattle.std.specs.Map.{remove_entry}
use Rattle.std.proofs.lemmas.Bool.{and_parts}
use Rattle.qc_types.specs.declared.names.TableName.{TableName}
use Rattle.qc_types.specs.declared.names.Value.{Value}
use Rattle.qc_sql.specs.declared.tables.Column.{Column}
use Rattle.qc_sql.specs.declared.tables.RowOp.{RowOp}
use Rattle.qc_sql.specs.declared.tables.RowOp.TheVariants as op
use Rattle.qc_sql.specs.Database.{Name, name_cmp, Table, Tables, Database, no_tables, at_name, change_at, table_of, tables_of, key_of, with_row, without_row, apply_one}
use Rattle.qc_sql.proofs.Untouched.{at}
use Rattle.qc_model.specs.Licence.{row_fits, takes_row, columns_fit, op_fits, ops_fit}
use Rattle.qc_model.specs.Sound.{IsRow, IsSoundTable, AreSoundTables, IsSoundDatabase}
use Rattle.qc_laws.specs.fits.Laws.{SoundStays}
use Rattle.qc_laws.proofs.fits.Maps.{some_none, some_there, rises_none, rises_put, rises_removed, rows_put, all_removed, all_insert, all_change, holds_change, at_holds, apart_insert, apart_change, apart_removed}

pub none_is : {X : Type 0} (o : Option X) → is_none o ≡ true → o ≡ None
none_is None e = refl
none_is (Some x) e = absurd (true≢false (sym e))

-- the tables of its database, where a table is there
pub in_database : (t : TableName) (x : Table) (d : Database) → table_of t d ≡ Some x → (ts : Tables) × (tables_of t.db d ≡ Some ts) × (at_name t.name ts ≡ Some x)
in_database t x d h = by (tables_of t.db d) refl
  where
    by : (o : Option Tables) → tables_of t.db d ≡ o → (ts : Tables) × (tables_of t.db d ≡ Some ts) × (at_name t.name ts ≡ Some x)
    by None q = some_none x (sym h ∙ ap (option_and_then (at_name t.name)) q)
    by (Some ts) q = (ts, q, sym (ap (option_and_then (at_name t.name)) q) ∙ h)

pub tables_are_sound : (n : Name) (ts : Tables) (d : Database) → IsSoundDatabase d → tables_of n d ≡ Some ts → AreSoundTables ts
tables_are_sound n ts d s there = at_holds AreSoundTables n ts d there s.each

pub table_is_sound : (t : TableName) (x : Table) (d : Database) → IsSoundDatabase d → table_of t d ≡ Some x → IsSoundTable x
table_is_sound t x d s there =
    let i = in_database t x d there in
    at_holds IsSoundTable t.name x i.0 i.2 (tables_are_sound t.db i.0 d s i.1).each

-- ---- tables

with_row_is_sound : (row : List Value) (x : Table) → row_fits x.columns row ≡ true → IsSoundTable x → IsSoundTable (with_row row x)
with_row_is_sound row x fits s = record {
  columns = s.columns;
  rows = rows_put (IsRow x.columns) (key_of x.columns row) row x.rows (fits, refl) s.rows;
  ordered = rises_put (key_of x.columns row) row x.rows s.ordered;
}

without_row_is_sound : (key : ℤ) (x : Table) → IsSoundTable x → IsSoundTable (without_row key x)
without_row_is_sound key x s = record {
  columns = s.columns;
  rows = all_removed (IsRow x.columns) (is_at (int_cmp key)) x.rows s.rows;
  ordered = rises_removed (is_at (int_cmp key)) x.rows s.ordered;
}

abbrev pub new_table : List Column → Table
new_table columns = record { columns = columns; rows = [] }

new_table_is_sound : (columns : List Column) → columns_fit columns ≡ true → IsSoundTable (new_table columns)
new_table_is_sound columns fits = record { columns = fits; rows = tt; ordered = rises_none }

-- ---- operations

pub taken_by : (o : Option Table) (row : List Value) → takes_row o row ≡ true → (x : Table) × (o ≡ Some x) × (row_fits x.columns row ≡ true)
taken_by None row h = absurd (true≢false (sym h))
taken_by (Some x) row h = (x, refl, h)

sound_put : (t : TableName) (row : List Value) (d : Database) → IsSoundDatabase d → takes_row (table_of t d) row ≡ true → IsSoundDatabase (apply_one (op.Put t row) d)
sound_put t row d s h =
    let x = taken_by (table_of t d) row h in
    let i = in_database t x.0 d x.1 in
    let ts = tables_are_sound t.db i.0 d s i.1 in
    let sound : AreSoundTables (change_at t.name (with_row row) i.0) = record {
      apart = apart_change t.name (with_row row) i.0 ts.apart;
      each = holds_change IsSoundTable t.name (with_row row) x.0 i.0 ts.apart i.2 (with_row_is_sound row x.0 x.2 (table_is_sound t x.0 d s x.1)) ts.each;
    } in
    record {
      apart = apart_change t.db (change_at t.name (with_row row)) d s.apart;
      each = holds_change AreSoundTables t.db (change_at t.name (with_row row)) i.0 d s.apart i.1 sound s.each;
    }

sound_del : (t : TableName) (key : ℤ) (d : Database) → IsSoundDatabase d → IsSoundDatabase (apply_one (op.Del t key) d)
sound_del t key d s = record {
  apart = apart_change t.db (change_at t.name (without_row key)) d s.apart;
  each = all_change AreSoundTables t.db (change_at t.name (without_row key)) d (λ ts a. record {
    apart = apart_change t.name (without_row key) ts a.apart;
    each = all_change IsSoundTable t.name (without_row key) ts (without_row_is_sound key) a.each;
  }) s.each;
}

sound_created : (t : TableName) (columns : List Column) (ts : Tables) (d : Database) → IsSoundDatabase d → tables_of t.db d ≡ Some ts → table_of t d ≡ None → columns_fit columns ≡ true
    → IsSoundDatabase (apply_one (op.CreateTable t columns) d)
sound_created t columns ts d s there none fits =
    let grow : Tables → Tables = λ tables. insert_entry name_cmp tables t.name (new_table columns) in
    let new : at_name t.name ts ≡ None = sym (ap (option_and_then (at_name t.name)) there) ∙ none in
    let old = tables_are_sound t.db ts d s there in
    let sound : AreSoundTables (grow ts) = record {
      apart = apart_insert t.name (new_table columns) ts old.apart new;
      each = all_insert (λ e. IsSoundTable e.1) t.name (new_table columns) ts (new_table_is_sound columns fits) old.each;
    } in
    record {
      apart = apart_change t.db grow d s.apart;
      each = holds_change AreSoundTables t.db grow ts d s.apart there sound s.each;
    }

sound_table_dropped : (t : TableName) (d : Database) → IsSoundDatabase d → IsSoundDatabase (apply_one (op.DropTable t) d)
sound_table_dropped t d s =
    let fall : Tables → Tables = remove_entry (at t.name) in
    record {
      apart = apart_change t.db fall d s.apart;
      each = all_change AreSoundTables t.db fall d (λ ts a. record {
        apart = apart_removed t.name ts a.apart;
        each = all_removed (λ e. IsSoundTable e.1) (at t.name) ts a.each;
      }) s.each;
    }

sound_database_created : (n : Name) (d : Database) → IsSoundDatabase d → tables_of n d ≡ None → IsSoundDatabase (apply_one (op.CreateDb n) d)
sound_database_created n d s h =
    let is : insert_entry name_cmp d n no_tables ≡ apply_one (op.CreateDb n) d = sym (ap (λ b. cond b d (insert_entry name_cmp d n no_tables)) (ap is_some h)) in
    subst IsSoundDatabase is (record {
      apart = apart_insert n no_tables d s.apart h;
      each = all_insert (λ e. AreSoundTables e.1) n no_tables d (record { apart = tt; each = tt }) s.each;
    })

sound_database_dropped : (n : Name) (d : Database) → IsSoundDatabase d → IsSoundDatabase (apply_one (op.DropDb n) d)
sound_database_dropped n d s = record { apart = apart_removed n d s.apart; each = all_removed (λ e. AreSoundTables e.1) (at n) d s.each }

pub sound_one : (o : RowOp) (d : Database) → IsSoundDatabase d → op_fits o d ≡ true → IsSoundDatabase (apply_one o d)
sound_one (op.Put t row) d s h = sound_put t row d s h
sound_one (op.Del t key) d s h = sound_del t key d s
sound_one (op.CreateTable t columns) d s h =
    let new = and_parts (is_some (tables_of t.db d) && is_none (table_of t d)) (columns_fit columns) h in
    let known = and_parts (is_some (tables_of t.db d)) (is_none (table_of t d)) new.0 in
    let ts = some_there (tables_of t.db d) known.0 in
    sound_created t columns ts.0 d s ts.1 (none_is (table_of t d) known.1) new.1
sound_one (op.DropTable t) d s h = sound_table_dropped t d s
sound_one (op.CreateDb n) d s h = sound_database_created n d s (none_is (tables_of n d) h)
sound_one (op.DropDb n) d s h = sound_database_dropped n d s

pub sound_stays : SoundStays
sound_stays [] d s h = s
sound_stays (o ∷ os) d s h =
    let parts = and_parts (op_fits o d) (ops_fit os (apply_one o d)) h in
    sound_stays os (apply_one o d) (sound_one o d s parts.0) parts.1

pub sound_empty : IsSoundDatabase []
sound_empty = record { apart = tt; each = tt }
