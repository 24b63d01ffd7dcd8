-- No table has more rows than it may have, after operations that put no row, and after rows that are put.
use Rattle.std.proofs.Common.{◌≡◌, ℤ, ◌≤◌, ◌+◌, Bool, true, false, cond, List, [], ◌∷◌, length, refl, ap, ◌∙◌, Some, arith}
use Rattle.std.specs.Prelude.{is_some, nat_le}
use Rattle.std.specs.List.{list_all, AllByRecursion}
use Rattle.std.specs.Ordering.{int_cmp}
use Rattle.std.specs.BTreeMap.{insert_entry, is_at}
use Rattle.std.specs.Map.{remove_entry}
use Rattle.std.proofs.lemmas.Bool.{leb-true, le-leb}
use Rattle.qc_types.specs.declared.names.TableName.{TableName}
use Rattle.qc_types.specs.declared.names.Value.{Value}
use Rattle.qc_sql.specs.declared.tables.RowOp.{RowOp}
use Rattle.qc_sql.specs.declared.tables.RowOp.TheVariants as op
use Rattle.qc_sql.specs.Database.{name_cmp, Table, Tables, Database, no_tables, change_at, table_of, tables_of, key_of, with_row, without_row, apply, apply_one, most_rows}
use Rattle.qc_sql.proofs.Untouched.{at}
use Rattle.qc_model.specs.Licence.{row_fits, takes_row, is_within_rows}
use Rattle.qc_model.specs.Sound.{IsSoundDatabase}
use Rattle.qc_laws.proofs.fits.Maps.{all_change, all_insert, all_removed, holds_change, at_holds, fewer, one_more, as_many, row_stays}
use Rattle.qc_laws.proofs.fits.Given.{each_from_test, test_from_each, each_weaker}
use Rattle.qc_laws.proofs.fits.Stays.{in_database, tables_are_sound, table_is_sound, sound_one, new_table}
use Rattle.qc_laws.proofs.fits.Tables.{table_put, puts}
use Rattle.qc_laws.proofs.fits.Updates.{IsReplacement}
use Rattle.qc_laws.proofs.fits.Creates.{is_put}

abbrev has_room : Table → Bool
has_room x = nat_le (length x.rows) most_rows

abbrev HaveRoom : Tables → Type 0
HaveRoom ts = AllByRecursion (λ e. has_room e.1 ≡ true) ts

abbrev pub IsWithin : Database → Type 0
IsWithin d = AllByRecursion (λ e. HaveRoom e.1) d

pub within_from : (d : Database) → is_within_rows d ≡ true → IsWithin d
within_from d h =
    each_weaker (λ e. list_all (λ f. has_room f.1) e.1 ≡ true) (λ e. HaveRoom e.1) (λ e g. each_from_test (λ f. has_room f.1) e.1 g) d
    (each_from_test (λ e. list_all (λ f. has_room f.1) e.1) d h)

pub within_to : (d : Database) → IsWithin d → is_within_rows d ≡ true
within_to d h =
    test_from_each (λ e. list_all (λ f. has_room f.1) e.1) d
    (each_weaker (λ e. HaveRoom e.1) (λ e. list_all (λ f. has_room f.1) e.1 ≡ true) (λ e g. test_from_each (λ f. has_room f.1) e.1 g) d h)

-- ---- operations that put no row

less_full : (key : ℤ) (x : Table) → has_room x ≡ true → has_room (without_row key x) ≡ true
less_full key x h = le-leb (length (without_row key x).rows) most_rows (omega (arith, fewer (is_at (int_cmp key)) x.rows, leb-true (length x.rows) most_rows h))

within_one : (o : RowOp) (d : Database) → is_put o ≡ false → IsWithin d → IsWithin (apply_one o d)
within_one (op.Put t row) d h w = absurd cc
within_one (op.Del t key) d h w = all_change HaveRoom t.db (change_at t.name (without_row key)) d (λ ts a. all_change (λ x. has_room x ≡ true) t.name (without_row key) ts (less_full key) a) w
within_one (op.CreateTable t columns) d h w =
    all_change HaveRoom t.db (λ ts. insert_entry name_cmp ts t.name (new_table columns)) d (λ ts a. all_insert (λ e. has_room e.1 ≡ true) t.name (new_table columns) ts refl a) w
within_one (op.DropTable t) d h w = all_change HaveRoom t.db (remove_entry (at t.name)) d (λ ts a. all_removed (λ e. has_room e.1 ≡ true) (at t.name) ts a) w
within_one (op.CreateDb name) d h w = by (is_some (tables_of name d))
  where
    by : (b : Bool) → IsWithin (cond b d (insert_entry name_cmp d name no_tables))
    by true = w
    by false = all_insert (λ e. HaveRoom e.1) name no_tables d tt w
within_one (op.DropDb name) d h w = all_removed (λ e. HaveRoom e.1) (at name) d w

pub none_within : (os : List RowOp) (d : Database) → AllByRecursion (λ o. is_put o ≡ false) os → IsWithin d → IsWithin (apply os d)
none_within [] d h w = w
none_within (o ∷ os) d h w = none_within os (apply_one o d) h.1 (within_one o d h.0 w)

-- ---- rows that are put

put_within : (t : TableName) (row : List Value) (x : Table) (d : Database) → IsSoundDatabase d → table_of t d ≡ Some x → length (with_row row x).rows ≤ 1048576 → IsWithin d → IsWithin (apply_one (op.Put t row) d)
put_within t row x d s there few w =
    let i = in_database t x d there in
    holds_change HaveRoom t.db (change_at t.name (with_row row)) i.0 d s.apart i.1
    (holds_change (λ x. has_room x ≡ true) t.name (with_row row) x i.0 (tables_are_sound t.db i.0 d s i.1).apart i.2 (le-leb (length (with_row row x).rows) most_rows few) (at_holds HaveRoom t.db i.0 d i.1 w)) w

pub room_of : (t : TableName) (x : Table) (d : Database) → table_of t d ≡ Some x → IsWithin d → length x.rows ≤ 1048576
room_of t x d there w =
    let i = in_database t x d there in
    leb-true (length x.rows) most_rows (at_holds (λ x. has_room x ≡ true) t.name x i.0 i.2 (at_holds HaveRoom t.db i.0 d i.1 w))

put_fits : (t : TableName) (row : List Value) (x : Table) (d : Database) → table_of t d ≡ Some x → row_fits x.columns row ≡ true → takes_row (table_of t d) row ≡ true
put_fits t row x d there h = ap (λ o. takes_row o row) there ∙ h

-- new rows, for which there is room
pub inserts_within : (t : TableName) (rows : List (List Value)) (x : Table) (d : Database) → IsSoundDatabase d → table_of t d ≡ Some x → AllByRecursion (λ row. row_fits x.columns row ≡ true) rows → length x.rows + length rows ≤ 1048576
    → IsWithin d → IsWithin (apply (puts t rows) d)
inserts_within t [] x d s there h room w = w
inserts_within t (row ∷ rows) x d s there h room w =
    let more = one_more (key_of x.columns row) row x.rows in
    inserts_within t rows (with_row row x) (apply_one (op.Put t row) d) (sound_one (op.Put t row) d s (put_fits t row x d there h.0)) (table_put t row x d there) h.1
    (omega (arith, more, room)) (put_within t row x d s there (omega (arith, more, room)) w)

-- rows in the place of others
pub updates_within : (t : TableName) (rows : List (List Value)) (x : Table) (d : Database) → IsSoundDatabase d → table_of t d ≡ Some x → AllByRecursion (IsReplacement x) rows → IsWithin d → IsWithin (apply (puts t rows) d)
updates_within t [] x d s there h w = w
updates_within t (row ∷ rows) x d s there h w =
    let key = key_of x.columns row in
    let same = as_many key row x.rows (table_is_sound t x d s there).ordered h.0.1 in
    updates_within t rows (with_row row x) (apply_one (op.Put t row) d) (sound_one (op.Put t row) d s (put_fits t row x d there h.0.0)) (table_put t row x d there)
    (each_weaker (IsReplacement x) (IsReplacement (with_row row x)) (λ other g. (g.0, row_stays (key_of x.columns other) key row x.rows g.1)) rows h.1)
    (put_within t row x d s there (omega (arith, same, room_of t x d there w)) w)
