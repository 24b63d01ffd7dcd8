-- What row operations leave of the table that they are of, and that they fit.
use Rattle.std.proofs.Common.{◌≡◌, ℤ, true, List, [], ◌∷◌, map, refl, ap, ◌∙◌, Option, Some, None}
use Rattle.std.specs.Prelude.{is_some, option_map, option_and_then}
use Rattle.std.specs.List.{AllByRecursion}
use Rattle.std.specs.Ordering.{int_cmp, is_eq}
use Rattle.std.specs.declared.cmp.Ordering.TheVariants.{Less}
use Rattle.std.specs.BTreeMap.{is_at}
use Rattle.std.specs.Map.{lookup, keys_of, remove_entry}
use Rattle.std.proofs.lemmas.Bool.{and_from}
use Rattle.qc_types.specs.declared.names.TableName.{TableName}
use Rattle.qc_types.specs.declared.names.Value.{Value}
use Rattle.qc_sql.specs.declared.tables.RowOp.{RowOp}
use Rattle.qc_sql.specs.declared.tables.RowOp.TheVariants as op
use Rattle.qc_sql.specs.Database.{MapOf, Table, Tables, Database, at_name, change_at, change_table, table_of, tables_of, with_row, without_row, apply_one}
use Rattle.qc_sql.proofs.Untouched.{changed_same}
use Rattle.qc_model.specs.Licence.{row_fits, has_row, takes_row, ops_fit}
use Rattle.qc_laws.proofs.fits.Maps.{Rises, above_head, rises_tail, row_gone_other}

-- a table that is changed, where it is there
pub table_changed : (t : TableName) (f : Table → Table) (d : Database) → table_of t (change_table t f d) ≡ option_map f (table_of t d)
table_changed t f d = ap (option_and_then (at_name t.name)) (changed_same t.db (change_at t.name f) d) ∙ by (tables_of t.db d)
  where
    by : (o : Option Tables) → option_and_then (at_name t.name) (option_map (change_at t.name f) o) ≡ option_map f (option_and_then (at_name t.name) o)
    by None = refl
    by (Some ts) = changed_same t.name f ts

pub table_put : (t : TableName) (row : List Value) (x : Table) (d : Database) → table_of t d ≡ Some x → table_of t (apply_one (op.Put t row) d) ≡ Some (with_row row x)
table_put t row x d there = table_changed t (with_row row) d ∙ ap (option_map (with_row row)) there

pub table_del : (t : TableName) (key : ℤ) (x : Table) (d : Database) → table_of t d ≡ Some x → table_of t (apply_one (op.Del t key) d) ≡ Some (without_row key x)
table_del t key x d there = table_changed t (without_row key) d ∙ ap (option_map (without_row key)) there

-- ---- rows that are put

abbrev pub puts : TableName → List (List Value) → List RowOp
puts t rows = map (λ row. op.Put t row) rows

pub puts_fit : (t : TableName) (rows : List (List Value)) (x : Table) (d : Database) → table_of t d ≡ Some x → AllByRecursion (λ row. row_fits x.columns row ≡ true) rows → ops_fit (puts t rows) d ≡ true
puts_fit t [] x d there h = refl
puts_fit t (row ∷ rows) x d there h =
    and_from (takes_row (table_of t d) row) (ops_fit (puts t rows) (apply_one (op.Put t row) d)) (ap (λ o. takes_row o row) there ∙ h.0)
    (puts_fit t rows (with_row row x) (apply_one (op.Put t row) d) (table_put t row x d there) h.1)

-- ---- rows that are deleted

abbrev pub dels : TableName → MapOf ℤ (List Value) → List RowOp
dels t gone = map (λ entry. op.Del t entry.0) gone

-- each entry's key is found
abbrev pub AreThere : MapOf ℤ (List Value) → MapOf ℤ (List Value) → Type 0
AreThere rows some = AllByRecursion (λ e. is_some (lookup (is_at (int_cmp e.0)) rows) ≡ true) some

-- keys above another are still there without it
still_there : (key : ℤ) (rows some : MapOf ℤ (List Value)) → AllByRecursion (λ y. int_cmp key y ≡ Less) (keys_of some) → AreThere rows some → AreThere (remove_entry (is_at (int_cmp key)) rows) some
still_there key rows [] above h = tt
still_there key rows (e ∷ es) above h = (ap is_some (row_gone_other e.0 key rows (ap is_eq above.0)) ∙ h.0, still_there key rows es above.1 h.1)

pub dels_fit : (t : TableName) (gone : MapOf ℤ (List Value)) (x : Table) (d : Database) → table_of t d ≡ Some x → Rises gone → AreThere x.rows gone → ops_fit (dels t gone) d ≡ true
dels_fit t [] x d there s h = refl
dels_fit t (e ∷ es) x d there s h =
    and_from (has_row (table_of t d) e.0) (ops_fit (dels t es) (apply_one (op.Del t e.0) d)) (ap (λ o. has_row o e.0) there ∙ h.0)
    (dels_fit t es (without_row e.0 x) (apply_one (op.Del t e.0) d) (table_del t e.0 x d there) (rises_tail e es s) (still_there e.0 x.rows es (above_head e es s) h.1))
