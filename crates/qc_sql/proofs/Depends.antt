-- A select depends on its tables alone.
use Rattle.std.proofs.Common.{◌≡◌, Bool, true, false, not, List, [], ◌∷◌, refl, subst, Option, Result, Ok, Err}
use Rattle.std.specs.Prelude.{Some, None, is_some, option_and_then}
use Rattle.qc_types.specs.declared.names.TableName.{TableName}
use Rattle.qc_types.specs.declared.sql_error.SqlError.{SqlError}
use Rattle.qc_sql.specs.declared.statements.Source.{Source}
use Rattle.qc_sql.specs.Database.{Name, Database, Table, Tables, tables_of, table_of, at_name}
use Rattle.qc_sql.specs.Rules.{full_name}
use Rattle.qc_sql.specs.Errors.{no_database_selected, unknown_database}
use Rattle.qc_sql.specs.Rows.{rows, rows_over, ◌>>=◌, each, refuse_if, found_table, Bound, bind}
use Rattle.qc_sql.specs.Laws.{SameTables, DependsOnTables}

-- the value of a step that isn't refused
pub bind_ok : {A B : Type 0} (r : Result A SqlError) (f : A → Result B SqlError) (y : B) → (r >>= f) ≡ Ok y → (x : A) × (r ≡ Ok x) × (f x ≡ Ok y)
bind_ok (Ok x) f y e = (x, refl, e)
bind_ok (Err d) f y e = absurd cc

-- a bound table, by the tables of its database
abbrev bound_by : TableName → Name → Bool → Option Tables → Option Table → Result Bound SqlError
bound_by t called nameless o table =
    refuse_if nameless no_database_selected >>= λ _.
    refuse_if (not (is_some o)) (unknown_database t.db) >>= λ _.
    found_table t table >>= λ found.
    Ok (record { called = called; name = t; table = found })

bound_same : (t : TableName) (called : Name) (nameless : Bool) (o p : Option Tables) (x y : Option Table) (b : Bound)
    → x ≡ option_and_then (at_name t.name) o → y ≡ option_and_then (at_name t.name) p → x ≡ y
    → bound_by t called nameless o x ≡ Ok b → bound_by t called nameless p y ≡ Ok b
bound_same t called true o p x y b ex ey e h = absurd cc
bound_same t called false None p x y b ex ey e h = absurd cc
bound_same t called false (Some ts) p None y b ex ey e h = absurd cc
bound_same t called false (Some ts) None (Some table) y b ex ey e h = absurd cc
bound_same t called false (Some ts) (Some us) (Some table) y b ex ey e h = subst (λ (z : Option Table). bound_by t called false (Some us) z ≡ Ok b) e h

each_same : (d e : Database) (db : Name) (ss : List Source) (bs : List Bound) → SameTables d e db ss → each (bind d db) ss ≡ Ok bs → each (bind e db) ss ≡ Ok bs
each_same d e db [] bs same h = h
each_same d e db (s ∷ ss) bs same h =
    let t = full_name db s.table in
    let first = bind_ok (bind d db s) (λ y. each (bind d db) ss >>= λ ys. Ok (y ∷ ys)) bs h in
    let others = bind_ok (each (bind d db) ss) (λ ys. Ok (first.0 ∷ ys)) bs first.2 in
    let one : bind e db s ≡ Ok first.0 = bound_same t s.name _ (tables_of t.db d) (tables_of t.db e) (table_of t d) (table_of t e) first.0 refl refl same.0 first.1 in
    let rest : each (bind e db) ss ≡ Ok others.0 = each_same d e db ss others.0 same.1 others.1 in
    rw (one, rest) others.2

pub depends_on_tables : DependsOnTables
unfolding rows
depends_on_tables select d e db flags session r same h =
    let unlocked = bind_ok _ (λ _. each (bind d db) select.from >>= rows_over select db flags session) r h in
    let bounds = bind_ok (each (bind d db) select.from) (rows_over select db flags session) r unlocked.2 in
    rw (unlocked.1, each_same d e db select.from bounds.0 same bounds.1) bounds.2
