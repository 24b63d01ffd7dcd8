-- INSERT, UPDATE and DELETE put and delete rows of one table, and what changes tables or databases has an operation.
use Rattle.std.proofs.Common.{◌≡◌, ℕ, ◌<◌, ℤ, Bool, true, false, not, List, [], ◌∷◌, map, length, refl, subst, Some, Ok, arith}
use Rattle.std.specs.Prelude.{filter, Option}
use Rattle.std.specs.List.{list_all, list_any}
use Rattle.std.proofs.lemmas.Bool.{and_from, or_from}
use Rattle.qc_types.specs.declared.names.TableName.{TableName}
use Rattle.qc_types.specs.declared.names.Value.{Value}
use Rattle.qc_sql.specs.declared.tables.RowOp.{RowOp}
use Rattle.qc_sql.specs.declared.tables.RowOp.TheVariants as op
use Rattle.qc_sql.specs.declared.statements.Statement.{Statement}
use Rattle.qc_sql.specs.declared.statements.Statement.TheVariants as statement
use Rattle.qc_sql.specs.declared.statements.Insert.{Insert}
use Rattle.qc_sql.specs.declared.statements.Update.{Update}
use Rattle.qc_sql.specs.declared.statements.TableRef.{TableRef}
use Rattle.qc_sql.specs.declared.statements.Cond.{Cond}
use Rattle.qc_sql.specs.Database.{Name, Database, same_table, touches}
use Rattle.qc_sql.specs.Rules.{full_name}
use Rattle.qc_sql.specs.Rows.{◌>>=◌, each, bound_in, condition}
use Rattle.qc_sql.specs.Effects.{Effect, effect, columns_of_insert, lacking, refuse_lacking, new_rows, insert_effect, assignment, assigned, labelled, same_values, values_in, matching, scope_of, update_effect, delete_effect, truncate_effect}
use Rattle.qc_laws.specs.fits.Sound.{is_row_op, rows_changed_by, changes_tables}
use Rattle.qc_laws.specs.fits.Laws.{ChangesAreRows, ChangesAreOfTable, FormsChange}
use Rattle.qc_laws.proofs.fits.Maps.{some_is}
use Rattle.qc_laws.proofs.fits.Given.{Given, gives, after, weaker, anyway, given_has}
use Rattle.qc_laws.proofs.fits.Creates.{IsOfForm, create_given, drop_given, create_db_given, drop_db_given}

-- row operations of one table
record AreRowsOf (t : TableName) (ops : List RowOp) : Type 0 where
  rows : list_all is_row_op ops ≡ true
  others : (u : TableName) → same_table u t ≡ false → list_any (touches u) ops ≡ false

abbrev IsRowsOf : TableName → Effect → Type 0
IsRowsOf t x = AreRowsOf t x.operations

mapped : {A : Type 0} (t : TableName) (f : A → RowOp) → ((a : A) → is_row_op (f a) ≡ true) → ((u : TableName) (a : A) → same_table u t ≡ false → touches u (f a) ≡ false) → (xs : List A) → AreRowsOf t (map f xs)
mapped t f row other [] = record { rows = refl; others = λ u h. refl }
mapped t f row other (x ∷ xs) =
    let rest = mapped t f row other xs in
    record {
      rows = and_from (is_row_op (f x)) (list_all is_row_op (map f xs)) (row x) rest.rows;
      others = λ u h. or_from (touches u (f x)) (list_any (touches u) (map f xs)) (other u x h) (rest.others u h);
    }

insert_rows : (d : Database) (db : Name) (i : Insert) → Given (IsRowsOf (full_name db i.table)) (insert_effect d db i)
insert_rows d db i =
    let t = full_name db i.table in
    after _ (anyway (bound_in d t t.name)) (λ b _.
    after _ (anyway (columns_of_insert b.table.columns i.names)) (λ named _.
    after _ (anyway (refuse_lacking (lacking b.table.columns named))) (λ _ _.
    after _ (anyway (new_rows t b.table named [] 1 i.rows)) (λ rows _.
    gives (mapped t (λ row. op.Put t row) (λ row. refl) (λ u row h. h) rows)))))

update_rows : (d : Database) (db : Name) (session : ℕ) (u : Update) → Given (IsRowsOf (full_name db u.table)) (update_effect d db session u)
update_rows d db session u =
    let t = full_name db u.table in
    after _ (anyway (bound_in d t t.name)) (λ b _.
    after _ (anyway (each (assignment b.table.columns) u.sets)) (λ sets _.
    after _ (anyway (condition (scope_of b db session) u.cond)) (λ keeps _.
    after _ (anyway (each (λ entry. assigned sets (labelled b.table.columns entry.1) >>= λ row. Ok (entry.1, values_in row)) (matching b.table keeps))) (λ pairs _.
    let test : List Value × List Value → Bool = λ p. not (same_values p.0 p.1) in
    gives (mapped t (λ (p : List Value × List Value). op.Put t p.1) (λ p. refl) (λ u p h. h) (filter test pairs))))))

delete_rows : (d : Database) (db : Name) (session : ℕ) (table : TableRef) (c : Option Cond) → Given (IsRowsOf (full_name db table)) (delete_effect d db session table c)
delete_rows d db session table c =
    let t = full_name db table in
    after _ (anyway (bound_in d t t.name)) (λ b _.
    after _ (anyway (condition (scope_of b db session) c)) (λ keeps _.
    gives (mapped t (λ (e : ℤ × List Value). op.Del t e.0) (λ e. refl) (λ u e h. h) (matching b.table keeps))))

rows_given : (s : Statement) (d : Database) (db : Name) (session : ℕ) (t : TableName) → rows_changed_by db s ≡ Some t → Given (IsRowsOf t) (effect s d db session)
unfolding effect
rows_given (statement.Select x) d db session t h = absurd cc
rows_given (statement.Insert i) d db session t h = subst (λ (u : TableName). Given (IsRowsOf u) (insert_effect d db i)) (some_is (full_name db i.table) t h) (insert_rows d db i)
rows_given (statement.Update u) d db session t h = subst (λ (v : TableName). Given (IsRowsOf v) (update_effect d db session u)) (some_is (full_name db u.table) t h) (update_rows d db session u)
rows_given (statement.Delete x) d db session t h = subst (λ (v : TableName). Given (IsRowsOf v) (delete_effect d db session x.table x.cond)) (some_is (full_name db x.table) t h) (delete_rows d db session x.table x.cond)
rows_given (statement.Truncate u) d db session t h = absurd cc
rows_given (statement.CreateTable u parts) d db session t h = absurd cc
rows_given (statement.DropTable u) d db session t h = absurd cc
rows_given (statement.CreateDb name) d db session t h = absurd cc
rows_given (statement.DropDb name) d db session t h = absurd cc
rows_given (statement.UseDb name) d db session t h = absurd cc
rows_given statement.Begin d db session t h = absurd cc
rows_given statement.Commit d db session t h = absurd cc
rows_given statement.Rollback d db session t h = absurd cc
rows_given (statement.Set x) d db session t h = absurd cc
rows_given statement.ShowStatus d db session t h = absurd cc
rows_given statement.FlushCache d db session t h = absurd cc
rows_given statement.FlushTables d db session t h = absurd cc
rows_given statement.ResetCache d db session t h = absurd cc

are_rows : (s : Statement) (d : Database) (db : Name) (session : ℕ) (t : TableName) (x : Effect) → rows_changed_by db s ≡ Some t → effect s d db session ≡ Ok x → IsRowsOf t x
are_rows s d db session t x h same = given_has (IsRowsOf t) (effect s d db session) x (rows_given s d db session t h) same

pub changes_are_rows : ChangesAreRows
changes_are_rows s d db session t x h same = (are_rows s d db session t x h same).rows

pub changes_are_of_table : ChangesAreOfTable
changes_are_of_table s d db session t u x h other same = (are_rows s d db session t x h same).others u other

-- ---- tables and databases

abbrev HasSome : Effect → Type 0
HasSome x = 0 < length x.operations

truncate_some : (d : Database) (db : Name) (table : TableRef) → Given HasSome (truncate_effect d db table)
truncate_some d db table = let t = full_name db table in after _ (anyway (bound_in d t t.name)) (λ b _. gives (omega arith))

form_some : (d : Database) (x : Effect) → IsOfForm d x → HasSome x
form_some d x f = f.some

some_given : (s : Statement) (d : Database) (db : Name) (session : ℕ) → changes_tables s ≡ true → Given HasSome (effect s d db session)
unfolding effect
some_given (statement.Select x) d db session h = absurd cc
some_given (statement.Insert i) d db session h = absurd cc
some_given (statement.Update u) d db session h = absurd cc
some_given (statement.Delete x) d db session h = absurd cc
some_given (statement.Truncate t) d db session h = truncate_some d db t
some_given (statement.CreateTable t parts) d db session h = weaker (form_some d) (create_given d db t parts)
some_given (statement.DropTable t) d db session h = weaker (form_some d) (drop_given d db t)
some_given (statement.CreateDb name) d db session h = weaker (form_some d) (create_db_given d name)
some_given (statement.DropDb name) d db session h = weaker (form_some d) (drop_db_given d name)
some_given (statement.UseDb name) d db session h = absurd cc
some_given statement.Begin d db session h = absurd cc
some_given statement.Commit d db session h = absurd cc
some_given statement.Rollback d db session h = absurd cc
some_given (statement.Set x) d db session h = absurd cc
some_given statement.ShowStatus d db session h = absurd cc
some_given statement.FlushCache d db session h = absurd cc
some_given statement.FlushTables d db session h = absurd cc
some_given statement.ResetCache d db session h = absurd cc

pub forms_change : FormsChange
forms_change s d db session x h same = given_has HasSome (effect s d db session) x (some_given s d db session h) same
