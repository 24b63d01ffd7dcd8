-- What a statement of short names makes is small.
use Rattle.std.proofs.Common.{◌≡◌, ℕ, true, List, [], ◌∷◌, length, map, refl, Option, Some, None, Ok}
use Rattle.std.specs.Prelude.{◌&&◌, is_some, nat_lt, find, not, bytes_eq, codes}
use Rattle.std.specs.List.{list_all, list_any, filter_map}
use Rattle.std.proofs.lemmas.Bool.{and_parts, and_from}
use Rattle.qc_sql.specs.declared.tables.RowOp.{RowOp}
use Rattle.qc_sql.specs.declared.tables.RowOp.TheVariants as op
use Rattle.qc_sql.specs.declared.statements.Statement.{Statement}
use Rattle.qc_sql.specs.declared.statements.Statement.TheVariants as statement
use Rattle.qc_sql.specs.declared.statements.TableRef.{TableRef}
use Rattle.qc_sql.specs.declared.statements.Part.{Part}
use Rattle.qc_sql.specs.Database.{Name, Database, Tables, tables_of, table_of}
use Rattle.qc_sql.specs.Rules.{full_name}
use Rattle.qc_sql.specs.Rows.{bound_in, first_repeated}
use Rattle.qc_sql.specs.Effects.{Effect, new_column, new_key, marked, has_one_key, bad_length, known_database, create_effect, drop_effect, truncate_effect, create_db_effect, drop_db_of, effect}
use Rattle.qc_sql.specs.Errors.{table_exists, too_many_columns, duplicate_column, no_key_column, not_supported}
use Rattle.qc_laws.specs.sizes.Names.{is_short, passes_if_there, is_short_table, is_short_part, is_short_statement}
use Rattle.qc_laws.specs.sizes.Replies.{is_bounded_operation}
use Rattle.qc_laws.proofs.sizes.Changes.{changes_are_bounded}
use Rattle.qc_laws.specs.fits.Sound.{is_row_op, rows_changed_by}
use Rattle.qc_laws.proofs.fits.Given.{Given, gives, refuses, anyway, after, unless, unless_some, given_has}
use Rattle.qc_laws.proofs.fits.Changes.{changes_fit, changes_stay_within}
use Rattle.qc_laws.proofs.fits.RowChanges.{changes_are_rows}
use Rattle.qc_statements.specs.Sound.{IsOrderly, MayFollow}
use Rattle.qc_laws.specs.sizes.Operations.{makes_short_name, is_small_operation}

small_from : (ops : List RowOp) → list_all is_bounded_operation ops ≡ true → list_all makes_short_name ops ≡ true → list_all is_small_operation ops ≡ true
small_from [] h g = refl
small_from (o ∷ os) h g =
    let p = and_parts (is_bounded_operation o) (list_all is_bounded_operation os) h in
    let q = and_parts (makes_short_name o) (list_all makes_short_name os) g in
    and_from (is_small_operation o) (list_all is_small_operation os) (and_from (is_bounded_operation o) (makes_short_name o) p.0 q.0) (small_from os p.1 q.1)

-- ---- operations on rows make no name

row_makes : (o : RowOp) → is_row_op o ≡ true → makes_short_name o ≡ true
row_makes (op.Put t row) h = refl
row_makes (op.Del t key) h = refl
row_makes (op.CreateTable t columns) h = absurd cc
row_makes (op.DropTable t) h = refl
row_makes (op.CreateDb name) h = absurd cc
row_makes (op.DropDb name) h = refl

rows_make : (ops : List RowOp) → list_all is_row_op ops ≡ true → list_all makes_short_name ops ≡ true
rows_make [] h = refl
rows_make (o ∷ os) h =
    let p = and_parts (is_row_op o) (list_all is_row_op os) h in
    and_from (makes_short_name o) (list_all makes_short_name os) (row_makes o p.0) (rows_make os p.1)

-- ---- what the others make is named in the statement

abbrev Makes : Effect → Type 0
Makes x = list_all makes_short_name x.operations ≡ true

table_name : (table : TableRef) → is_short_table table ≡ true → is_short table.name ≡ true
table_name table h = (and_parts (passes_if_there is_short table.db) (is_short table.name) h).1

create_makes : (d : Database) (db : Name) (table : TableRef) (parts : List Part) → is_short_table table ≡ true → Given Makes (create_effect d db table parts)
create_makes d db table parts h =
    let t = full_name db table in
    let written = filter_map new_column parts in
    let keys = filter_map new_key parts in
    let columns = map (marked keys) written in
    after _ (anyway (known_database d t)) (λ _ _.
    after _ (unless (is_some (table_of t d)) (table_exists t)) (λ _ _.
    after _ (unless (nat_lt 64 (length written)) too_many_columns) (λ _ _.
    after _ (unless_some (first_repeated [] (map (λ c. c.name) written)) duplicate_column) (λ _ _.
    after _ (unless_some (find (λ k. not (list_any (λ c. bytes_eq c.name k) written)) keys) no_key_column) (λ _ _.
    after _ (unless (not (has_one_key written keys columns)) (not_supported (codes "primary key"))) (λ _ _.
    after _ (unless (list_any bad_length parts) (not_supported (codes "VARCHAR length"))) (λ _ _.
    gives (and_from (is_short table.name) true (table_name table h) refl))))))))

drop_makes : (d : Database) (db : Name) (table : TableRef) → Given Makes (drop_effect d db table)
drop_makes d db table = after _ (anyway (known_database d (full_name db table))) (λ _ _. after _ (anyway _) (λ _ _. gives refl))

truncate_makes : (d : Database) (db : Name) (table : TableRef) → is_short_table table ≡ true → Given Makes (truncate_effect d db table)
truncate_makes d db table h =
    let t = full_name db table in
    after _ (anyway (bound_in d t t.name)) (λ b _. gives (and_from (is_short table.name) true (table_name table h) refl))

create_db_makes : (d : Database) (name : Name) → is_short name ≡ true → Given Makes (create_db_effect d name)
create_db_makes d name h = after _ (anyway _) (λ _ _. gives (and_from (is_short name) true h refl))

drop_db_makes : (name : Name) (o : Option Tables) → Given Makes (drop_db_of name o)
drop_db_makes name None = refuses
drop_db_makes name (Some tables) = gives refl

forms_make : (s : Statement) (d : Database) (db : Name) (session : ℕ) → rows_changed_by db s ≡ None → is_short_statement s ≡ true → Given Makes (effect s d db session)
unfolding effect
forms_make (statement.Insert i) d db session rows h = absurd cc
forms_make (statement.Update u) d db session rows h = absurd cc
forms_make (statement.Delete x) d db session rows h = absurd cc
forms_make (statement.Truncate t) d db session rows h = truncate_makes d db t h
forms_make (statement.CreateTable t parts) d db session rows h = create_makes d db t parts (and_parts (is_short_table t) (list_all is_short_part parts) h).0
forms_make (statement.DropTable t) d db session rows h = drop_makes d db t
forms_make (statement.CreateDb name) d db session rows h = create_db_makes d name h
forms_make (statement.DropDb name) d db session rows h = drop_db_makes name (tables_of name d)
forms_make (statement.Select x) d db session rows h = gives refl
forms_make (statement.UseDb name) d db session rows h = gives refl
forms_make statement.Begin d db session rows h = gives refl
forms_make statement.Commit d db session rows h = gives refl
forms_make statement.Rollback d db session rows h = gives refl
forms_make (statement.Set x) d db session rows h = gives refl
forms_make statement.ShowStatus d db session rows h = gives refl
forms_make statement.FlushCache d db session rows h = gives refl
forms_make statement.FlushTables d db session rows h = gives refl
forms_make statement.ResetCache d db session rows h = gives refl

change_makes : (s : Statement) (d : Database) (db : Name) (session : ℕ) (x : Effect) → is_short_statement s ≡ true → effect s d db session ≡ Ok x → Makes x
change_makes s d db session x h e =
    elim (rows_changed_by db s) as (λ o. rows_changed_by db s ≡ o → Makes x) [
      | Some t ↦ λ rows. rows_make x.operations (changes_are_rows s d db session t x rows e)
      | None ↦ λ rows. given_has Makes (effect s d db session) x (forms_make s d db session rows h) e
    ] refl

pub change_small : (s : Statement) (d : Database) (db : List ℕ) (session : ℕ) (x : Effect) → is_short_statement s ≡ true → IsOrderly d → is_short db ≡ true → effect s d db session ≡ Ok x
    → list_all is_small_operation x.operations ≡ true
change_small s d db session x h o n e = small_from x.operations (changes_are_bounded s d db session x h o.bounded n e) (change_makes s d db session x h e)

-- what a statement does to an orderly database may be carried out
pub change_follows : (s : Statement) (d : Database) (db : Name) (session : ℕ) (x : Effect) → is_short_statement s ≡ true → IsOrderly d → is_short db ≡ true → effect s d db session ≡ Ok x → MayFollow x.operations d
change_follows s d db session x short o named is = record {
  small = change_small s d db session x short o named is;
  fit = changes_fit s d db session x o.sound is;
  within = changes_stay_within s d db session x o.sound o.within is;
}
