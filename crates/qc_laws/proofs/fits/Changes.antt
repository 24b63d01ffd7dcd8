-- What a statement does to a sound database fits, and leaves no table with more rows than it may have.
use Rattle.std.proofs.Common.{◌≡◌, ℕ, ℤ, true, false, List, [], ◌∷◌, refl, sym, subst, Ok}
use Rattle.std.specs.List.{AllByRecursion}
use Rattle.qc_types.specs.declared.names.TableName.{TableName}
use Rattle.qc_types.specs.declared.names.Value.{Value}
use Rattle.qc_sql.specs.declared.tables.RowOp.{RowOp}
use Rattle.qc_sql.specs.declared.statements.Statement.{Statement}
use Rattle.qc_sql.specs.declared.statements.Statement.TheVariants as statement
use Rattle.qc_sql.specs.Database.{Name, MapOf, Database, apply}
use Rattle.qc_sql.specs.Rules.{full_name}
use Rattle.qc_sql.specs.Effects.{Effect, effect}
use Rattle.qc_model.specs.Licence.{row_fits, ops_fit}
use Rattle.qc_model.specs.Sound.{IsSoundDatabase}
use Rattle.qc_laws.specs.fits.Laws.{ChangesFit, ChangesStayWithin}
use Rattle.qc_laws.proofs.fits.Given.{each_weaker, Given, gives, weaker, given_has}
use Rattle.qc_laws.proofs.fits.Columns.{columns_called}
use Rattle.qc_laws.proofs.fits.Stays.{table_is_sound}
use Rattle.qc_laws.proofs.fits.Tables.{puts_fit, dels, dels_fit}
use Rattle.qc_laws.proofs.fits.Inserts.{IsInsert, insert_given}
use Rattle.qc_laws.proofs.fits.Updates.{IsReplacement, IsUpdate, update_given, IsDelete, delete_given}
use Rattle.qc_laws.proofs.fits.Creates.{is_put, IsOfForm, create_given, drop_given, truncate_given, create_db_given, drop_db_given}
use Rattle.qc_laws.proofs.fits.Within.{IsWithin, within_from, within_to, none_within, inserts_within, updates_within, room_of}

-- operations that fit, and leave room
record AreGood (d : Database) (ops : List RowOp) : Type 0 where
  fit : ops_fit ops d ≡ true
  within : IsWithin d → IsWithin (apply ops d)

abbrev IsGood : Database → Effect → Type 0
IsGood d x = AreGood d x.operations

no_dels_put : (t : TableName) (gone : MapOf ℤ (List Value)) → AllByRecursion (λ o. is_put o ≡ false) (dels t gone)
no_dels_put t [] = tt
no_dels_put t (e ∷ es) = (refl, no_dels_put t es)

good_insert : (d : Database) (t : TableName) (x : Effect) → IsSoundDatabase d → IsInsert d t x → IsGood d x
good_insert d t x s i = subst (AreGood d) (sym i.operations) (record {
  fit = puts_fit t i.rows i.table d i.there i.fit;
  within = λ w. inserts_within t i.rows i.table d s i.there i.fit (i.room (room_of t i.table d i.there w)) w;
})

good_update : (d : Database) (t : TableName) (x : Effect) → IsSoundDatabase d → IsUpdate d t x → IsGood d x
good_update d t x s u = subst (AreGood d) (sym u.operations) (record {
  fit = puts_fit t u.rows u.table d u.there (each_weaker (IsReplacement u.table) (λ row. row_fits u.table.columns row ≡ true) (λ row h. h.0) u.rows u.fit);
  within = λ w. updates_within t u.rows u.table d s u.there u.fit w;
})

good_delete : (d : Database) (t : TableName) (x : Effect) → IsDelete d t x → IsGood d x
good_delete d t x g = subst (AreGood d) (sym g.operations) (record {
  fit = dels_fit t g.gone g.table d g.there g.rises g.found;
  within = λ w. none_within (dels t g.gone) d (no_dels_put t g.gone) w;
})

good_form : (d : Database) (x : Effect) → IsOfForm d x → IsGood d x
good_form d x f = record { fit = f.fit; within = λ w. none_within x.operations d f.none w }

nothing : (d : Database) → AreGood d []
nothing d = record { fit = refl; within = λ w. w }

good_given : (s : Statement) (d : Database) (db : Name) (session : ℕ) → IsSoundDatabase d → Given (IsGood d) (effect s d db session)
unfolding effect
good_given (statement.Select x) d db session s = gives (nothing d)
good_given (statement.Insert i) d db session s =
    let t = full_name db i.table in
    weaker (λ x h. good_insert d t x s h) (insert_given d db i (λ x there. columns_called x.columns (table_is_sound t x d s there).columns))
good_given (statement.Update u) d db session s =
    let t = full_name db u.table in
    weaker (λ x h. good_update d t x s h) (update_given d db session u (λ x there. table_is_sound t x d s there))
good_given (statement.Delete x) d db session s =
    let t = full_name db x.table in
    weaker (λ y h. good_delete d t y h) (delete_given d db session x.table x.cond (λ y there. table_is_sound t y d s there))
good_given (statement.Truncate t) d db session s = weaker (good_form d) (truncate_given d db t s (λ x there. (table_is_sound (full_name db t) x d s there).columns))
good_given (statement.CreateTable t parts) d db session s = weaker (good_form d) (create_given d db t parts)
good_given (statement.DropTable t) d db session s = weaker (good_form d) (drop_given d db t)
good_given (statement.CreateDb name) d db session s = weaker (good_form d) (create_db_given d name)
good_given (statement.DropDb name) d db session s = weaker (good_form d) (drop_db_given d name)
good_given (statement.UseDb name) d db session s = gives (nothing d)
good_given statement.Begin d db session s = gives (nothing d)
good_given statement.Commit d db session s = gives (nothing d)
good_given statement.Rollback d db session s = gives (nothing d)
good_given (statement.Set x) d db session s = gives (nothing d)
good_given statement.ShowStatus d db session s = gives (nothing d)
good_given statement.FlushCache d db session s = gives (nothing d)
good_given statement.FlushTables d db session s = gives (nothing d)
good_given statement.ResetCache d db session s = gives (nothing d)

good : (s : Statement) (d : Database) (db : Name) (session : ℕ) (x : Effect) → IsSoundDatabase d → effect s d db session ≡ Ok x → IsGood d x
good s d db session x sound same = given_has (IsGood d) (effect s d db session) x (good_given s d db session sound) same

pub changes_fit : ChangesFit
changes_fit s d db session x sound same = (good s d db session x sound same).fit

pub changes_stay_within : ChangesStayWithin
changes_stay_within s d db session x sound within same = within_to (apply x.operations d) ((good s d db session x sound same).within (within_from d within))
