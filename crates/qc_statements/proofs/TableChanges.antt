-- A statement that changes tables or databases, behind the operations of the transaction that it ends.
use Rattle.std.proofs.Common.{◌≡◌, ◌<◌, true, List, ◌++◌, length, refl, sym, ap, ◌∙◌, subst, None, Some, Ok, Err}
use Rattle.qc_types.specs.declared.names.TableName.{TableName}
use Rattle.qc_types.specs.declared.options.Options.{Options}
use Rattle.qc_types.specs.declared.sql_error.SqlError.{SqlError}
use Rattle.qc_sql.specs.declared.tables.RowOp.{RowOp}
use Rattle.qc_sql.specs.declared.statements.Select.{Select}
use Rattle.qc_sql.specs.declared.statements.Insert.{Insert}
use Rattle.qc_sql.specs.declared.statements.Update.{Update}
use Rattle.qc_sql.specs.declared.statements.Delete.{Delete}
use Rattle.qc_sql.specs.declared.statements.Setting.{Setting}
use Rattle.qc_sql.specs.declared.statements.Statement.{Statement}
use Rattle.qc_sql.specs.declared.statements.Statement.TheVariants as statement
use Rattle.qc_sql.specs.Database.{Name, Database, apply}
use Rattle.qc_sql.specs.Effects.{Effect, effect}
use Rattle.qc_sql.specs.Errors.{table_full}
use Rattle.qc_laws.specs.sizes.Names.{is_short_statement}
use Rattle.qc_laws.specs.sizes.Replies.{FitsError}
use Rattle.qc_laws.specs.fits.Sound.{changes_tables}
use Rattle.qc_laws.proofs.fits.RowChanges.{forms_change}
use Rattle.qc_laws.proofs.sizes.Changes.{change_errors_fit}
use Rattle.qc_model.specs.declared.events.Who.{Who}
use Rattle.qc_model.specs.Journal.{Journal, present}
use Rattle.qc_model.specs.Session.{State, own_operations}
use Rattle.qc_model.specs.Machine.{changed_form, conflict_in, form_given, full_table}
use Rattle.qc_table.specs.Fitting.{fitting}
use Rattle.qc_trx.specs.SnapshotStates.{SnapshotState}
use Rattle.qc_statements.specs.Ends.{MayTry, full_given}
use Rattle.qc_statements.specs.Sound.{IsSound, IsFitState, IsOrderly, MayFollow}
use Rattle.qc_statements.proofs.Endings.{forms_end, full_ends, full_fits, tried_follows}
use Rattle.qc_statements.proofs.Fitting.{has_room, is_full}
use Rattle.qc_statements.proofs.Smalls.{change_follows}
use Rattle.qc_statements.proofs.Sounds.{stays_orderly}
use Rattle.qc_statements.proofs.States.{follow_more}

-- ---- the database behind the operations

-- what is known of it where it has room
pub record Behind (J : Journal) (d made : Database) (own : List RowOp) : Type 0 where
  pub room : full_table (apply own (present J)) ≡ None
  pub is_present : made ≡ apply own (present J)
  pub follow : MayFollow own d
  pub orderly : IsOrderly made
  pub same : made ≡ apply own d

pub behind : {o : Options} (J : Journal) (d made : Database) (own : List RowOp) → IsSound o J d → MayTry own (present J) → fitting (apply own d) ≡ Ok made → Behind J d made own
behind J d made own s try fits =
    let room = has_room (apply own d) made fits in
    let follow : MayFollow own d = tried_follows own d (subst (λ (x : Database). MayTry own x) (sym s.database) try) room.0 in
    record {
      room = ap (λ (x : Database). full_table (apply own x)) (sym s.database) ∙ room.0;
      is_present = room.1 ∙ ap (apply own) s.database;
      follow = follow;
      orderly = subst IsOrderly (sym room.1) (stays_orderly own d s.orderly follow.small follow.fit follow.within);
      same = room.1;
    }

-- ---- what is given

-- a table would be too full with the operations
pub forms_full : {o : Options} (J : Journal) (d : Database) (state : State) (s : Statement) (own : List RowOp) (t : TableName) → IsSound o J d → own ≡ own_operations state → conflict_in state J ≡ None
    → fitting (apply own d) ≡ Err t → (who : Who) → full_given who state t ≡ changed_form who state J s
forms_full J d state s own t sound is alone fits who =
    let full : full_table (apply (own_operations state) (present J)) ≡ Some t = ap (λ (x : Database). full_table (apply (own_operations state) x)) (sym sound.database) ∙ ap (λ (os : List RowOp). full_table (apply os d)) (sym is) ∙ is_full (apply own d) t fits in
    full_ends who J state t (λ os. form_given who state os (effect s (apply os (present J)) state.db state.session)) alone full

pub forms_full_fits : {o : Options} (J : Journal) (d : Database) (own : List RowOp) (t : TableName) → IsSound o J d → MayTry own (present J) → fitting (apply own d) ≡ Err t → FitsError (table_full t)
forms_full_fits J d own t s try fits = full_fits own d t s.orderly (subst (λ (x : Database). MayTry own x) (sym s.database) try) (is_full (apply own d) t fits)

-- the statement's own effect behind them, or its refusal
pub forms_given : (J : Journal) (d made : Database) (state : State) (s : Statement) (own : List RowOp) (r : _) → own ≡ own_operations state → conflict_in state J ≡ None → Behind J d made own
    → effect s made state.db state.session ≡ r → (who : Who) → form_given who state (own_operations state) r ≡ changed_form who state J s
forms_given J d made state s own r is alone b e who =
    let room : full_table (apply (own_operations state) (present J)) ≡ None = ap (λ (os : List RowOp). full_table (apply os (present J))) (sym is) ∙ b.room in
    let there : made ≡ apply (own_operations state) (present J) = b.is_present ∙ ap (λ (os : List RowOp). apply os (present J)) is in
    forms_end who J state s r alone room (ap (λ (x : Database). effect s x state.db state.session) (sym there) ∙ e)

pub forms_good : (J : Journal) (d made : Database) (x : SnapshotState) (s : Statement) (own : List RowOp) (e : Effect) → own ≡ own_operations x.state → IsFitState J x → Behind J d made own
    → changes_tables s ≡ true → is_short_statement s ≡ true → effect s made x.state.db x.state.session ≡ Ok e → (0 < length e.operations) × MayFollow (own_operations x.state ++ e.operations) d
forms_good J d made x s own e is f b forms short done = (
  forms_change s made x.state.db x.state.session e forms done,
  subst (λ (os : List RowOp). MayFollow (os ++ e.operations) d) is
      (follow_more own e.operations d b.follow (subst (λ (y : Database). MayFollow e.operations y) b.same (change_follows s made x.state.db x.state.session e short b.orderly f.db done))),
)

pub forms_refusal_fits : (J : Journal) (d made : Database) (x : SnapshotState) (s : Statement) (own : List RowOp) (e : SqlError) → IsFitState J x → Behind J d made own → is_short_statement s ≡ true
    → effect s made x.state.db x.state.session ≡ Err e → FitsError e
forms_refusal_fits J d made x s own e f b short is =
    let orderly = b.orderly in
    change_errors_fit s made x.state.db x.state.session e short orderly.bounded f.db is

-- ---- which statements these are

-- a statement of no other kind
pub record IsLeft (s : Statement) : Type 0 where
  pub select : (x : Select) → s ≡ statement.Select x → ⊥
  pub insert : (x : Insert) → s ≡ statement.Insert x → ⊥
  pub update : (x : Update) → s ≡ statement.Update x → ⊥
  pub delete : (x : Delete) → s ≡ statement.Delete x → ⊥
  pub use_db : (x : Name) → s ≡ statement.UseDb x → ⊥
  pub begin : s ≡ statement.Begin → ⊥
  pub commit : s ≡ statement.Commit → ⊥
  pub rollback : s ≡ statement.Rollback → ⊥
  pub set : (x : Setting) → s ≡ statement.Set x → ⊥
  pub show : s ≡ statement.ShowStatus → ⊥
  pub flush_cache : s ≡ statement.FlushCache → ⊥
  pub flush_tables : s ≡ statement.FlushTables → ⊥
  pub reset : s ≡ statement.ResetCache → ⊥

pub left_changes_tables : (s : Statement) → IsLeft s → changes_tables s ≡ true
left_changes_tables (statement.Select x) l = absurd (l.select x refl)
left_changes_tables (statement.Insert x) l = absurd (l.insert x refl)
left_changes_tables (statement.Update x) l = absurd (l.update x refl)
left_changes_tables (statement.Delete x) l = absurd (l.delete x refl)
left_changes_tables (statement.UseDb x) l = absurd (l.use_db x refl)
left_changes_tables statement.Begin l = absurd (l.begin refl)
left_changes_tables statement.Commit l = absurd (l.commit refl)
left_changes_tables statement.Rollback l = absurd (l.rollback refl)
left_changes_tables (statement.Set x) l = absurd (l.set x refl)
left_changes_tables statement.ShowStatus l = absurd (l.show refl)
left_changes_tables statement.FlushCache l = absurd (l.flush_cache refl)
left_changes_tables statement.FlushTables l = absurd (l.flush_tables refl)
left_changes_tables statement.ResetCache l = absurd (l.reset refl)
left_changes_tables (statement.Truncate t) l = refl
left_changes_tables (statement.CreateTable t parts) l = refl
left_changes_tables (statement.DropTable t) l = refl
left_changes_tables (statement.CreateDb name) l = refl
left_changes_tables (statement.DropDb name) l = refl
