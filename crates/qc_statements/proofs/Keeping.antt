-- What a statement on rows does, and what a transaction keeps of it.
use Rattle.std.proofs.Common.{◌≡◌, true, List, [], refl, sym, ap, ◌∙◌, subst, Some, None, Ok, Err, true≢false, ◌⊎◌, inl, inr}
use Rattle.std.specs.Prelude.{IsSome, is_some}
use Rattle.qc_types.specs.declared.names.TableName.{TableName}
use Rattle.qc_types.specs.declared.options.Options.{Options}
use Rattle.qc_types.specs.declared.sql_error.SqlError.{SqlError}
use Rattle.qc_sql.specs.declared.tables.RowOp.{RowOp}
use Rattle.qc_sql.specs.declared.statements.Statement.{Statement}
use Rattle.qc_sql.specs.declared.statements.Statement.TheVariants as statement
use Rattle.qc_sql.specs.Database.{Name, Database, apply}
use Rattle.qc_sql.specs.Rules.{full_name}
use Rattle.qc_sql.specs.Effects.{Effect, effect}
use Rattle.qc_model.specs.Journal.{Journal, present}
use Rattle.qc_model.specs.Licence.{is_within_rows}
use Rattle.qc_model.specs.Machine.{full_table}
use Rattle.qc_model.specs.Session.{base}
use Rattle.qc_laws.specs.sizes.Names.{is_short_statement}
use Rattle.qc_laws.specs.sizes.Replies.{FitsError}
use Rattle.qc_laws.proofs.sizes.Changes.{change_errors_fit}
use Rattle.qc_laws.specs.fits.Sound.{rows_changed_by}
use Rattle.qc_laws.proofs.fits.Full.{within_is_not_full}
use Rattle.qc_laws.proofs.fits.RowChanges.{changes_are_rows}
use Rattle.qc_trx.specs.SnapshotStates.{SnapshotState, seen_on}
use Rattle.qc_statements.specs.Statements.{changes_rows}
use Rattle.qc_statements.specs.Sound.{IsSound, IsFitState, AreOwn}
use Rattle.qc_statements.proofs.Smalls.{change_follows}
use Rattle.qc_statements.proofs.States.{base_is, orderly_base, seen_there}

-- where a transaction is open when a statement on rows has arrived, it has a snapshot
pub snapshot_there : (x : SnapshotState) → x.state.transaction ≡ None ⊎ IsSome x.origin → is_some x.state.transaction ≡ true → is_some x.origin ≡ true
snapshot_there x (inl h) g = absurd (true≢false (sym g ∙ ap is_some h))
snapshot_there x (inr h) g = h

-- what it adds has room
pub added_room : (J : Journal) (x : SnapshotState) (ops : List RowOp) → IsFitState J x → is_some x.origin ≡ true → AreOwn ops (base x.state J) → full_table (apply ops (seen_on [] x)) ≡ None
added_room J x ops f there own =
    let follow = own.follow in
    let seen : seen_on [] x ≡ base x.state J = seen_there [] (present J) x there ∙ base_is J x f in
    within_is_not_full (apply ops (seen_on [] x)) (subst (λ (d : Database). is_within_rows (apply ops d) ≡ true) (sym seen) follow.within)

-- a refusal of a statement on what the session sees can be told of
pub effect_refused : {o : Options} (st : Statement) (J : Journal) (d : Database) (x : SnapshotState) (e : SqlError) → IsSound o J d → IsFitState J x → is_short_statement st ≡ true
    → effect st (base x.state J) x.state.db x.state.session ≡ Err e → FitsError e
effect_refused st J d x e s f short is =
    let orderly = orderly_base J d x s f in
    change_errors_fit st (base x.state J) x.state.db x.state.session e short orderly.bounded f.db is

-- ---- INSERT, UPDATE and DELETE

table_changed : (s : Statement) (db : Name) → changes_rows s ≡ true → (t : TableName) × (rows_changed_by db s ≡ Some t)
table_changed (statement.Insert i) db h = (full_name db i.table, refl)
table_changed (statement.Update u) db h = (full_name db u.table, refl)
table_changed (statement.Delete d) db h = (full_name db d.table, refl)
table_changed s db h = absurd (true≢false (sym h))

-- what one does there, the transaction may have as its own
pub rows_own : {o : Options} (st : Statement) (J : Journal) (d : Database) (x : SnapshotState) (e : Effect) → IsSound o J d → IsFitState J x → changes_rows st ≡ true → is_short_statement st ≡ true
    → effect st (base x.state J) x.state.db x.state.session ≡ Ok e → AreOwn e.operations (base x.state J)
rows_own st J d x e s f rows short is =
    let seen = base x.state J in
    let changed = table_changed st x.state.db rows in
    record {
      rows = changes_are_rows st seen x.state.db x.state.session changed.0 e changed.1 is;
      follow = change_follows st seen x.state.db x.state.session e short (orderly_base J d x s f) f.db is;
    }
